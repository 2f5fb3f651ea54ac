-- Replies that show a page to a person, and that of the style sheet of these pages.
use Rattle.std.specs.Prelude.{ℕ, ◌==◌, not, Bool, true, List, ◌++◌, Option, Some, None, length, codes, decimal}
use Rattle.doc_http_replies.specs.Challenges.{basic_challenge, bearer_challenge}
use Rattle.doc_http_replies.specs.Heads.{challenge_field, head_of, nosniff_line, private_lines, referrer_line}
use Rattle.doc_http_replies.specs.Replies.{close_line, content_type, field_line, location_line, where_true}

-- A reply to a person: its code, with 301 where the page is, with 401 the title of the site where readers may sign in as browsers do, what
-- the HTML of the page may do (Content Security Policy Level 3, section 6), and the page, which is HTML whatever the code.
pub record PeopleReply : Type 0 where
  pub code : ℕ
  pub location : Option (List ℕ)
  pub realm : Option (List ℕ)
  pub policy : List ℕ
  pub body : List ℕ

-- the type and the length of a content
unfoldable pub typed_lines : List ℕ → List ℕ → List ℕ
typed_lines type content = field_line (codes "Content-Type") type ++ field_line (codes "Content-Length") (decimal (length content))

-- how a person signs in: as browsers do where the site has a realm for them (none of them knows the other way), and else as programs do
abbrev pub people_challenge : Option (List ℕ) → List ℕ
people_challenge None = bearer_challenge
people_challenge (Some title) = basic_challenge title

-- the same after 401
abbrev pub people_challenge_line : Option (List ℕ) → ℕ → List ℕ
people_challenge_line realm code = where_true (code == 401) (challenge_field (people_challenge realm))

-- what keeps a page to its reader, its HTML from acting by itself, and its address in the site
abbrev pub people_guards : List ℕ → List ℕ
people_guards policy = field_line (codes "Content-Security-Policy") policy ++ nosniff_line ++ referrer_line ++ private_lines

abbrev pub people_lines : PeopleReply → Bool → List ℕ
people_lines reply close =
    typed_lines (content_type true) reply.body ++ location_line reply.location ++ people_challenge_line reply.realm reply.code
    ++ (people_guards reply.policy ++ close_line close)

-- the bytes of a reply to a person: its head, and the page where more than the head is asked for
unfoldable pub people_bytes : PeopleReply → Bool → Bool → List ℕ
people_bytes reply head_only close = head_of reply.code (people_lines reply close) ++ where_true (not head_only) reply.body

-- That any cache may keep the style sheet, for a day, since another sheet has another address (RFC 9111, sections 5.2.2.1 and 5.2.2.9).
-- This project's choice.
unfoldable pub sheet_cache_line : List ℕ
sheet_cache_line = field_line (codes "Cache-Control") (codes "public, max-age=86400")

abbrev pub style_sheet_lines : List ℕ → Bool → List ℕ
style_sheet_lines sheet close =
    typed_lines (codes "text/css; charset=utf-8") sheet ++ nosniff_line ++ sheet_cache_line ++ close_line close

-- the bytes of the reply with the style sheet, which is the same for all
unfoldable pub style_sheet_bytes : List ℕ → Bool → Bool → List ℕ
style_sheet_bytes sheet head_only close = head_of 200 (style_sheet_lines sheet close) ++ where_true (not head_only) sheet
