-- Replies whose heads have further lines, which the settings of a site ask for.
use Rattle.std.specs.Prelude.{ℕ, ◌==◌, ◌&&◌, not, Bool, false, List, ◌++◌, Option, Some, None, codes, if◌then◌else◌}
use Rattle.doc_http_replies.specs.declared.reply.Reply.{Reply}
use Rattle.doc_http_replies.specs.Challenges.{basic_challenge, bearer_challenge}
use Rattle.doc_http_replies.specs.Replies.{allow_line, challenge_line, close_line, content_lines, content_of, field_line, location_line, status_of, where_true}

-- What the settings ask for: a policy with each page of HTML, that no shared cache keeps the reply, and a way to sign in for browsers, by
-- the title of the site.
pub record Dress : Type 0 where
  pub guarded : Bool
  pub private : Bool
  pub realm : Option (List ℕ)

-- nothing of it
abbrev pub undressed : Dress
undressed = record { guarded = false; private = false; realm = None }

-- What the HTML of a page may do (Content Security Policy Level 3, section 6; `sandbox`: HTML, section 7.1.5). No script of it runs, it has
-- no style of its own, and no form of it sends anything out of the site. This project's choice.
unfoldable pub policy : List ℕ
policy =
    codes "default-src 'none'; style-src 'self'; img-src 'self' https: data:; form-action 'self'; base-uri 'none'; frame-ancestors 'none'; sandbox allow-same-origin allow-forms allow-popups allow-popups-to-escape-sandbox allow-downloads"

unfoldable pub policy_line : List ℕ
policy_line = field_line (codes "Content-Security-Policy") policy

-- that the content is what its type says (Fetch, section 3.6)
unfoldable pub nosniff_line : List ℕ
nosniff_line = field_line (codes "X-Content-Type-Options") (codes "nosniff")

-- that no other site is told the address of the page (Referrer Policy, section 3.4)
unfoldable pub referrer_line : List ℕ
referrer_line = field_line (codes "Referrer-Policy") (codes "same-origin")

-- that no shared cache keeps the reply, and that a browser asks anew (RFC 9111, sections 5.2.2.4 and 5.2.2.7)
unfoldable pub cache_line : List ℕ
cache_line = field_line (codes "Cache-Control") (codes "private, no-cache")

-- that another client is answered something else at the same address (RFC 9110, section 12.5.5)
unfoldable pub vary_line : List ℕ
vary_line = field_line (codes "Vary") (codes "Accept, Authorization")

-- the two of them
abbrev pub private_lines : List ℕ
private_lines = cache_line ++ vary_line

-- one way to sign in
abbrev pub challenge_field : List ℕ → List ℕ
challenge_field challenge = field_line (codes "WWW-Authenticate") challenge

-- How to ask again after 401: as programs do, and where the site has a realm for browsers, as these do first. (A line each: parsers of one
-- line with several challenges fail at its commas.)
abbrev pub challenge_lines : Option (List ℕ) → ℕ → List ℕ
challenge_lines None code = challenge_line code
challenge_lines (Some title) code =
    where_true (code == 401) (challenge_field (basic_challenge title) ++ challenge_field bearer_challenge)

-- whether a reply is a page of HTML
abbrev pub is_html : Reply → Bool
is_html reply = (reply.code == 200) && reply.html

-- what keeps a reply to its reader, and its HTML from acting by itself
abbrev pub guard_lines : Bool → Bool → List ℕ
guard_lines guarded private =
    if guarded then policy_line ++ nosniff_line ++ private_lines else where_true private private_lines

-- the field lines of a reply
abbrev pub dressed_lines : Dress → Reply → Bool → List ℕ
dressed_lines dress reply close =
    content_lines reply ++ location_line reply.location ++ allow_line reply.allow ++ challenge_lines dress.realm reply.code
    ++ (guard_lines (dress.guarded && is_html reply) dress.private ++ close_line close)

-- the head of a reply with this code and these field lines, and the empty line that ends it (RFC 9112, sections 2.1 and 4)
abbrev pub head_of : ℕ → List ℕ → List ℕ
head_of code lines = codes "HTTP/1.1 " ++ status_of code ++ codes "\r\n" ++ lines ++ codes "\r\n"

unfoldable pub dressed_head : Dress → Reply → Bool → List ℕ
dressed_head dress reply close = head_of reply.code (dressed_lines dress reply close)

-- the bytes of a reply: its head, and its content where it has one and more than the head is asked for (RFC 9112, section 6.3)
unfoldable pub dressed_bytes : Dress → Reply → Bool → Bool → List ℕ
dressed_bytes dress reply head_only close =
    dressed_head dress reply close ++ where_true (not head_only && not (reply.code == 204)) (content_of reply)
