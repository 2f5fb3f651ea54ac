-- Replies to owners who edit pages, or read their source.
use Rattle.std.specs.Prelude.{ℕ, ◌==◌, ◌&&◌, not, Bool, false, List, [], ◌++◌, Option, Some, None, codes, if◌then◌else◌}
use Rattle.doc_http_replies.specs.Heads.{cache_line, head_of, nosniff_line}
use Rattle.doc_http_replies.specs.PeopleReplies.{typed_lines}
use Rattle.doc_http_replies.specs.Replies.{close_line, content_type, field_line, status_of, where_true}

-- A reply to an owner who edits pages or reads their source: its code; of 200 the text of the page; with other codes why, where that is
-- told; the tag and the groups of the page, where they are told.
pub record EditReply : Type 0 where
  pub code : ℕ
  pub text : List ℕ
  pub why : Option (List ℕ)
  pub tag : Option (List ℕ)
  pub groups : Option (List ℕ)

-- why, on a line of its own
abbrev pub why_line : Option (List ℕ) → List ℕ
why_line None = []
why_line (Some why) = why ++ codes "\n"

-- the content: of 200 the text, else the status and LF, and behind it why (this project's choice)
abbrev pub edit_content : EditReply → List ℕ
edit_content reply = if reply.code == 200 then reply.text else status_of reply.code ++ codes "\n" ++ why_line reply.why

-- whether a reply of the code has a content (RFC 9110, sections 15.3.5 and 15.4.5)
abbrev pub has_content : ℕ → Bool
has_content code = not (code == 204) && not (code == 304)

-- which text of the page is told of (RFC 9110, section 8.8.3)
abbrev pub tag_line : Option (List ℕ) → List ℕ
tag_line None = []
tag_line (Some tag) = field_line (codes "ETag") tag

-- the groups that the page is for, of which there may be none (this project's choice)
abbrev pub groups_line : Option (List ℕ) → List ℕ
groups_line None = []
groups_line (Some names) = field_line (codes "Docs-Groups") names

-- what keeps a text to its owner and to its type; of 304, which is of the same text, the first
abbrev pub edit_guards : ℕ → List ℕ
edit_guards code = if code == 200 then nosniff_line ++ cache_line else where_true (code == 304) cache_line

-- the field lines of a reply
abbrev pub edit_lines : EditReply → Bool → List ℕ
edit_lines reply close =
    where_true (has_content reply.code) (typed_lines (content_type false) (edit_content reply)) ++ tag_line reply.tag
    ++ groups_line reply.groups ++ (edit_guards reply.code ++ close_line close)

-- the bytes of a reply: its head, and its content where it has one and more than the head is asked for
unfoldable pub edit_bytes : EditReply → Bool → Bool → List ℕ
edit_bytes reply head_only close =
    head_of reply.code (edit_lines reply close) ++ where_true (not head_only && has_content reply.code) (edit_content reply)
