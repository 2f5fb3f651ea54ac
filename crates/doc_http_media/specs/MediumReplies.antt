-- Replies that are a medium: a picture, or another file that stands beside the pages.
use Rattle.std.specs.Prelude.{ℕ, not, Bool, List, ◌++◌, codes}
use Rattle.doc_http_replies.specs.Heads.{head_of, nosniff_line, private_lines}
use Rattle.doc_http_replies.specs.PeopleReplies.{typed_lines}
use Rattle.doc_http_replies.specs.Replies.{close_line, field_line, where_true}

-- A reply that is a medium: its type (RFC 9110, section 8.3), whether a browser is to box it in, whether it is to save it, whether no
-- shared cache keeps it, and its bytes.
pub record MediumReply : Type 0 where
  pub kind : List ℕ
  pub boxed : Bool
  pub saved : Bool
  pub private : Bool
  pub body : List ℕ

-- What stands in it belongs to no site, runs no script and loads nothing; styles of its own it may have (Content Security Policy Level 3,
-- section 6; `sandbox`: HTML, section 7.1.5). This project's choice.
unfoldable pub box_line : List ℕ
box_line = field_line (codes "Content-Security-Policy") (codes "default-src 'none'; style-src 'unsafe-inline'; sandbox")

-- that a browser saves it (RFC 6266, section 4.2); the name is the last part of its address
unfoldable pub saved_line : List ℕ
saved_line = field_line (codes "Content-Disposition") (codes "attachment")

-- the field lines of the reply
abbrev pub medium_lines : MediumReply → Bool → List ℕ
medium_lines reply close =
    typed_lines reply.kind reply.body ++ where_true reply.boxed box_line ++ nosniff_line ++ where_true reply.saved saved_line
    ++ where_true reply.private private_lines ++ close_line close

-- the bytes of the reply: its head, and the medium where more than the head is asked for
unfoldable pub medium_bytes : MediumReply → Bool → Bool → List ℕ
medium_bytes reply head_only close = head_of 200 (medium_lines reply close) ++ where_true (not head_only) reply.body
