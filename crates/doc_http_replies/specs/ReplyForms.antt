-- Replies by the forms that they have.
use Rattle.std.specs.Prelude.{ℕ, Bool, false, List, [], Option, Some, None}
use Rattle.doc_http_replies.specs.declared.reply.Allow.{Allow}
use Rattle.doc_http_replies.specs.declared.reply.Reply.{Reply}
use Rattle.doc_http_replies.specs.declared.reply_form.ReplyForm.{ReplyForm}
use Rattle.doc_http_replies.specs.declared.reply_form.ReplyForm.TheVariants as forms
use Rattle.doc_http_replies.specs.declared.status.Status.{Status}
use Rattle.doc_http_replies.specs.declared.status.Status.TheVariants as statuses

-- the codes of statuses (RFC 9110, section 15; 431: RFC 6585, section 5; 507: RFC 4918, section 11.5)
abbrev pub code_of : Status → ℕ
code_of statuses.Created = 201
code_of statuses.NoContent = 204
code_of statuses.BadRequest = 400
code_of statuses.Unauthorized = 401
code_of statuses.Forbidden = 403
code_of statuses.NotFound = 404
code_of statuses.ContentTooLarge = 413
code_of statuses.UnsupportedMediaType = 415
code_of statuses.RequestHeaderFieldsTooLarge = 431
code_of statuses.NotImplemented = 501
code_of statuses.InsufficientStorage = 507

-- a reply with a body of its own: a page, or a listing
abbrev pub content_reply : Bool → List ℕ → Reply
content_reply html body = record { code = 200; html = html; allow = None; location = None; body = body }

-- a reply without one
abbrev pub plain_reply : ℕ → Option Allow → Option (List ℕ) → Reply
plain_reply code allow location = record { code = code; html = false; allow = allow; location = location; body = [] }

-- the reply of a form
abbrev pub reply_of : ReplyForm → Reply
reply_of (forms.Moved location) = plain_reply 301 None (Some location)
reply_of (forms.NotAllowed allow) = plain_reply 405 (Some allow) None
reply_of (forms.Status status) = plain_reply (code_of status) None None
