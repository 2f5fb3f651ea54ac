-- What a request asks of the source of a page. All of this is this project's choice.
use Rattle.std.specs.Prelude.{ℕ, List}
use Rattle.doc_http_replies.specs.declared.reply.Allow.{Allow}

-- To read the text of a page, to put one at its source or at the page itself, to remove it, to change its groups, to move it, to open the
-- form that edits it, to see what a text would look like there; or something that a resource hasn't. REST is as the target writes it.
pub data EditRequest : Type 0 where
  ReadSource : List ℕ → EditRequest
  PutSource : List ℕ → EditRequest
  PutPage : List ℕ → EditRequest
  Remove : List ℕ → EditRequest
  Regroup : List ℕ → EditRequest
  Move : List ℕ → EditRequest
  Open : List ℕ → EditRequest
  Preview : List ℕ → EditRequest
  NotAllowed : Allow → EditRequest
