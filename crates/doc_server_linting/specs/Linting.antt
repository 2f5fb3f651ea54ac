-- What the command `lint` tells.
use Rattle.std.specs.Prelude.{◌≡◌, ℕ, List, true, Some}
use Rattle.toml.specs.Data.{Members}
use Rattle.toml.specs.Parse.{parse_document}
use Rattle.doc_server_lint.specs.Laws.{is_taken}

-- A text is a document, and all that `listen` reads of it is taken.
pub record IsTaken (text : List ℕ) : Type 0 where
  pub document : Members
  pub is_read : parse_document text ≡ Some document
  pub taken : is_taken document ≡ true
