-- What a configuration that is read anew gives. All of this is this project's choice.
use Rattle.std.specs.Prelude.{◌≤◌, ⊤, ℕ, Option, Some, None}
use Rattle.doc_server_files.specs.Configured.{IsConfigured}
use Rattle.doc_server_serving.specs.declared.given.Given.{Given}
use Rattle.doc_server_serving.specs.declared.given.Given.TheVariants as givens

-- What somebody who has given so many configurations has answered: where none was given yet, none, and of each the pages are a
-- configuration's; and never records.
abbrev pub HasAnswered : ℕ → Option Given → Type 0
HasAnswered count None = ⊤
HasAnswered count (Some (givens.Configuration given)) = (1 ≤ count) × IsConfigured given.pages
HasAnswered count (Some (givens.Records texts)) = ⊥
