-- What an example says: a text, with the built-in references, is shown as this HTML.
use Rattle.std.proofs.Common.{◌≡◌}
use Rattle.std.specs.Prelude.{codes}
use Prim.Native.String.{String}
use Rattle.doc_rules.specs.Characters.{Text}
use Rattle.doc_rules.specs.Rules.{built_in_rules}
use Rattle.doc_rules.specs.Html.{rendered_plain}

infix 25 ◌shows◌ ◌gives◌
abbrev pub ◌gives◌ : Text → Text → Type 0
input gives output = rendered_plain built_in_rules input ≡ output

abbrev pub ◌shows◌ : String → String → Type 0
input shows output = codes input gives codes output
