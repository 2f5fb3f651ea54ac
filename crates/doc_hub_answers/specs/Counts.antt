-- How often texts are rendered: once for each put that is accepted, a change of groups among them, once for each preview, and for nothing
-- else, where memory suffices.
use Rattle.std.specs.Prelude.{◌≡◌, ℕ, ◌+◌, Bool, true, false, Option, Some}
use Rattle.doc_hub_answers.specs.declared.edit.Edit.{Edit}
use Rattle.doc_hub_answers.specs.declared.edit.Edit.TheVariants as edits

-- Between two counts of renderings and two counts of accepted puts and moves, so many of them moves, with so many previews: as many texts
-- were rendered as puts were accepted and previews shown.
abbrev pub RendersPuts : ℕ → ℕ → ℕ → ℕ → ℕ → ℕ → Type 0
RendersPuts rendered accepted rendered' accepted' moves previews = rendered' + moves + accepted ≡ rendered + accepted' + previews

-- how many moves the edit of a request is
abbrev pub moves_of : Option Edit → ℕ
moves_of (Some (edits.Move from to)) = 1
moves_of edit = 0

-- how many previews a reply is, by whether it shows one
abbrev pub previews_of : Bool → ℕ
previews_of true = 1
previews_of false = 0
