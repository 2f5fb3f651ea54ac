-- Words in which the steps of a reload are stated.
use Rattle.std.specs.Prelude.{List, [], Bool, true, false, Option, Some, None, if◌then◌else◌}
use Rattle.doc_store.specs.declared.site_edit.SiteEdit.{SiteEdit}
use Rattle.doc_hub_events.specs.declared.outcome.Outcome.{Outcome}
use Rattle.doc_hub_events.specs.declared.outcome.Outcome.TheVariants as outcomes
use Rattle.doc_hub_events.specs.declared.refusal.Refusal.{Refusal}
use Rattle.doc_hub_events.specs.declared.refusal.Refusal.TheVariants as refusals

-- some edits, unless they aren't needed
abbrev pub unless : Bool → List SiteEdit → List SiteEdit
unless needless edits = if needless then [] else edits

-- that an edit isn't accepted, unless memory ran out
abbrev pub if_refused : Refusal → Option Bool
if_refused refusals.Memory = None
if_refused refusal = Some false

-- whether an edit is accepted, by what came of it, unless memory ran out
abbrev pub is_accepted : Outcome → Option Bool
is_accepted (outcomes.Refused refusal) = if_refused refusal
is_accepted outcome = Some true
