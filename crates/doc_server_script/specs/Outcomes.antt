-- Outcomes as lines, without their line feed. All of this is this project's choice.
use Rattle.std.specs.Prelude.{ℕ, List, ◌++◌, Bool, codes, decimal, if◌then◌else◌}
use Rattle.doc_store_readers.specs.declared.readers.Set.{Set}
use Rattle.doc_store_readers.specs.declared.readers.Set.TheVariants as sets
use Rattle.doc_store.specs.declared.store.Put.{Put}
use Rattle.doc_store.specs.declared.store.Put.TheVariants as puts
use Rattle.doc_hub_events.specs.declared.event.Step.{Step}
use Rattle.doc_hub_events.specs.declared.event.Step.TheVariants as steps
use Rattle.doc_hub_events.specs.declared.outcome.Outcome.{Outcome}
use Rattle.doc_hub_events.specs.declared.outcome.Outcome.TheVariants as outcomes
use Rattle.doc_hub_events.specs.declared.refusal.Refusal.{Refusal}
use Rattle.doc_hub_events.specs.declared.refusal.Refusal.TheVariants as refusals
use Rattle.doc_server_script.specs.Escapes.{escaped}

abbrev pub truth_word : Bool → List ℕ
truth_word b = if b then codes "true" else codes "false"

abbrev pub put_word : Put → List ℕ
put_word puts.Created = codes "created"
put_word puts.Replaced = codes "replaced"

abbrev pub set_word : Set → List ℕ
set_word sets.Added = codes "added"
set_word sets.Replaced = codes "replaced"

abbrev pub refusal_name : Refusal → List ℕ
refusal_name refusals.NoIds = codes "NoIds"
refusal_name refusals.NoConnection = codes "NoConnection"
refusal_name refusals.Closed = codes "Closed"
refusal_name refusals.Backlog = codes "Backlog"
refusal_name refusals.TooLong = codes "TooLong"
refusal_name refusals.StoreFull = codes "StoreFull"
refusal_name refusals.NoPage = codes "NoPage"
refusal_name refusals.Taken = codes "Taken"
refusal_name refusals.BadToken = codes "BadToken"
refusal_name refusals.Memory = codes "Memory"

-- a step, with the bytes of its reply
abbrev pub step_line : Step → List ℕ
step_line (steps.Sent bytes) = codes "sent " ++ escaped bytes
step_line (steps.Last bytes) = codes "last " ++ escaped bytes
step_line steps.More = codes "more"
step_line steps.Closed = codes "closed"

abbrev pub outcome_line : Outcome → List ℕ
outcome_line (outcomes.Conn id) = codes "conn " ++ decimal id.0
outcome_line outcomes.Pushed = codes "ok"
outcome_line (outcomes.Stepped step) = step_line step
outcome_line (outcomes.Disconnected stood) = truth_word stood
outcome_line (outcomes.Edited put) = put_word put
outcome_line (outcomes.Removed stood) = truth_word stood
outcome_line outcomes.Moved = codes "moved"
outcome_line (outcomes.ReaderSet set) = set_word set
outcome_line (outcomes.ReaderRemoved stood) = truth_word stood
outcome_line outcomes.ReadersSet = codes "ok"
outcome_line outcomes.PutsSet = codes "ok"
outcome_line outcomes.MediaSet = codes "ok"
outcome_line (outcomes.Refused refusal) = codes "refused " ++ refusal_name refusal
