-- The script of the command `replay`. All of this is this project's choice.
use Rattle.std.specs.Prelude.{ℕ, ◌+◌, ◌==◌, List, [], ◌∷◌, ◌++◌, Some, None, Result, Ok, Err, if◌then◌else◌}
use Rattle.doc_hub_events.specs.declared.event.Event.{Event}
use Rattle.doc_server_script.specs.Lines.{event_of}
use Rattle.doc_server_streams.specs.declared.fault.Fault.{Fault}
use Rattle.doc_server_streams.specs.declared.fault.Fault.TheVariants as faults

-- a byte in front of the first of some lines
abbrev pub onto_first : ℕ → List (List ℕ) → List (List ℕ)
onto_first b [] = (b ∷ []) ∷ []
onto_first b (line ∷ more) = (b ∷ line) ∷ more

-- the lines of a script, without the LF (10) that ends each; the last one may end without
unfoldable pub lines : List ℕ → List (List ℕ)
lines [] = []
lines (b ∷ rest) = if b == 10 then [] ∷ lines rest else onto_first b (lines rest)

-- the events found so far, then those of more lines, the first of which has the number n, or the first bad line
abbrev pub events_from : List Event → ℕ → List (List ℕ) → Result (List Event) Fault
events_from found n [] = Ok found
events_from found n (line ∷ more) = elim (event_of line) [
  | None ↦ Err (faults.BadScriptLine n)
  | Some event ↦ events_from (found ++ event ∷ []) (n + 1) more
]

-- the events of a script, or its first bad line, counted from 1
abbrev pub events_of : List ℕ → Result (List Event) Fault
events_of script = events_from [] 1 (lines script)
