-- The end of a script.
use Rattle.std.proofs.Common.{◌≡◌, ℕ, List, [], ap, ◌∙◌}
use Rattle.std.specs.Prelude.{Result, Ok}
use Rattle.doc_hub_events.specs.declared.event.Event.{Event}
use Rattle.doc_server_streams.specs.declared.fault.Fault.{Fault}
use Rattle.doc_server_script.specs.Scripts.{events_from, lines}

-- no line is left
pub all_read : (answer : Result (List Event) Fault) (found : List Event) (n : ℕ) (left : List ℕ)
    → answer ≡ events_from found n (lines left) → left ≡ [] → answer ≡ Ok found
unfolding lines
all_read answer found n left is none = is ∙ ap (λ l. events_from found n (lines l)) none
