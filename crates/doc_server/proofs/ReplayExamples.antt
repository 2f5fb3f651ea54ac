-- Scripts, their lines and events, and the lines of outcomes.
use Rattle.std.proofs.Common.{◌≡◌, [], ◌∷◌, refl}
use Rattle.std.specs.Prelude.{codes, Ok, Err}
use Rattle.std.specs.Fmt.{digits}
use Rattle.doc_hub_events.specs.Events.{push_on, step_on}
use Rattle.doc_hub_events.specs.declared.event.Event.TheVariants as events
use Rattle.doc_hub_events.specs.declared.event.Step.TheVariants as steps
use Rattle.doc_hub_events.specs.declared.outcome.Outcome.TheVariants as outcomes
use Rattle.doc_hub_events.specs.declared.refusal.Refusal.TheVariants as refusals
use Rattle.doc_server_script.specs.Escapes.{unescaped, escaped}
use Rattle.doc_server_script.specs.Lines.{event_of}
use Rattle.doc_server_streams.specs.declared.fault.Fault.TheVariants as faults
use Rattle.doc_server.specs.Replays.{outcome_lines}
use Rattle.doc_server_script.specs.Scripts.{lines, events_of}

-- ---- lines end at a LF alone

no_lines : lines [] ≡ []
unfolding lines
no_lines = refl

last_ends : lines (codes "a\nb\n") ≡ codes "a" ∷ codes "b" ∷ []
unfolding lines
last_ends = refl

last_does_not_end : lines (codes "a\n\r\nb") ≡ codes "a" ∷ codes "\r" ∷ codes "b" ∷ []
unfolding lines
last_does_not_end = refl

empty_lines : lines (codes "\n\n") ≡ [] ∷ [] ∷ []
unfolding lines
empty_lines = refl

-- ---- events, and the first line that is none

no_events : events_of [] ≡ Ok []
unfolding lines
no_events = refl

three_events :
    events_of (codes "connect\npush 1 a\\n\nstep 1")
    ≡ Ok (events.Connect ∷ push_on (record { 0 = 1 }) (codes "a\n") ∷ step_on (record { 0 = 1 }) ∷ [])
unfolding lines event_of unescaped
three_events = refl

second_is_bad : events_of (codes "connect\nconnect\r\nwait\n") ≡ Err (faults.BadScriptLine 2)
unfolding lines event_of
second_is_bad = refl

empty_line_is_bad : events_of (codes "connect\nstep 1\n\n") ≡ Err (faults.BadScriptLine 3)
unfolding lines event_of
empty_line_is_bad = refl

-- ---- outcomes

three_outcomes :
    outcome_lines
    (outcomes.Conn (record { 0 = 12 }) ∷ outcomes.Stepped (steps.Last (codes "no\r\n")) ∷ outcomes.Refused refusals.Closed ∷ [])
    ≡ codes "conn 12\nlast no\\r\\n\nrefused Closed\n"
unfolding digits escaped
three_outcomes = refl
