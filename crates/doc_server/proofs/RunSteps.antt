-- Runs that go on by one event.
use Rattle.std.proofs.Common.{◌≡◌, ℕ, List, [], ◌∷◌, ◌++◌, true, cond, flat_map, ap, ◌∙◌, append-nil}
use Rattle.std.proofs.lemmas.Grind.{flat_map-append}
use Rattle.std.proofs.lemmas.List.Elements.{filter-append}
use Rattle.doc_hub.specs.Replies.{Renders}
use Rattle.doc_hub.specs.Worlds.{World}
use Rattle.doc_hub.specs.Runs.{Leaves, Happened, Runs, nothing, first, sent_by, is_on, events_on, sent_on}
use Rattle.doc_hub_events.specs.declared.event.Event.{Event}
use Rattle.doc_hub_events.specs.declared.outcome.Outcome.{Outcome}

pub one_more : (render : Renders) (w v u : World) (run : List Happened) (event : Event) (outcome : Outcome) → Runs render w run v
    → Leaves render v event u outcome
    → Runs render w (run ++ record { world = v; event = event; outcome = outcome } ∷ []) u
one_more render w v u run event outcome (nothing x) happens = first x u u event outcome [] happens (nothing u)
one_more render w v u run event outcome (first x y z e o rest was runs) happens =
    first x y u e o (rest ++ record { world = z; event = event; outcome = outcome } ∷ []) was
    (one_more render y z u rest event outcome runs happens)

abbrev sent_of : List Happened → List ℕ
sent_of run = flat_map (λ h. sent_by h.outcome) run

pub sent_more : (id : ℕ) (run : List Happened) (h : Happened) → is_on id h ≡ true
    → sent_on id (run ++ h ∷ []) ≡ sent_on id run ++ sent_by h.outcome
sent_more id run h on =
    ap sent_of (filter-append (is_on id) run (h ∷ []))
    ∙ flat_map-append (λ x. sent_by x.outcome) (events_on id run) (events_on id (h ∷ []))
    ∙ ap (λ b. sent_on id run ++ sent_of (cond b (h ∷ []) [])) on
    ∙ ap (λ xs. sent_on id run ++ xs) (append-nil (sent_by h.outcome))
