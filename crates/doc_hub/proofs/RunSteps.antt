-- Runs, one event after another.
use Rattle.std.proofs.Common.{◌≡◌, List, [], ◌∷◌, ◌++◌, map, refl, ap, sym, ◌∙◌, subst}
use Rattle.doc_hub_events.specs.Events.{Said, outcome_of}
use Rattle.doc_hub_replies.specs.Replies.{Renders}
use Rattle.doc_hub.specs.Runs.{Happens, Leaves, Happened, Runs, RunsAll, nothing, first}
use Rattle.doc_hub.specs.Worlds.{World}
use Rattle.doc_hub_events.specs.declared.event.Event.{Event}
use Rattle.doc_hub_events.specs.declared.outcome.Outcome.{Outcome}

-- what the call of an event leaves and answers, the event leaves
pub leaves_so : (render : Renders) (w : World) (event same : Event) (v : World) (outcome : Outcome) (said : Said same) → event ≡ same
    → Happens render w same v said → outcome ≡ outcome_of same said → Leaves render w event v outcome
leaves_so render w event same v outcome said is happens told = subst (λ e. Leaves render w e v outcome) (sym is) (said, happens, told)

-- the same of a kind of events
pub leaves_same : (render : Renders) (w : World) (event same : Event) (v : World) (outcome : Outcome) → event ≡ same
    → Leaves render w same v outcome → Leaves render w event v outcome
leaves_same render w event same v outcome is leaves = subst (λ e. Leaves render w e v outcome) (sym is) leaves

-- a run of no events
pub no_event : (render : Renders) (w : World) (outcomes : List Outcome) → outcomes ≡ [] → RunsAll render [] w w outcomes
no_event render w outcomes none = record { run = []; runs = nothing w; all = refl; told = sym none }

abbrev pub happened : World → Event → Outcome → Happened
happened w event outcome = record { world = w; event = event; outcome = outcome }

-- one event more at the end of a run
pub runs_more : (render : Renders) (w u v : World) (run : List Happened) (event : Event) (outcome : Outcome) → Runs render w run u
    → Leaves render u event v outcome → Runs render w (run ++ happened u event outcome ∷ []) v
runs_more render w u v run event outcome (nothing x) leaves = first x v v event outcome [] leaves (nothing v)
runs_more render w u v run event outcome (first x y z e o rest here runs) leaves =
    first x y v e o (rest ++ happened z event outcome ∷ []) here (runs_more render y z v rest event outcome runs leaves)

pub map-push : {X Y : Type 0} (f : X → Y) (xs : List X) (x : X) → map f (xs ++ x ∷ []) ≡ map f xs ++ f x ∷ []
map-push f [] x = refl
map-push f (y ∷ ys) x = ap (λ zs. f y ∷ zs) (map-push f ys x)

-- the same for all the events so far and one more, as the loop has it
unfoldable pub one_more_event : (render here : Renders) (w u v : World) (events more : List Event) (outcomes told : List Outcome)
    (event : Event) (outcome : Outcome)
    → here ≡ render → RunsAll render events w u outcomes → Leaves here u event v outcome → more ≡ events ++ event ∷ []
    → told ≡ outcomes ++ outcome ∷ []
    → RunsAll render more w v told
one_more_event render here w u v events more outcomes told event outcome same so_far leaves taken added =
    let P : Renders → Type 0 = λ r. Leaves r u event v outcome in
    let last = happened u event outcome in
    record {
      run = so_far.run ++ last ∷ [];
      runs = runs_more render w u v so_far.run event outcome so_far.runs (subst P same leaves);
      all = map-push (λ h. h.event) so_far.run last ∙ ap (λ es. es ++ event ∷ []) so_far.all ∙ sym taken;
      told = map-push (λ h. h.outcome) so_far.run last ∙ ap (λ os. os ++ outcome ∷ []) so_far.told ∙ sym added;
    }
