-- Runs one behind the other, and what is told to nobody.
use Rattle.std.proofs.Common.{◌≡◌, ℕ, [], ◌∷◌, ◌++◌, Bool, true, false, cond, refl, ap, subst, ◌∙◌, append-nil}
use Rattle.std.proofs.lemmas.List.Elements.{All-nil, All-append, All-cons}
use Rattle.doc_hub_events.specs.Events.{Said, outcome_of}
use Rattle.doc_hub_events.specs.declared.event.Event.{Event}
use Rattle.doc_hub.specs.Replies.{Renders}
use Rattle.doc_hub.specs.Runs.{Happened, Happens, Runs, nothing, first, is_on, sent_by, sent_on}
use Rattle.doc_hub.specs.RunParts.{pushed_by, pushed_on}
use Rattle.doc_hub.specs.Worlds.{World}
use Rattle.doc_hub.proofs.RunParts.{pushed_join, pushed_of, runs_join, sent_join, sent_of}
use Rattle.doc_server_turns.specs.QuietRuns.{LeadsBy, LeadsQuietlyBy}

abbrev pub leads_on : (own : Event → Type 0) (render page : Renders) (w v u : World) → page ≡ render → LeadsBy own render w v
    → LeadsBy own page v u → LeadsBy own render w u
leads_on own render page w v u same a b = record {
  run = a.run ++ b.run;
  runs = runs_join render w v u a.run b.run a.runs (subst (λ r. Runs r v b.run u) same b.runs);
  own = All-append (λ h. own h.event) a.run b.run a.own b.own;
}

abbrev pub leads_by : (own : Event → Type 0) (render : Renders) (w v : World) (event : Event) (said : Said event) → own event
    → Happens render w event v said → LeadsBy own render w v
leads_by own render w v event said is_own happens =
    let h : Happened = record { world = w; event = event; outcome = outcome_of event said } in
    record {
      run = h ∷ [];
      runs = first w v v event (outcome_of event said) [] (said, happens, refl) (nothing v);
      own = All-cons (λ x. own x.event) h [] is_own (All-nil (λ x. own x.event));
    }

-- an event that pushes nothing anywhere, or sends nothing
pub pushes_nothing : (k : ℕ) (h : Happened) → pushed_by h.event h.outcome ≡ [] → pushed_on k (h ∷ []) ≡ []
pushes_nothing k h none = by (is_on k h)
  where
    by : (b : Bool) → pushed_of (cond b (h ∷ []) []) ≡ []
    by true = append-nil (pushed_by h.event h.outcome) ∙ none
    by false = refl

pub sends_nothing : (k : ℕ) (h : Happened) → sent_by h.outcome ≡ [] → sent_on k (h ∷ []) ≡ []
sends_nothing k h none = by (is_on k h)
  where
    by : (b : Bool) → sent_of (cond b (h ∷ []) []) ≡ []
    by true = append-nil (sent_by h.outcome) ∙ none
    by false = refl

pub quiet_by_one : (own : Event → Type 0) (render : Renders) (w v : World) (event : Event) (said : Said event) → own event
    → Happens render w event v said → pushed_by event (outcome_of event said) ≡ [] → sent_by (outcome_of event said) ≡ []
    → LeadsQuietlyBy own render w v
quiet_by_one own render w v event said is_own happens pushes sends =
    let h : Happened = record { world = w; event = event; outcome = outcome_of event said } in record {
      leads = leads_by own render w v event said is_own happens;
      pushes = λ k. pushes_nothing k h pushes;
      sends = λ k. sends_nothing k h sends;
    }

-- one behind the other
pub quiet_join : (own : Event → Type 0) (render page : Renders) (w v u : World) → page ≡ render → LeadsQuietlyBy own render w v
    → LeadsQuietlyBy own page v u → LeadsQuietlyBy own render w u
quiet_join own render page w v u same a b = record {
  leads = leads_on own render page w v u same a.leads b.leads;
  pushes = λ k. pushed_join k a.leads.run b.leads.run ∙ ap (λ l. l ++ pushed_on k b.leads.run) (a.pushes k) ∙ b.pushes k;
  sends = λ k. sent_join k a.leads.run b.leads.run ∙ ap (λ l. l ++ sent_on k b.leads.run) (a.sends k) ∙ b.sends k;
}
