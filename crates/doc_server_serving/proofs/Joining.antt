-- A run that nobody hears or is sent anything by, and another behind it.
use Rattle.std.proofs.Common.{◌≡◌, ◌++◌, ℕ, List, [], ◌∷◌, Bool, refl, sym, ap, subst, ◌∙◌}
use Rattle.std.specs.Prelude.{Option}
use Rattle.std.proofs.lemmas.List.Elements.{All-append, All-cons, All-nil, All-weaker}
use Rattle.doc_hub.specs.Replies.{Renders}
use Rattle.doc_hub_events.specs.Events.{outcome_of}
use Rattle.doc_hub_events.specs.declared.event.Event.TheVariants as events
use Rattle.doc_hub.specs.RunParts.{pushed_on}
use Rattle.doc_hub.specs.Runs.{Happened, Runs, first, nothing, sent_on}
use Rattle.doc_hub.specs.Worlds.{World, world_taking}
use Rattle.doc_hub.proofs.RunParts.{pushed_join, runs_join, sent_join}
use Rattle.doc_server_serving.specs.Invariants.{IsServed}
use Rattle.doc_server_serving.specs.Leading.{IsOfServer, LeadsWith}
use Rattle.doc_server_turns.specs.QuietRuns.{IsOfPeers, LeadsQuietly}
use Rattle.doc_server_turns.specs.Wirings.{HearsFront, IsFront}
use Rattle.doc_server_serving.specs.declared.given.Given.{Given}
use Rattle.doc_server_serving.proofs.Leading.{peers_serve}

abbrev pub IsOwn : Happened → Type 0
IsOwn h = IsOfPeers h.event

-- nothing happens
pub quietly_nowhere : (render : Renders) (w : World) → LeadsQuietly render w w
quietly_nowhere render w = record {
  leads = record { run = []; runs = nothing w; own = All-nil IsOwn };
  pushes = λ k. refl;
  sends = λ k. refl;
}

-- it is told whether puts are taken
pub quietly_taking : (render : Renders) (w v : World) (takes : Bool) → v ≡ world_taking w takes → LeadsQuietly render w v
quietly_taking render w v takes is =
    let event = events.TakePuts takes in
    let h : Happened = record { world = w; event = event; outcome = outcome_of event tt } in
    record {
      leads = record {
        run = h ∷ [];
        runs = first w v v event (outcome_of event tt) [] (tt, is, refl) (nothing v);
        own = All-cons IsOwn h [] tt (All-nil IsOwn);
      };
      pushes = λ k. refl;
      sends = λ k. refl;
    }

module _ (render page : Renders) (w v u : World) (same : page ≡ render) (q : LeadsQuietly render w v)
    (answered : Option Given → Type 0) (s : LeadsWith answered page v u) where
  abbrev pub behind : LeadsWith answered render w u
  behind = record {
    run = q.leads.run ++ s.run;
    runs = runs_join render w v u q.leads.run s.run q.leads.runs (subst (λ r. Runs r v s.run u) same s.runs);
    own = All-append (λ h. IsOfServer answered h.event) q.leads.run s.run
        (All-weaker IsOwn (λ h. IsOfServer answered h.event) (λ h is. peers_serve answered h.event is) q.leads.run q.leads.own) s.own;
  }

  pub served_behind : (came gone : ℕ → Option (List ℕ)) → IsServed s.run came gone → IsServed behind.run came gone
  served_behind came gone is = λ k.
      let sent : sent_on k behind.run ≡ sent_on k s.run = sent_join k q.leads.run s.run ∙ ap (λ l. l ++ sent_on k s.run) (q.sends k) in
      let pushed : pushed_on k behind.run ≡ pushed_on k s.run =
      pushed_join k q.leads.run s.run ∙ ap (λ l. l ++ pushed_on k s.run) (q.pushes k) in
      (subst (IsFront (gone k)) (sym sent) ((is k).0), subst (HearsFront (came k)) (sym pushed) ((is k).1))
