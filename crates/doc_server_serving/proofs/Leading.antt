-- Worlds that runs lead to.
use Rattle.std.proofs.Common.{◌≡◌, ℕ, List, [], ◌∷◌, ◌++◌, false, cond, refl, ap, ◌∙◌}
use Rattle.std.specs.Prelude.{All, Option, Some}
use Rattle.std.proofs.lemmas.List.Elements.{All-nil, All-head, All-tail, All-weaker}
use Rattle.doc_hub.specs.Replies.{Renders}
use Rattle.doc_hub.specs.Runs.{Happened, nothing, events_on, is_on, is_on_by}
use Rattle.doc_hub.specs.RunParts.{served_by}
use Rattle.doc_hub.specs.Worlds.{World}
use Rattle.doc_hub_events.specs.declared.event.Event.{Event}
use Rattle.doc_hub_events.specs.declared.event.Event.TheVariants as events
use Rattle.doc_hub.proofs.RunParts.{none_is}
use Rattle.doc_store.specs.declared.site_edit.SiteEdit.{SiteEdit}
use Rattle.doc_server_serving.specs.Leading.{IsOfGiven, IsOfServer, StayAnswered}
use Rattle.doc_server_turns.specs.QuietRuns.{IsOfPeers, Leads, LeadsBy}
use Rattle.doc_server_serving.specs.declared.given.Given.{Given}

abbrev pub IsOwn : Happened → Type 0
IsOwn h = IsOfPeers h.event

abbrev pub leads_nowhere : (render : Renders) (w : World) → Leads render w w
leads_nowhere render w = record { run = []; runs = nothing w; own = All-nil IsOwn }

-- a run of some events is one of more of them
abbrev pub leads_wider : (own more : Event → Type 0) (render : Renders) (w v : World) → ((e : Event) → own e → more e)
    → LeadsBy own render w v → LeadsBy more render w v
leads_wider own more render w v wider a = record {
  run = a.run;
  runs = a.runs;
  own = All-weaker (λ h. own h.event) (λ h. more h.event) (λ h is. wider h.event is) a.run a.own;
}

-- what peers do a server does, whatever it is given, and it does so with more of that
pub peers_serve : (answered : Option Given → Type 0) (e : Event) → IsOfPeers e → IsOfServer answered e
peers_serve answered events.Connect is = tt
peers_serve answered (events.On id call) is = tt
peers_serve answered (events.TakePuts takes) is = tt
peers_serve answered (events.Site edit) is = absurd is
peers_serve answered (events.Reader edit) is = absurd is
peers_serve answered (events.SetMedia media) is = absurd is

pub given_serve : (old new : Option Given → Type 0) → StayAnswered old new → (e : Event) → IsOfServer old e → IsOfServer new e
given_serve old new stay events.Connect is = tt
given_serve old new stay (events.On id call) is = tt
given_serve old new stay (events.TakePuts takes) is = tt
given_serve old new stay (events.Site edit) (given, was, is) = (given, stay (Some given) was, is)
given_serve old new stay (events.Reader edit) (given, was, is) = (given, stay (Some given) was, is)
given_serve old new stay (events.SetMedia media) (given, was, is) = (given, stay (Some given) was, is)

-- what is of a configuration that was given is a server's
pub of_given : (answered : Option Given → Type 0) (given : Given) → answered (Some given) → (e : Event) → IsOfGiven given e
    → IsOfServer answered e
of_given answered given was events.Connect is = tt
of_given answered given was (events.On id call) is = tt
of_given answered given was (events.TakePuts takes) is = tt
of_given answered given was (events.Site edit) is = (given, was, is)
of_given answered given was (events.Reader edit) is = (given, was, is)
of_given answered given was (events.SetMedia media) is = (given, was, is)

pub of_peers : (event : Event) (c : ℕ) → served_by event ≡ Some c → IsOfPeers event
of_peers events.Connect c is = tt
of_peers (events.On id call) c is = tt
of_peers event c is = absurd (none_is c is)

-- edits of the site push nothing to anybody's connection, and send nothing there
module _ (own : Event → Type 0) (edits_alone : (e : Event) → own e → (edit : SiteEdit) × (e ≡ events.Site edit)) where
  silent : (k : ℕ) (h : Happened) → own h.event → is_on k h ≡ false
  silent k h is = let (edit, of_edit) = edits_alone h.event is in ap (λ e. is_on_by k e h.outcome) of_edit

  pub nothing_on : (k : ℕ) (run : List Happened) → All (λ h. own h.event) run → events_on k run ≡ []
  nothing_on k [] all = refl
  nothing_on k (h ∷ run) all =
      ap (λ b. cond b (h ∷ events_on k run) (events_on k run)) (silent k h (All-head (λ x. own x.event) h run all))
      ∙ nothing_on k run (All-tail (λ x. own x.event) h run all)
