-- A site that was made ready, and then served.
use Rattle.std.proofs.Common.{◌≡◌, ◌++◌, ℕ, List, Bool, refl, sym, ap, subst, ◌∙◌, append_assoc, nat_cmp}
use Rattle.std.specs.Prelude.{Option}
use Rattle.std.specs.FinMap as map
use Rattle.doc_hub.specs.Replies.{Renders}
use Rattle.doc_hub.specs.Runs.{Happened, Runs}
use Rattle.doc_hub.specs.Worlds.{World, store_of}
use Rattle.doc_hub.proofs.RunParts.{runs_join}
use Rattle.doc_server_network.specs.Crashes.{CrashesLeave}
use Rattle.doc_server_network.specs.Saved.{IsSettled}
use Rattle.doc_server_network.specs.declared.saved_hub.SavedHub.{SavedHub}
use Rattle.doc_server_serving.specs.Crashing.{AreKnown, RestoresFront, RestoresFrontBy}
use Rattle.doc_server_serving.specs.Forces.{AreAllOfCalls, IsInForce, IsSettledInForce}
use Rattle.doc_server_serving.specs.Invariants.{HasServedNobody, IsServed}
use Rattle.doc_server_serving.specs.Leading.{LeadsWith}
use Rattle.doc_server_turns.specs.QuietRuns.{LeadsQuietly}
use Rattle.doc_server_serving.proofs.Crashing.{leaves_weaker}
use Rattle.doc_server_turns.specs.Wirings.{Table}
use Rattle.doc_server_serving.specs.declared.given.Given.{Given}
use Rattle.doc_store.specs.Store.{StoreState}
use Rattle.doc_server_serving.specs.Hostings.{IsHosted, IsMadeReady}
use Rattle.doc_server_serving.specs.Hosts.{IsUnused}
use Rattle.doc_server_serving.proofs.Joining.{behind, served_behind}

-- on a network of which nothing is used a server without clients has served nobody
pub nobody : (given : ℕ) (came gone : ℕ → Option (List ℕ)) (is_free : ℕ → Type 0) (peers : Table)
    → ((k : ℕ) → IsUnused (came k) (gone k) (is_free k)) → peers ≡ map.empty → HasServedNobody given came gone is_free peers
nobody given came gone is_free peers unused none = record {
  new = λ k. record {
    came = (unused k).nothing_came;
    gone = (unused k).nothing_gone;
    pushed = refl;
    sent = refl;
    none = ap (λ t. map.get t k) none ∙ map.get-empty nat_cmp k;
  };
  free = λ k lt. (unused k).is_free;
}

module _ (config : StoreState) (render page : Renders) (w v : World) (same : page ≡ render) (q : LeadsQuietly render w v)
    (run : List Happened) where
  -- a front of a run is one of the same behind a quiet one
  pub front_behind : (file : List ℕ) → RestoresFront config page v run file → RestoresFront config render w (q.leads.run ++ run) file
  front_behind file is = record {
    front = q.leads.run ++ is.front;
    rest = is.rest;
    is = ap (λ l. q.leads.run ++ l) is.is ∙ sym (append_assoc q.leads.run is.front is.rest);
    world = is.world;
    runs = runs_join render w v is.world q.leads.run is.front q.leads.runs (subst (λ r. Runs r v is.front is.world) same is.runs);
    restores = is.restores;
  }

-- over one of some configurations, too
pub front_by_behind : (in_force : StoreState → Type 0) (render page : Renders) (w v : World) (same : page ≡ render)
    (q : LeadsQuietly render w v) (run : List Happened) (file : List ℕ) → RestoresFrontBy in_force page v run file
    → RestoresFrontBy in_force render w (q.leads.run ++ run) file
front_by_behind in_force render page w v same q run file is = record {
  config = is.config;
  is_in_force = is.is_in_force;
  restores = front_behind is.config render page w v same q run file is.restores;
}

module _ {D R : Type 0} (seen : D → Option (List ℕ)) (may_leave : D → List ℕ → Type 0) (failed : D → Bool) (stale : D → ℕ → Type 0)
    (moment : D → ℕ) (left_since : D → ℕ → List ℕ → Type 0) (render page : Renders) (file : List ℕ → Option (List ℕ))
    (name : Option (List ℕ)) (w : World) (saved ended : SavedHub D R) (answered : Option Given → Type 0) (came gone : ℕ → Option (List ℕ))
    (ends_well : Type 0) where
  pub hosted : page ≡ render → IsMadeReady seen may_leave failed stale render file name w saved
      → (s : LeadsWith answered page saved.hub.1 ended.hub.1) × IsServed s.run came gone
      × ((config : StoreState) → AreKnown seen → IsSettled seen may_leave failed stale config saved → AreAllOfCalls answered
      → CrashesLeave seen moment left_since (RestoresFrontBy (IsInForce answered config) page saved.hub.1 s.run) saved.journal
      ended.journal)
      → ((config : StoreState) → IsSettled seen may_leave failed stale config saved → AreAllOfCalls answered → ends_well
      → IsSettledInForce seen may_leave failed stale answered config ended)
      → IsHosted seen may_leave failed stale moment left_since answered render file name w ended came gone ends_well
  hosted same made served settled =
      let both = behind render page made.begin saved.hub.1 ended.hub.1 same made.quiet answered served.0 in record {
        begin = made.begin;
        begins = made.begins;
        journal = saved.journal;
        keeps = made.keeps;
        leads = both;
        served = served_behind render page made.begin saved.hub.1 ended.hub.1 same made.quiet answered served.0 came gone served.1;
        settled = λ well of_calls apart given. settled (store_of w) (made.settled of_calls apart) given well;
        any_moment = λ known of_calls apart given.
            leaves_weaker seen moment left_since (RestoresFrontBy (IsInForce answered (store_of w)) page saved.hub.1 served.0.run)
            (RestoresFrontBy (IsInForce answered (store_of w)) render made.begin both.run) saved.journal ended.journal
            (front_by_behind (IsInForce answered (store_of w)) render page made.begin saved.hub.1 same made.quiet served.0.run)
            (served.2 (store_of w) known (made.settled of_calls apart) given);
      }
