-- Which configuration is in force behind a part.
use Rattle.std.proofs.Common.{◌≡◌, ℕ, List, inl, inr, refl, sym, subst}
use Rattle.std.specs.Prelude.{Bool, IfSome, None, Option, Some, Result, Ok, Err}
use Rattle.doc_hub.specs.Worlds.{World}
use Rattle.doc_server_journal.specs.declared.journal.Journal.{Journal}
use Rattle.doc_server_network.specs.Saved.{HasAll, IsAllSaved, IsSaved, IsSavedIn, IsSettled, StaysSaved}
use Rattle.doc_server_network.specs.declared.reload_fault.Refusal.{Refusal}
use Rattle.doc_server_network.specs.declared.reloaded.Reloaded.{Reloaded}
use Rattle.doc_server_network.specs.declared.saved_hub.SavedHub.{SavedHub}
use Rattle.doc_server_serving.specs.Forces.{AreAllOfCalls, IsInForce, IsSettledInForce, WasGiven, config_behind}
use Rattle.doc_server_serving.specs.Leading.{StayAnswered}
use Rattle.doc_server_serving.specs.declared.given.Configuration.{Configuration}
use Rattle.doc_server_serving.specs.declared.given.Given.{Given}
use Rattle.doc_server_serving.specs.declared.given.Given.TheVariants as givens
use Rattle.doc_store.specs.Store.{StoreState}

-- what was in force stays so with more that is answered
module _ (before behind : Option Given → Type 0) (stay : StayAnswered before behind) where
  pub force_stays : (first config : StoreState) → IsInForce before first config → IsInForce behind first config
  force_stays first config (inl is) = inl is
  force_stays first config (inr (given, was, is)) = inr (given, stay (Some (givens.Configuration given)) was, is)

  pub force_behind : (first mid last : StoreState) → IsInForce before first mid → IsInForce behind mid last → IsInForce behind first last
  force_behind first mid last a (inl is) = subst (IsInForce behind first) (sym is) (force_stays first mid a)
  force_behind first mid last a (inr is) = inr is

  pub of_calls_before : AreAllOfCalls behind → AreAllOfCalls before
  of_calls_before all = λ given was. all given (stay (Some (givens.Configuration given)) was)

  module _ {D R : Type 0} (seen : D → Option (List ℕ)) (may_leave : D → List ℕ → Type 0) (failed : D → Bool) (stale : D → ℕ → Type 0)
      (first : StoreState) (mid new : SavedHub D R) where
    pub settled_behind : IsSettledInForce seen may_leave failed stale before first mid
        → ((config : StoreState) → IsSettled seen may_leave failed stale config mid
        → IsSettledInForce seen may_leave failed stale behind config new)
        → IsSettledInForce seen may_leave failed stale behind first new
    settled_behind is on =
        let more = on is.config is.settled in record {
          config = more.config;
          in_force = force_behind first is.config more.config is.in_force more.in_force;
          settled = more.settled;
        }

-- a configuration that was answered is in force, or that of before
pub in_force_behind : (answered : Option Given → Type 0) (config : StoreState) (given : Configuration)
    (outcome : Result Reloaded Refusal) → WasGiven answered given → IsInForce answered config (config_behind config given outcome)
in_force_behind answered config given (Ok reloaded) was = inr (given, was, refl)
in_force_behind answered config given (Err refusal) was = inl refl

-- where a reload is refused what is settled stays so
pub settled_kept : {D R : Type 0} (seen : D → Option (List ℕ)) (may_leave : D → List ℕ → Type 0) (failed : D → Bool) (stale : D → ℕ → Type 0)
    (config : StoreState) (old new : SavedHub D R) → new.hub ≡ old.hub → StaysSaved seen may_leave failed stale old new → IsAllSaved new
    → IsSettled seen may_leave failed stale config old → IsSettled seen may_leave failed stale config new
settled_kept {D} {R} seen may_leave failed stale config old new same stays all is = (
  subst (λ (h : R × World). IsSaved seen may_leave failed stale config h.1 new) (sym same) (stays config old.hub.1 is.0),
  all,
)

-- where records are followed no journal is kept, so what is settled stays so
pub settled_alone : {D R : Type 0} (seen : D → Option (List ℕ)) (may_leave : D → List ℕ → Type 0) (failed : D → Bool)
    (stale : D → ℕ → Type 0)
    (config : StoreState) (saved : SavedHub D R) → saved.journal ≡ None → IsSettled seen may_leave failed stale config saved
settled_alone {D} {R} seen may_leave failed stale config saved none = (
  subst (λ (j : Option (Journal D)). IfSome j (λ journal. IsSavedIn seen may_leave failed stale config saved.hub.1 journal saved.unsaved
      saved.hub.1)) (sym none) tt,
  subst (λ (j : Option (Journal D)). HasAll j saved.unsaved) (sym none) tt,
)

-- what was answered, as it is found
pub was_given : (answered : Option Given → Type 0) (answer : Option Given) (found given : Given) → answer ≡ Some found → found ≡ given
    → answered answer → answered (Some given)
was_given answered answer found given is same was =
    subst (λ (x : Given). answered (Some x)) same (subst (λ (x : Option Given). answered x) is was)
