-- How a run of changes of a file goes on.
use Rattle.std.proofs.Common.{◌≡◌, inl, inr, ⊎_elim, ℕ, List, Option, Some, None, Result, Err, IsErrAnd, refl, subst, arith, IfSome}
use Rattle.std.specs.Option.{option_map}
use Rattle.doc_server_journal.specs.Devices.{Elapses, Follows, LeavesOnly, Stepped}

-- what is said of a value that is there
pub if_known : {X : Type 0} (o : Option X) (P : X → Type 0) → ((x : X) → o ≡ Some x → P x) → IfSome o P
if_known None P f = tt
if_known (Some x) P f = f x refl

pub known : {X : Type 0} (o : Option X) (x : X) (P : X → Type 0) → o ≡ Some x → IfSome o P → P x
known {X} o x P is said = let Q : Option X → Type 0 = λ v. IfSome v P in subst Q is said

pub if_mapped : {X Y : Type 0} (f : X → Y) (o : Option X) (P : Y → Type 0) → ((x : X) → o ≡ Some x → P (f x)) → IfSome (option_map f o) P
if_mapped f None P g = tt
if_mapped f (Some x) P g = g x refl

-- nor of one that is another error
pub other_error : {X E P : Type 0} (r : Result X E) (e f : E) → IsErrAnd r (λ x. x ≡ e) → (f ≡ e → ⊥) → r ≡ Err f → P
other_error r e f is differs err = absurd (differs (subst (λ s. IsErrAnd s (λ x. x ≡ e)) err is))

module _ {D : Type 0} (moment : D → ℕ) (left_since : D → ℕ → List ℕ → Type 0) where
  -- before the first change
  pub started : (old : D) (P : List ℕ → Type 0) → ((c : List ℕ) → left_since old (moment old) c → P c)
      → LeavesOnly moment left_since old old P
  started old P here = record { later = omega arith; each = here; before = λ t c le left. inl left }

  pub weaker : (old new : D) (P Q : List ℕ → Type 0) → LeavesOnly moment left_since old new P → ((c : List ℕ) → P c → Q c)
      → LeavesOnly moment left_since old new Q
  weaker old new P Q run on = record {
    later = run.later;
    each = λ c left. on c (run.each c left);
    before = λ t c le left. ⊎_elim (λ was. inl was) (λ now. inr (on c now)) (run.before t c le left);
  }

  pub goes_on : (old mid new : D) (P : List ℕ → Type 0) → LeavesOnly moment left_since old mid P → LeavesOnly moment left_since mid new P
      → LeavesOnly moment left_since old new P
  goes_on old mid new P first second = record {
    later = omega (arith, first.later, second.later);
    each = λ c left. ⊎_elim (λ was. first.each c was) (λ now. now) (second.before (moment old) c first.later left);
    before = λ t c le left. ⊎_elim (λ was. first.before t c le was) (λ now. inr now)
        (second.before t c (omega (arith, le, first.later)) left);
  }

-- calls of a device
module _ {D : Type 0} (moment : D → ℕ) (left_since : D → ℕ → List ℕ → Type 0) (may_leave : D → List ℕ → Type 0)
    (only_now : (file : D) (c : List ℕ) → left_since file (moment file) c → may_leave file c) where
  pub one_call : (old new : D) (P : List ℕ → Type 0)
      → Elapses (moment old) (moment new) (left_since old) (left_since new) (may_leave new) → ((c : List ℕ) → may_leave old c → P c)
      → ((c : List ℕ) → may_leave new c → P c)
      → LeavesOnly moment left_since old new P
  one_call old new P time at_first at_last = record {
    later = time.later;
    each = λ c left. ⊎_elim (λ was. at_first c (only_now old c was)) (λ now. at_last c now)
        (time.nothing_else (moment old) c (omega arith) left);
    before = λ t c le left. ⊎_elim (λ was. inl was) (λ now. inr (at_last c now)) (time.nothing_else t c le left);
  }

  -- a change, and a sync
  pub change_and_sync : (old mid new : D) (step : List ℕ → List ℕ → Type 0)
      → Elapses (moment old) (moment mid) (left_since old) (left_since mid) (may_leave mid) → Follows step (may_leave old) (may_leave mid)
      → Elapses (moment mid) (moment new) (left_since mid) (left_since new) (may_leave new)
      → ((c : List ℕ) → may_leave new c → may_leave mid c)
      → LeavesOnly moment left_since old new (Stepped step (may_leave old))
  change_and_sync old mid new step changed follows synced less =
      goes_on moment left_since old mid new (Stepped step (may_leave old))
      (one_call old mid (Stepped step (may_leave old)) changed (λ c was. inl was) (λ c now. inr (follows c now)))
      (one_call mid new (Stepped step (may_leave old)) synced (λ c now. inr (follows c now)) (λ c now. inr (follows c (less c now))))
