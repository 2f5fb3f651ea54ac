-- Who takes part in the next turn, part by part of a turn.
use Rattle.std.proofs.Common.{◌≡◌, ◌==◌, ◌++◌, ◌+◌, ℕ, zero, suc, List, [], ◌∷◌, Bool, true, false, ◌||◌, cond, refl, sym, ap, subst, ◌∙◌, arith, eq-eqb}
use Rattle.std.specs.Prelude.{Contains, Option, Some, None}
use Rattle.std.specs.FinMap as map
use Rattle.std.specs.List.{list_any}
use Rattle.std.proofs.lemmas.Bool.{eqb-true}
use Rattle.std.proofs.lemmas.List.Sums.{sum_by-append, sum_by-cons}
use Rattle.doc_server_turns.specs.Parts.{AreMinded, NoMore, StayBut, takes_part_at, times_among}
use Rattle.doc_server_turns.specs.Wirings.{Peer, SweptAll, SweptAt, Table, new_peer}
use Rattle.doc_server_turns.proofs.Feeding.{among_keys}
use Rattle.doc_server_turns.proofs.LeavingSteps.{get_gone}
use Rattle.doc_server_turns.proofs.Tables.{get_other, get_same}
use Rattle.doc_server_turns.proofs.Wiring.{not_both}

never : false ≡ true → ⊥
never e = cc

-- ---- nobody more takes part

pub more_nobody : (t : Table) → NoMore t t
more_nobody t = λ k part. part

pub more_join : (t u v : Table) → NoMore t u → NoMore u v → NoMore t v
more_join t u v a b = λ k part. a k (b k part)

pub more_out : (t u : Table) (id : ℕ) → u ≡ map.remove t id → NoMore t u
more_out t u id is = λ k part. by k (k == id) refl (subst (λ o. takes_part_at o ≡ true) (ap (λ m. map.get m k) is ∙ get_gone t id k) part)
  where
    by : (k : ℕ) (b : Bool) → (k == id) ≡ b → takes_part_at (cond (k == id) None (map.get t k)) ≡ true → takes_part_at (map.get t k) ≡ true
    by k true e part = absurd (never (subst (λ b. takes_part_at (cond b None (map.get t k)) ≡ true) e part))
    by k false e part = subst (λ b. takes_part_at (cond b None (map.get t k)) ≡ true) e part

pub more_in : (t u : Table) (id : ℕ) → u ≡ map.insert t id new_peer → NoMore t u
more_in t u id is = λ k part. by k (k == id) refl part
  where
    by : (k : ℕ) (b : Bool) → (k == id) ≡ b → takes_part_at (map.get u k) ≡ true → takes_part_at (map.get t k) ≡ true
    by k true e part =
        absurd (never (subst (λ o. takes_part_at o ≡ true) (ap (λ m. map.get m k) is ∙ get_same t id new_peer k e) part))
    by k false e part = subst (λ o. takes_part_at o ≡ true) (ap (λ m. map.get m k) is ∙ get_other t id new_peer k e) part

-- ---- who isn't among some numbers

counted : Bool → ℕ
counted b = cond b 1 0

alone : (id k : ℕ) → times_among (id ∷ []) k ≡ cond (id == k) 1 0
alone id k = by (times_among (id ∷ []) k) (cond (id == k) 1 0) (sum_by-cons (λ n. cond (n == k) 1 0) id [])
  where
    by : (s a : ℕ) → s ≡ a + 0 → s ≡ a
    by s a sums = omega (arith, sums)

-- the number behind the others counts too
pub one_behind : (numbers : List ℕ) (id k : ℕ) → times_among (numbers ++ id ∷ []) k ≡ times_among numbers k + cond (id == k) 1 0
one_behind numbers id k =
    sum_by-append (λ n. cond (n == k) 1 0) numbers (id ∷ []) ∙ ap (λ n. times_among numbers k + n) (alone id k)

pub turned : (id k : ℕ) → (id == k) ≡ false → (k == id) ≡ false
turned id k off = by (k == id) refl
  where
    by : (b : Bool) → (k == id) ≡ b → (k == id) ≡ false
    by true e = absurd (not_both (id == k) (eq-eqb id k (sym (eqb-true k id e))) off)
    by false e = e

pub stay_nobody : (numbers : List ℕ) (t : Table) → StayBut numbers t t
stay_nobody numbers t = λ k none. refl

pub stay_more : (numbers : List ℕ) (id : ℕ) (t u v : Table) → StayBut numbers t u
    → ((k : ℕ) → (k == id) ≡ false → map.get v k ≡ map.get u k) → StayBut (numbers ++ id ∷ []) t v
stay_more numbers id t u v stay others = λ k none. by k (id == k) refl (sym (one_behind numbers id k) ∙ none)
  where
    by : (k : ℕ) (b : Bool) → (id == k) ≡ b → times_among numbers k + cond (id == k) 1 0 ≡ 0 → map.get v k ≡ map.get t k
    by k true e none = absurd (some (times_among numbers k) (subst (λ c. times_among numbers k + cond c 1 0 ≡ 0) e none))
      where
        some : (n : ℕ) → n + 1 ≡ 0 → ⊥
        some n is = omega (arith, is)
    by k false e none =
        others k (turned id k e) ∙ stay k (front (times_among numbers k) (subst (λ c. times_among numbers k + cond c 1 0 ≡ 0) e none))
      where
        front : (n : ℕ) → n + 0 ≡ 0 → n ≡ 0
        front n is = omega (arith, is)

pub stay_join : (numbers : List ℕ) (t u v : Table) → StayBut numbers t u → StayBut numbers u v → StayBut numbers t v
stay_join numbers t u v a b = λ k none. b k none ∙ a k none

-- where one client changes, the others don't
pub others_in : (t u : Table) (id : ℕ) (q : Peer) → u ≡ map.insert t id q → (k : ℕ) → (k == id) ≡ false → map.get u k ≡ map.get t k
others_in t u id q is = λ k off. ap (λ m. map.get m k) is ∙ get_other t id q k off

pub others_none : (t u : Table) (id : ℕ) → u ≡ t → (k : ℕ) → (k == id) ≡ false → map.get u k ≡ map.get t k
others_none t u id is = λ k off. ap (λ m. map.get m k) is

-- ---- who takes part is minded

pub minded_more : (t u : Table) (goes_on : Bool) → NoMore t u → AreMinded t goes_on → AreMinded u goes_on
minded_more t u goes_on more minded = λ k part. minded k (more k part)

any_of : (test : ℕ → Bool) (ns : List ℕ) (k : ℕ) → Contains ns k → test k ≡ true → list_any test ns ≡ true
any_of test [] k among is = absurd (omega (arith, among.1))
any_of test (n ∷ ns) k (zero, lt, same) is = first (test n) (ap test same ∙ is)
  where
    first : (b : Bool) → b ≡ true → b || list_any test ns ≡ true
    first true e = refl
    first false e = absurd (never e)
any_of test (n ∷ ns) k (suc i, lt, same) is = rest (test n) (any_of test ns k (i, omega (arith, lt), same) is)
  where
    rest : (b : Bool) → list_any test ns ≡ true → b || list_any test ns ≡ true
    rest true e = refl
    rest false e = e

-- Behind a turn of those that took part, whoever takes part is one of them: the others are as before.
pub minded_served : (ready : List ℕ) (t u : Table) (goes_on : Bool)
    → ((k : ℕ) → times_among ready k ≡ cond (takes_part_at (map.get t k)) 1 0)
    → ((k : ℕ) → takes_part_at (map.get t k) ≡ true → Contains ready k) → StayBut ready t u
    → goes_on ≡ list_any (λ k. takes_part_at (map.get u k)) ready → AreMinded u goes_on
minded_served ready t u goes_on each listed stay is = λ k part. by k (takes_part_at (map.get t k)) refl part
  where
    by : (k : ℕ) (b : Bool) → takes_part_at (map.get t k) ≡ b → takes_part_at (map.get u k) ≡ true → goes_on ≡ true
    by k true took part = is ∙ any_of (λ n. takes_part_at (map.get u n)) ready k (listed k took) part
    by k false off part =
        absurd (not_both (takes_part_at (map.get t k))
        (sym (ap takes_part_at (stay k (each k ∙ ap (λ b. cond b 1 0) off))) ∙ part) off)

pub or_later : (b c : Bool) → c ≡ true → b || c ≡ true
or_later true c is = refl
or_later false c is = is

stood : (p q : Option Peer) → SweptAt p q → takes_part_at q ≡ true → (x : Peer) × (p ≡ Some x)
stood None None s part = absurd (never part)
stood None (Some q) s part = absurd s
stood (Some p) q s part = (p, refl)

-- Behind a sweep of all it is known whether one of them takes part.
pub minded_swept : (t u : Table) (numbers : List ℕ) → SweptAll t u → numbers ≡ map.keys t
    → AreMinded u (list_any (λ k. takes_part_at (map.get u k)) numbers)
minded_swept t u numbers swept all = λ k part.
    let there = stood (map.get t k) (map.get u k) (swept k) part in
    any_of (λ n. takes_part_at (map.get u n)) numbers k
    (subst (λ (ns : List ℕ). Contains ns k) (sym all)
    (among_keys (map.entries t) k there.0 (sym (map.get-entries t k) ∙ there.1))) part
