-- A pair as the code writes it is a pair in place.
use Rattle.std.proofs.Common.{◌≡◌, inl, inr, ℕ, suc, ◌+◌, ◌-◌, ◌<◌, ◌≤◌, Bool, true, false, List, ◌∷◌, ◌++◌, length, get_or, set, take}
use Rattle.std.proofs.Common.{drop, refl, ap, ap₂, sym, ◌∙◌, subst, Some, arith, get_or-set_same, length-set}
use Rattle.std.specs.Prelude.{nat_lt, if◌then◌else◌}
use Rattle.std.proofs.lemmas.List.{length-map, get_or_default}
use Rattle.doc_rules.specs.Emphasis.{strength}
use Rattle.doc_inlines_emphasis.specs.Marks.{Placed, ArePlaced, AreDelimiters, IsPaired, less_closer}
use Rattle.doc_inlines_emphasis.specs.Marks as delimiters
use Rattle.doc_inlines_emphasis.specs.InPlace.{paired}
use Rattle.doc_inlines_emphasis.specs.Openers.{NearestIs}
use Rattle.doc_inlines_emphasis.specs.NumberSteps.{no_run, numbered, run_numbered, stack_of, taken_opener, paired_runs, paired_openers}
use Rattle.doc_inlines_emphasis.proofs.Stretches.{placed_order, placed_front, placed_at}
use Rattle.doc_inlines_emphasis.specs.PassSteps.{OneOrTwo, Stands, outcome, ClosesAt, Stacked}
use Rattle.doc_inlines_emphasis.proofs.Pairs.{strength_fits}
use Rattle.doc_inlines_emphasis.proofs.InPlaceLaws.{paired_is}
use Rattle.doc_inlines_emphasis.proofs.Numbers.{stack_split, pair_at}
use Rattle.doc_inlines_emphasis.proofs.NumberLoops.{stacked_pair}
use Rattle.doc_inlines_marks.specs.declared.mark_ref.MarkRef.{MarkRef}
use Rattle.doc_inlines_marks.specs.Views.{inlines_in}
use Rattle.doc_inlines_emphasis.specs.declared.run.Run.{Run}
use Rattle.doc_inlines_emphasis.specs.RunSteps.{char_of, run_shown, placed_shown, all_placed}
use Rattle.doc_inlines_emphasis.specs.Steps.{Keeps, StandAt, GoesOn}
use Rattle.doc_inlines_emphasis.specs.Views.{marks_shown}
use Rattle.doc_inlines_emphasis.proofs.NumberLaws.{numbered_is, as_many}

-- ---- where the runs of a pair stand

-- from this place on the opener stands before the closer, which ends at or before that one, and a pair takes no more than is left
pub record AreApart (a b : ℕ) (opener closer : Placed) : Type 0 where
  pub behind : a ≤ opener.first
  pub order : opener.first + opener.run.left ≤ closer.first
  pub within : closer.first + closer.run.left ≤ b
  pub taken : OneOrTwo (strength opener.run closer.run)
  pub of_opener : strength opener.run closer.run ≤ opener.run.left
  pub of_closer : strength opener.run closer.run ≤ closer.run.left

pub stand_apart : (marks : delimiters.Marks) (a b : ℕ) (runs : List Placed) (openers : List ℕ) (number place : ℕ) →
    Stands marks a b (stack_of runs openers) (numbered runs number) (drop (suc number) runs) → place < length openers
    → 1 ≤ (run_numbered runs number).left →
    AreApart a b (numbered runs (get_or openers place 0)) (numbered runs number)
stand_apart marks a b runs openers number place s l left =
    let o : Placed = numbered runs (get_or openers place 0) in
    let c : Placed = numbered runs number in
    let lower : List Placed = stack_of runs (take place openers) in
    let upper : List Placed = stack_of runs (drop (suc place) openers) in
    let split : ArePlaced marks a c.first (lower ++ (o ∷ upper)) = subst (λ t. ArePlaced marks a c.first t)
    (stack_split runs openers place l) s.before in
    let own : (1 ≤ o.run.left) × AreDelimiters marks o × ArePlaced marks (o.first + o.run.left) c.first upper = placed_at marks a c.first
    lower o upper split in
    let fits : OneOrTwo (strength o.run c.run) × (strength o.run c.run ≤ o.run.left)
    × (strength o.run c.run ≤ c.run.left) = strength_fits o.run c.run own.0 left in
    record {
      behind = placed_order marks a o.first lower (placed_front marks a c.first lower o upper split);
      order = placed_order marks (o.first + o.run.left) c.first upper own.2;
      within = placed_order marks (c.first + c.run.left) b (drop (suc number) runs) s.behind;
      taken = fits.0;
      of_opener = fits.1;
      of_closer = fits.2;
    }

-- so many delimiters may be taken of these two runs of the code, among so many marks
pub record MayPair (size n : ℕ) (opens closes : Run) : Type 0 where
  pub order : opens.first + opens.left ≤ closes.first
  pub within : closes.first + closes.left ≤ size
  pub taken : OneOrTwo n
  pub of_opener : n ≤ opens.left
  pub of_closer : n ≤ closes.left

pub place_is : (openers : List ℕ) (place opener : ℕ) → opener ≡ get_or openers place opener → place < length openers
    → opener ≡ get_or openers place 0
place_is openers place opener e l = e ∙ get_or_default openers place opener 0 l

-- the opener's number is that of a run
pub opens_at : (runs : List Run) (openers bounds : List ℕ) (number place opener : ℕ) → Stacked (all_placed runs) openers bounds number
    → place < length openers →
    opener ≡ get_or openers place opener → opener < number
opens_at runs openers bounds number place opener k l e =
    let ahead : get_or openers place 0 < number = k.before place l in
    let is : opener ≡ get_or openers place 0 = place_is openers place opener e l in
    omega arith

pub opens_is : (runs : List Run) (openers bounds : List ℕ) (number place opener : ℕ) (d : Run)
    → Stacked (all_placed runs) openers bounds number → number < length runs → place < length openers →
    opener ≡ get_or openers place opener → numbered (all_placed runs) (get_or openers place 0) ≡ placed_shown (get_or runs opener d)
opens_is runs openers bounds number place opener d k size l e =
    let ahead : opener < number = opens_at runs openers bounds number place opener k l e in
    ap (numbered (all_placed runs)) (sym (place_is openers place opener e l)) ∙ numbered_is runs opener d (omega arith)

pub may_pair : (marks : List MarkRef) (runs : List Run) (openers bounds : List ℕ) (number place opener n : ℕ) (d e : Run)
    → StandAt marks runs openers number →
    Stacked (all_placed runs) openers bounds number → number < length runs → place < length openers
    → 1 ≤ (run_numbered (all_placed runs) number).left → opener ≡ get_or openers place opener →
    n ≡ strength (run_shown (get_or runs opener d)) (run_shown (get_or runs number e))
    → MayPair (length marks) n (get_or runs opener d) (get_or runs number e)
may_pair marks runs openers bounds number place opener n d e s k size l left is taken =
    let x : Run = get_or runs opener d in
    let y : Run = get_or runs number e in
    let p : AreApart 0 (length marks) (placed_shown x) (placed_shown y) =
    subst (λ q. AreApart 0 (length marks) q (placed_shown y)) (opens_is runs openers bounds number place opener d k size l is)
    (subst (λ q. AreApart 0 (length marks) (numbered (all_placed runs) (get_or openers place 0)) q) (numbered_is runs number e size)
    (stand_apart (marks_shown marks) 0 (length marks) (all_placed runs) openers number place s l left)) in
    record {
      order = p.order;
      within = p.within;
      taken = subst OneOrTwo (sym taken) p.taken;
      of_opener = subst (λ m. m ≤ x.left) (sym taken) p.of_opener;
      of_closer = subst (λ m. m ≤ y.left) (sym taken) p.of_closer;
    }

-- ---- what the code wrote

pub record IsPairMade (marks next : List MarkRef) (runs left : List Run) (openers kept bounds : List ℕ) (number place n : ℕ) (x y : Run) :
    Type 0 where
  pub stands : StandAt marks runs openers number
  pub stacked : Stacked (all_placed runs) openers bounds number
  pub within : number < length runs
  pub some : 1 ≤ (run_numbered (all_placed runs) number).left
  pub nearest : NearestIs (run_numbered (all_placed runs)) openers (run_numbered (all_placed runs) number) (Some place)
  pub opens : numbered (all_placed runs) (get_or openers place 0) ≡ placed_shown x
  pub closes : numbered (all_placed runs) number ≡ placed_shown y
  pub taken : n ≡ strength (run_shown x) (run_shown y)
  pub marks_are : marks_shown next ≡ paired (marks_shown marks) (x.first + (x.left - n)) y.first (char_of y) n
  pub keeps : (p : ℕ) → p ≤ x.first + (x.left - n) → Keeps p marks next
  pub runs_are : all_placed left ≡ paired_runs (all_placed runs) (get_or openers place 0) number n
  pub kept_are : kept ≡ take (if nat_lt n x.left then place + 1 else place) openers

module _ (marks next : List MarkRef) (runs left : List Run) (openers kept bounds : List ℕ) (number place n : ℕ) (x y : Run)
    (m : IsPairMade marks next runs left openers kept bounds number place n x y) where
  openers_are : kept ≡ paired_openers (all_placed runs) openers place n
  openers_are = m.kept_are ∙ (by (nat_lt n x.left)
      ∙ ap (λ (p : Placed). elim (nat_lt n p.run.left) as (λ _. List ℕ) [ true ↦ take (suc place) openers | false ↦ take place openers ])
      (sym m.opens))
    where
      by : (b : Bool) → take (if b then place + 1 else place) openers
          ≡ elim b as (λ _. List ℕ) [ true ↦ take (suc place) openers | false ↦ take place openers ]
      by true = let e : place + 1 ≡ suc place = omega arith in ap (λ k. take k openers) e
      by false = refl

  size : number < length (all_placed runs)
  size = subst (λ k. number < k) (sym (as_many runs)) m.within

  strong : n ≡ strength (run_numbered (all_placed runs) (get_or openers place 0)) (run_numbered (all_placed runs) number)
  strong = m.taken ∙ sym (ap₂ (λ (p q : Placed). strength p.run q.run) m.opens m.closes)

  written : marks_shown next ≡
      paired (marks_shown marks) ((numbered (all_placed runs) (get_or openers place 0)).first +
      ((run_numbered (all_placed runs) (get_or openers place 0)).left - n)) (numbered (all_placed runs) number).first
      (run_numbered (all_placed runs) number).char n
  written = m.marks_are
      ∙ sym (ap₂ (λ (p q : Placed). paired (marks_shown marks) (p.first + (p.run.left - n)) q.first q.run.char n) m.opens m.closes)

  apart : (a b : ℕ) → Stands (marks_shown marks) a b (stack_of (all_placed runs) openers) (numbered (all_placed runs) number)
      (drop (suc number) (all_placed runs)) →
      AreApart a b (numbered (all_placed runs) (get_or openers place 0)) (numbered (all_placed runs) number)
  apart a b s = stand_apart (marks_shown marks) a b (all_placed runs) openers number place s m.nearest.0 m.some

  pub pair_goes : GoesOn marks next runs left openers kept number
  pair_goes a b goal fits h =
      let o : Placed = numbered (all_placed runs) (get_or openers place 0) in
      let c : Placed = numbered (all_placed runs) number in
      let p : AreApart a b o c = apart a b h.stands in
      let few : n ≤ o.run.left = subst (λ k. k ≤ o.run.left) (sym strong) p.of_opener in
      let less : n ≤ c.run.left = subst (λ k. k ≤ c.run.left) (sym strong) p.of_closer in
      let two : OneOrTwo n = subst OneOrTwo (sym strong) p.taken in
      let long : length (marks_shown marks) ≡ length marks = length-map marks inlines_in in
      let order : o.first + o.run.left ≤ c.first = p.order in
      let last : c.first + c.run.left ≤ b = p.within in
      let behind : a ≤ o.first = p.behind in
      let pair : IsPaired (marks_shown marks) (marks_shown next) (o.first + (o.run.left - n)) c.first c.run.char n =
      subst (λ t. IsPaired (marks_shown marks) t (o.first + (o.run.left - n)) c.first c.run.char n) (sym written)
      (paired_is (marks_shown marks) (o.first + (o.run.left - n)) c.first c.run.char n two (omega arith) (omega arith)) in
      let made : ClosesAt (marks_shown next) a b (paired_runs (all_placed runs) (get_or openers place 0) number n)
      (paired_openers (all_placed runs) openers place n) number goal =
      pair_at (marks_shown marks) (marks_shown next) a b (all_placed runs) openers number place n goal h size m.stacked.ascend
      m.stacked.before m.nearest m.some strong pair in
      let again : ClosesAt (marks_shown next) a b (all_placed left) (paired_openers (all_placed runs) openers place n) number goal =
      subst (λ t. ClosesAt (marks_shown next) a b t (paired_openers (all_placed runs) openers place n) number goal) (sym m.runs_are) made
      in (
        subst (λ t. ClosesAt (marks_shown next) a b (all_placed left) t number goal) (sym openers_are) again,
        m.keeps a (subst (λ (q : Placed). a ≤ q.first + (q.run.left - n)) m.opens (omega arith)),
      )

  pub pair_stacked : Stacked (all_placed left) kept bounds number
  pair_stacked =
      subst (λ t. Stacked t kept bounds number) (sym m.runs_are)
      (subst (λ t. Stacked (paired_runs (all_placed runs) (get_or openers place 0) number n) t bounds number) (sym openers_are)
      (stacked_pair (all_placed runs) openers bounds number place n m.stacked size m.nearest.0))

  pub pair_size : length left ≡ length runs
  pair_size =
      let first : length (set (all_placed runs) (get_or openers place 0)
      (taken_opener n (numbered (all_placed runs) (get_or openers place 0)))) ≡ length (all_placed runs) =
      length-set (all_placed runs) (get_or openers place 0) (taken_opener n (numbered (all_placed runs) (get_or openers place 0))) in
      sym (as_many left)
      ∙ (ap length m.runs_are
      ∙ (length-set (set (all_placed runs) (get_or openers place 0) (taken_opener n (numbered (all_placed runs) (get_or openers place 0))))
      number (less_closer n (numbered (all_placed runs) number)) ∙ (first ∙ as_many runs)))

  closer_is : numbered (all_placed left) number ≡ less_closer n (numbered (all_placed runs) number)
  closer_is =
      let first : length (set (all_placed runs) (get_or openers place 0)
      (taken_opener n (numbered (all_placed runs) (get_or openers place 0)))) ≡ length (all_placed runs) =
      length-set (all_placed runs) (get_or openers place 0) (taken_opener n (numbered (all_placed runs) (get_or openers place 0))) in
      ap (λ t. numbered t number) m.runs_are
      ∙ get_or-set_same (set (all_placed runs) (get_or openers place 0)
      (taken_opener n (numbered (all_placed runs) (get_or openers place 0)))) number (less_closer n (numbered (all_placed runs) number))
      no_run
      (subst (λ k. number < k) (sym first) size)

  pub pair_closes : (run_numbered (all_placed left) number).closes ≡ (run_numbered (all_placed runs) number).closes
  pair_closes = ap (λ (p : Placed). p.run.closes) closer_is

  pub pair_less : (run_numbered (all_placed left) number).left < (run_numbered (all_placed runs) number).left
  pair_less =
      let p : AreApart 0 (length marks) (numbered (all_placed runs) (get_or openers place 0)) (numbered (all_placed runs) number) = apart 0
      (length marks) m.stands in
      let few : n ≤ (run_numbered (all_placed runs) number).left = subst (λ k. k ≤ (run_numbered (all_placed runs) number).left)
      (sym strong) p.of_closer in
      let one : 1 ≤ n = some_taken n (subst OneOrTwo (sym strong) p.taken) in
      let left_is : (run_numbered (all_placed left) number).left ≡ (run_numbered (all_placed runs) number).left - n = ap
      (λ (p : Placed). p.run.left) closer_is in
      omega arith
    where
      some_taken : (k : ℕ) → OneOrTwo k → 1 ≤ k
      some_taken k (inl e) = omega arith
      some_taken k (inr e) = omega arith

-- ---- what goes on

-- what goes on stands
pub stands_on : (marks next : List MarkRef) (runs left : List Run) (openers kept : List ℕ) (number : ℕ) → StandAt marks runs openers number
    → GoesOn marks next runs left openers kept number →
    StandAt next left kept number
stands_on marks next runs left openers kept number s g =
    let b : ℕ = length marks in
    let first : ClosesAt (marks_shown marks) 0 b (all_placed runs) openers number
    (outcome (marks_shown marks) 0 b (stack_of (all_placed runs) openers) (numbered (all_placed runs) number)
    (drop (suc number) (all_placed runs))) =
    record { stands = s; makes = refl } in
    let then_ : ClosesAt (marks_shown next) 0 b (all_placed left) kept number
    (outcome (marks_shown marks) 0 b (stack_of (all_placed runs) openers) (numbered (all_placed runs) number)
    (drop (suc number) (all_placed runs))) × Keeps 0 marks next =
    g 0 b (outcome (marks_shown marks) 0 b (stack_of (all_placed runs) openers) (numbered (all_placed runs) number)
    (drop (suc number) (all_placed runs))) (omega arith) first in
    subst (λ k. Stands (marks_shown next) 0 k (stack_of (all_placed left) kept) (numbered (all_placed left) number)
    (drop (suc number) (all_placed left))) (sym then_.1.size) then_.0.stands
