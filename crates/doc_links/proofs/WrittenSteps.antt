-- Numbers that are summed slot by slot.
use Rattle.std.proofs.Common.{◌≡◌, ◌<◌, ◌≤◌, ℕ, ◌+◌, List, [], ◌∷◌, ◌++◌, Bool, true, false, cond, get_or, length, set, take, refl, ap, arith, sum_by, sym, subst, ◌∙◌}
use Rattle.std.specs.Prelude.{Some, if◌then◌else◌, map as mapped, unwrap_or}
use Rattle.std.specs.FinMap as map
use Rattle.std.specs.List.{AllByRecursion}
use Rattle.std.specs.declared.cmp.Ordering.TheVariants.{Less}
use Rattle.std.specs.List.Sorted.{IsStrictlySortedBy}
use Rattle.std.specs.Map.{keys_of}
use Rattle.std.specs.Ordering.{nat_cmp}
use Rattle.std.proofs.lemmas.List.{get_or-set_other, get_or-set_same, length-set, take_more}
use Rattle.std.proofs.lemmas.List.Sums.{sum_by_push, sum_by-cons}
use Rattle.doc_index_tables.specs.TableSteps.{same_number}
use Rattle.doc_index_tables.proofs.CountSteps.{number_is, number_itself}
use Rattle.doc_links.specs.WrittenSteps.{HasMore, count_of}
use Rattle.doc_links.proofs.TallySteps.{find_before}

differ : true ≡ false → ⊥
differ is = cc

-- nothing more
pub nothing_more : (more : ℕ → ℕ) (counts : List ℕ) → ((slot : ℕ) → slot < length counts → more slot ≡ 0) → HasMore more counts counts
nothing_more more counts none = (refl, λ slot within. let e = none slot within in omega (arith, e))

-- a slot past the last
pub past_last : (counts : List ℕ) (slot count : ℕ) → length counts ≤ slot
    → HasMore (λ other. if same_number other slot then count else 0) counts counts
past_last counts slot count past = nothing_more _ counts (λ other within. by other within (same_number other slot) refl)
  where
    by : (other : ℕ) → other < length counts → (b : Bool) → same_number other slot ≡ b → cond b count 0 ≡ 0
    by other within true is = let e = number_is other slot is in absurd (omega (arith, e, within, past))
    by other within false is = refl

-- one slot has more
pub one_more : (counts after : List ℕ) (slot count sum : ℕ) → slot < length counts → sum ≡ get_or counts slot 0 + count
    → after ≡ set counts slot sum → HasMore (λ other. if same_number other slot then count else 0) counts after
one_more counts after slot count sum within is made = (
  ap length made ∙ length-set counts slot sum,
  λ other low. ap (λ xs. count_of xs other) made ∙ by other (same_number other slot) refl,
)
  where
    by : (other : ℕ) (b : Bool) → same_number other slot ≡ b → count_of (set counts slot sum) other ≡ count_of counts other + cond b count 0
    by other true same =
        ap (count_of (set counts slot sum)) (number_is other slot same)
        ∙ get_or-set_same counts slot sum 0 within
        ∙ is
        ∙ ap (λ n. count_of counts n + count) (sym (number_is other slot same))
    by other false apart =
        get_or-set_other counts slot other sum 0 (λ same. differ (sym (ap (λ n. same_number n slot) same ∙ number_itself slot) ∙ apart))
        ∙ plus_none (count_of counts other)
      where
        plus_none : (n : ℕ) → n ≡ n + 0
        plus_none n = omega arith

-- what entries have under a number
abbrev pub in_row : ℕ → List (ℕ × ℕ) → ℕ
in_row slot entries = unwrap_or (map.find nat_cmp slot entries) 0

-- the entries that are left are still to be added
abbrev pub IsToAdd : List (ℕ × ℕ) → List (ℕ × ℕ) → List ℕ → List ℕ → Type 0
IsToAdd row left before counts =
    IsStrictlySortedBy nat_cmp (keys_of left)
    × (length counts ≡ length before)
    × ((slot : ℕ) → slot < length before → count_of counts slot + in_row slot left ≡ count_of before slot + in_row slot row)

pub to_add_first : (row left : List (ℕ × ℕ)) (counts : List ℕ) → IsStrictlySortedBy nat_cmp (keys_of row) → left ≡ row
    → IsToAdd row left counts counts
to_add_first row left counts sorted same = (
  subst (λ es. IsStrictlySortedBy nat_cmp (keys_of es)) (sym same) sorted,
  refl,
  λ slot within. ap (λ es. count_of counts slot + in_row slot es) same,
)

pub to_add_next : (row left more : List (ℕ × ℕ)) (entry : ℕ × ℕ) (before counts after : List ℕ) → left ≡ entry ∷ more
    → HasMore (λ other. if same_number other entry.0 then entry.1 else 0) counts after → IsToAdd row left before counts
    → IsToAdd row more before after
unfolding IsStrictlySortedBy
to_add_next row left more entry before counts after is added all =
    let sorted = subst (λ es. IsStrictlySortedBy nat_cmp (keys_of es)) is all.0 in (
      sorted.1,
      added.0 ∙ all.1,
      λ slot within.
          let a = added.1 slot (subst (λ n. slot < n) (sym all.1) within) in
          let b = all.2 slot within in
          let e = by slot sorted.0 (same_number slot entry.0) refl in
          let f : in_row slot left ≡ in_row slot (entry ∷ more) = ap (in_row slot) is in
          omega (arith, a, b, e, f),
    )
  where
    by : (slot : ℕ) → AllByRecursion (λ y. nat_cmp entry.0 y ≡ Less) (keys_of more) → (b : Bool) → same_number slot entry.0 ≡ b
        → cond (same_number slot entry.0) entry.1 0 + in_row slot more ≡ in_row slot (entry ∷ more)
    by slot below true same =
        let none : in_row slot more ≡ 0 =
        ap (λ o. unwrap_or o 0) (ap (λ n. map.find nat_cmp n more) (number_is slot entry.0 same) ∙ find_before nat_cmp entry.0 more below) in
        let here : in_row slot (entry ∷ more) ≡ entry.1 =
        ap (λ b. unwrap_or (cond b (Some entry.1) (map.find nat_cmp slot more)) 0) same in
        let one : cond (same_number slot entry.0) entry.1 0 ≡ entry.1 = ap (λ b. cond b entry.1 0) same in
        omega (arith, none, here, one)
    by slot below false apart =
        let here : in_row slot (entry ∷ more) ≡ in_row slot more =
        ap (λ b. unwrap_or (cond b (Some entry.1) (map.find nat_cmp slot more)) 0) apart in
        let one : cond (same_number slot entry.0) entry.1 0 ≡ 0 = ap (λ b. cond b entry.1 0) apart in
        omega (arith, here, one)

pub all_added : (row : map.FinMap nat_cmp ℕ) (left : List (ℕ × ℕ)) (before counts : List ℕ) → left ≡ []
    → IsToAdd (map.entries row) left before counts → HasMore (λ slot. unwrap_or (map.get row slot) 0) before counts
all_added row left before counts none all = (
  all.1,
  λ slot within.
      let a = all.2 slot within in
      let b : in_row slot left ≡ 0 = ap (in_row slot) none in
      let e : unwrap_or (map.get row slot) 0 ≡ in_row slot (map.entries row) = ap (λ o. unwrap_or o 0) (map.get-entries row slot) in
      omega (arith, a, b, e),
)

-- these are the numbers of so many slots
abbrev pub AreSummed : ℕ → (ℕ → ℕ) → List ℕ → Type 0
AreSummed count number counts = (length counts ≡ count) × ((slot : ℕ) → slot < count → count_of counts slot ≡ number slot)

mapped_sum : {X Y : Type 0} (f : Y → ℕ) (g : X → Y) (xs : List X) → sum_by f (mapped g xs) ≡ sum_by (λ x. f (g x)) xs
mapped_sum f g [] = refl
mapped_sum f g (x ∷ xs) =
    sum_by-cons f (g x) (mapped g xs) ∙ ap (λ k. f (g x) + k) (mapped_sum f g xs) ∙ sym (sum_by-cons (λ y. f (g y)) x xs)

-- one name more
pub summed_next : {X : Type 0} (number : List ℕ → ℕ → ℕ) (text : X → List ℕ) (names : List X) (n count : ℕ) (name : X)
    (counts after : List ℕ) → n < length names → name ≡ get_or names n name → HasMore (number (text name)) counts after
    → AreSummed count (λ i. sum_by (λ path. number path i) (mapped text (take n names))) counts
    → AreSummed count (λ i. sum_by (λ path. number path i) (mapped text (take (n + 1) names))) after
summed_next number text names n count name counts after low at added all = (
  added.0 ∙ all.0,
  λ i within.
      added.1 i (subst (λ k. i < k) (sym all.0) within)
      ∙ ap (λ k. k + number (text name) i) (all.1 i within ∙ mapped_sum (λ path. number path i) text (take n names))
      ∙ sym (sum_by_push (λ x. number (text x) i) (take n names) name)
      ∙ ap (sum_by (λ x. number (text x) i)) (sym (take_more names n name low ∙ ap (λ x. take n names ++ x ∷ []) (sym at)))
      ∙ sym (mapped_sum (λ path. number path i) text (take (n + 1) names)),
)
