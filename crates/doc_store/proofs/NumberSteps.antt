-- Steps of the sets of groups, each with how many pages have it and with its number.
use Rattle.std.proofs.Common.{◌≡◌, ◌≢◌, ℕ, zero, suc, ◌+◌, ◌-◌, ◌<◌, ◌≤◌, List, [], ◌∷◌, Bool, true, false, cond, get_or, set}
use Rattle.std.proofs.Common.{refl, ap, sym, ◌∙◌, arith}
use Rattle.std.specs.Prelude.{Option, Some, None, option_map, Result, Ok, Err, IfOk, OnOk}
use Rattle.std.specs.Cmp.{tied_itself}
use Rattle.std.specs.FinMap as map
use Rattle.std.specs.Ordering.{nat_cmp, eq_by_cmp, is_eq}
use Rattle.std.proofs.lemmas.Cmp.{nat_cmp_total}
use Rattle.std.proofs.lemmas.Map.Lookups.{exact_unsigned}
use Rattle.std.proofs.lemmas.Option.{none-some, same_Some}
use Rattle.doc_page_parts.proofs.Bools.{clash}
use Rattle.doc_page_parts.proofs.Orders.{is_eq_true}
use Rattle.doc_store.proofs.CountSteps.{groups_from, groups_itself, groups_total, more_itself, more_other}
use Rattle.doc_store.specs.declared.group_sets.GroupSet.{GroupSet}
use Rattle.doc_store.specs.GroupSets.{AreCounts, Keeps, NumberedSets, groups_at, groups_cmp, no_sets, one_more, same_groups, set_of, slot_at}

same_number : ℕ → ℕ → Bool
same_number m n = eq_by_cmp nat_cmp m n

number_is : (m n : ℕ) → same_number m n ≡ true → m ≡ n
unfolding same_number
number_is m n e = exact_unsigned m n (is_eq_true (nat_cmp m n) e)

not_same : (m n : ℕ) → same_number m n ≡ false → m ≢ n
unfolding same_number
not_same m n e is = clash (same_number m n) (ap (λ k. same_number k n) is ∙ ap is_eq (tied_itself nat_cmp_total n)) e

-- a value that is written where one stands
pub written : {X : Type 0} (slots : List (Option X)) (n : ℕ) (was new : X) → get_or slots n None ≡ Some was
    → get_or (set slots n (Some new)) n None ≡ Some new
written [] n was new e = absurd (none-some was e)
written (slot ∷ slots) zero was new e = refl
written (slot ∷ slots) (suc n) was new e = written slots n was new e

-- what stands under a number, from how many pages have the set
no_set : (groups : List (List ℕ)) (n : ℕ) → ◌≡◌ {A = Option (Option GroupSet)} None (option_map Some (set_of groups n)) → n ≡ 0
no_set groups zero e = refl
no_set groups (suc n) e = absurd cc

one_set : (groups : List (List ℕ)) (n : ℕ) (found : Option GroupSet) → Some found ≡ option_map Some (set_of groups n)
    → (k : ℕ) × (n ≡ suc k) × (found ≡ Some (record { groups = groups; pages = suc k }))
one_set groups zero found e = absurd cc
one_set groups (suc k) found e = (k, refl, same_Some found (Some (record { groups = groups; pages = suc k })) e)

-- sets that change under one number and by one list of names
module _ (old new : NumberedSets) (number numbers : List (List ℕ) → ℕ) (groups : List (List ℕ)) (n : ℕ) (here : Option ℕ)
    (set : Option GroupSet) (counts : AreCounts old number)
    (names : (others : List (List ℕ)) → map.get new.numbers others ≡ cond (same_groups others groups) here (map.get old.numbers others))
    (changed : slot_at new n ≡ set) (kept : (m : ℕ) → m ≢ n → slot_at new m ≡ slot_at old m)
    (was : (s : GroupSet) → slot_at old n ≡ Some s → s.groups ≡ groups)
    (led : (m : ℕ) → map.get old.numbers groups ≡ Some m → m ≡ n)
    (right : option_map (slot_at new) here ≡ option_map Some (set_of groups (numbers groups)))
    (now : (s : GroupSet) → set ≡ Some s → (s.groups ≡ groups) × (here ≡ Some n))
    (there : (others : List (List ℕ)) → same_groups others groups ≡ false → number others ≡ numbers others) where
  apart_from : (others : List (List ℕ)) (m : ℕ) → same_groups others groups ≡ false → map.get old.numbers others ≡ Some m → m ≢ n
  apart_from others m e found is =
      let at = one_set others (number others) (slot_at old m) (ap (option_map (slot_at old)) (sym found) ∙ counts.each others) in
      let same : others ≡ groups = was (record { groups = others; pages = suc at.0 }) (ap (slot_at old) (sym is) ∙ at.2) in
      clash (same_groups others groups) (ap (same_groups others) (sym same) ∙ groups_itself others) e

  each_after : (others : List (List ℕ))
      → option_map (slot_at new) (map.get new.numbers others) ≡ option_map Some (set_of others (numbers others))
  each_after others = ap (option_map (slot_at new)) (names others) ∙ by (same_groups others groups) refl
    where
      same_slot : (x : Option ℕ) → map.get old.numbers others ≡ x → same_groups others groups ≡ false
          → option_map (slot_at new) x ≡ option_map (slot_at old) x
      same_slot None f e = refl
      same_slot (Some m) f e = ap Some (kept m (apart_from others m e f))

      by : (b : Bool) → same_groups others groups ≡ b
          → option_map (slot_at new) (cond b here (map.get old.numbers others)) ≡ option_map Some (set_of others (numbers others))
      by true e = right ∙ ap (λ g. option_map Some (set_of g (numbers g))) (sym (groups_from others groups e))
      by false e =
          same_slot (map.get old.numbers others) refl e ∙ counts.each others
          ∙ ap (λ k. option_map Some (set_of others k)) (there others e)

  once_after : (slot : ℕ) (s : GroupSet) → slot_at new slot ≡ Some s → map.get new.numbers s.groups ≡ Some slot
  once_after slot s at = by (same_number slot n) refl
    where
      other : (b : Bool) → same_groups s.groups groups ≡ b → slot ≢ n → map.get old.numbers s.groups ≡ Some slot
          → cond b here (map.get old.numbers s.groups) ≡ Some slot
      other true f apart before = absurd (apart (led slot (ap (map.get old.numbers) (sym (groups_from s.groups groups f)) ∙ before)))
      other false f apart before = before

      by : (b : Bool) → same_number slot n ≡ b → map.get new.numbers s.groups ≡ Some slot
      by true e =
          let is = number_is slot n e in
          let found = now s (sym changed ∙ ap (slot_at new) (sym is) ∙ at) in
          names s.groups
          ∙ ap (λ b. cond b here (map.get old.numbers s.groups)) (ap (same_groups s.groups) (sym found.0) ∙ groups_itself s.groups)
          ∙ found.1 ∙ ap Some (sym is)
      by false e =
          let apart = not_same slot n e in
          names s.groups
          ∙ other (same_groups s.groups groups) refl apart (counts.once slot s (sym (kept slot apart) ∙ at))

  after_change : AreCounts new numbers
  after_change = record { each = each_after; once = once_after }

module _ (old : NumberedSets) (groups : List (List ℕ)) (number : List (List ℕ) → ℕ) (counts : AreCounts old number)
    (new : NumberedSets) (n : ℕ) (kept : (m : ℕ) → m ≢ n → slot_at new m ≡ slot_at old m) where
  -- the first page with these groups
  pub first_counted : None ≡ map.get old.numbers groups → slot_at old n ≡ None → new.numbers ≡ map.insert old.numbers groups n
      → slot_at new n ≡ Some (record { groups = groups; pages = 1 }) → AreCounts new (one_more groups number)
  first_counted none vacant put at =
      let zeroed : number groups ≡ 0 = no_set groups (number groups) (ap (option_map (slot_at old)) none ∙ counts.each groups) in
      let one : one_more groups number groups ≡ 1 = more_itself groups number ∙ ap (λ k. suc k) zeroed in
      after_change old new number (one_more groups number) groups n (Some n) (Some (record { groups = groups; pages = 1 })) counts
      (λ others. ap (λ m. map.get m others) put ∙ map.get-insert groups_total old.numbers groups n others)
      at kept
      (λ s e. absurd (none-some s (sym vacant ∙ e)))
      (λ m e. absurd (none-some m (none ∙ e)))
      (ap Some at ∙ ap (λ k. option_map Some (set_of groups k)) (sym one))
      (λ s e. (ap (λ (t : GroupSet). t.groups) (sym (same_Some (record { groups = groups; pages = 1 }) s e)), refl))
      (λ others e. sym (more_other groups others number e))

  module _ (found : Some n ≡ map.get old.numbers groups) where
    -- the set with these groups has their number
    pub stands_at : (k : ℕ) × (number groups ≡ suc k) × (slot_at old n ≡ Some (record { groups = groups; pages = suc k }))
    stands_at = one_set groups (number groups) (slot_at old n) (ap (option_map (slot_at old)) found ∙ counts.each groups)

    pub groups_there : (s : GroupSet) → slot_at old n ≡ Some s → (s.groups ≡ groups) × (s.pages ≡ number groups)
    groups_there s e =
        let at = stands_at in
        let set : GroupSet = record { groups = groups; pages = suc at.0 } in
        let same : set ≡ s = same_Some set s (sym at.2 ∙ e) in
        (ap (λ (t : GroupSet). t.groups) (sym same), ap (λ (t : GroupSet). t.pages) (sym same) ∙ sym at.1)

    same_names : new.numbers ≡ old.numbers → (others : List (List ℕ))
        → map.get new.numbers others ≡ cond (same_groups others groups) (Some n) (map.get old.numbers others)
    same_names same others = ap (λ m. map.get m others) same ∙ by (same_groups others groups) refl
      where
        by : (b : Bool) → same_groups others groups ≡ b → map.get old.numbers others ≡ cond b (Some n) (map.get old.numbers others)
        by true e = ap (map.get old.numbers) (groups_from others groups e) ∙ sym found
        by false e = refl

    -- another count of the set with these groups
    pub recounted : (numbers : List (List ℕ) → ℕ) (k : ℕ) → numbers groups ≡ suc k → new.numbers ≡ old.numbers
        → slot_at new n ≡ Some (record { groups = groups; pages = suc k })
        → ((others : List (List ℕ)) → same_groups others groups ≡ false → number others ≡ numbers others) → AreCounts new numbers
    recounted numbers k is same at there =
        after_change old new number numbers groups n (Some n) (Some (record { groups = groups; pages = suc k })) counts
        (same_names same) at kept
        (λ s e. (groups_there s e).0)
        (λ m e. same_Some m n (sym e ∙ sym found))
        (ap Some at ∙ ap (λ j. option_map Some (set_of groups j)) (sym is))
        (λ s e. (ap (λ (t : GroupSet). t.groups) (sym (same_Some (record { groups = groups; pages = suc k }) s e)), refl))
        there

    -- the set with these groups goes
    pub uncounted : (numbers : List (List ℕ) → ℕ) → numbers groups ≡ 0 → new.numbers ≡ map.remove old.numbers groups
        → slot_at new n ≡ None
        → ((others : List (List ℕ)) → same_groups others groups ≡ false → number others ≡ numbers others) → AreCounts new numbers
    uncounted numbers zeroed gone at there =
        after_change old new number numbers groups n None None counts
        (λ others. ap (λ m. map.get m others) gone ∙ map.get-remove groups_total old.numbers groups others)
        at kept
        (λ s e. (groups_there s e).0)
        (λ m e. same_Some m n (sym e ∙ sym found))
        (ap (λ j. option_map Some (set_of groups j)) (sym zeroed))
        (λ s e. absurd (none-some s e))
        there

-- another page with these groups
pub next_counted : (old : NumberedSets) (groups : List (List ℕ)) (number : List (List ℕ) → ℕ) → AreCounts old number
    → (new : NumberedSets) (n : ℕ) → ((m : ℕ) → m ≢ n → slot_at new m ≡ slot_at old m) → Some n ≡ map.get old.numbers groups
    → (s : GroupSet) → slot_at old n ≡ Some s → new.numbers ≡ old.numbers
    → slot_at new n ≡ Some (record { groups = s.groups; pages = s.pages + 1 }) → AreCounts new (one_more groups number)
next_counted old groups number counts new n kept found s at same now =
    let is = groups_there old groups number counts new n kept found s at in
    let more : s.pages + 1 ≡ suc (number groups) = omega (arith, is.1) in
    recounted old groups number counts new n kept found (one_more groups number) (number groups) (more_itself groups number) same
    (now ∙ (λ i. Some (record { groups = is.0 i; pages = more i })))
    (λ others e. sym (more_other groups others number e))

module _ (old : NumberedSets) (groups : List (List ℕ)) (number : List (List ℕ) → ℕ) (counts : AreCounts old (one_more groups number)) where
  some_page : (k : ℕ) → one_more groups number groups ≡ k → k ≡ 0 → ⊥
  some_page k is zeroed =
      let more = more_itself groups number in
      omega (arith, is, zeroed, more)

  pub named : None ≡ map.get old.numbers groups → ⊥
  named none =
      some_page (one_more groups number groups) refl
      (no_set groups (one_more groups number groups) (ap (option_map (slot_at old)) none ∙ counts.each groups))

  module _ (n : ℕ) (found : Some n ≡ map.get old.numbers groups) where
    pub stands : None ≡ slot_at old n → ⊥
    stands none =
        let at = stands_at old groups (one_more groups number) counts old n (λ m apart. refl) found in
        none-some (record { groups = groups; pages = suc at.0 }) (none ∙ at.2)

    module _ (new : NumberedSets) (kept : (m : ℕ) → m ≢ n → slot_at new m ≡ slot_at old m)
        (s : GroupSet) (at : slot_at old n ≡ Some s) where
      is_there : (s.groups ≡ groups) × (s.pages ≡ suc (number groups))
      is_there =
          let is = groups_there old groups (one_more groups number) counts new n kept found s at in
          (is.0, is.1 ∙ more_itself groups number)

      -- a page with these groups goes, and others stay
      pub one_uncounted : 1 < s.pages → new.numbers ≡ old.numbers
          → slot_at new n ≡ Some (record { groups = s.groups; pages = s.pages - 1 }) → AreCounts new number
      one_uncounted many same now = by (number groups) refl
        where
          by : (k : ℕ) → number groups ≡ k → AreCounts new number
          by zero e =
              let pages = is_there.1 in
              absurd (omega (arith, many, pages, e))
          by (suc k) e =
              let pages = is_there.1 in
              let less : s.pages - 1 ≡ suc k = omega (arith, pages, e) in
              recounted old groups (one_more groups number) counts new n kept found number k e same
              (now ∙ (λ i. Some (record { groups = is_there.0 i; pages = less i })))
              (λ others f. more_other groups others number f)

      none_left : s.pages ≤ 1 → number groups ≡ 0
      none_left few =
          let pages = is_there.1 in
          omega (arith, few, pages)

      -- the last page with these groups goes
      pub last_uncounted : s.pages ≤ 1 → new.numbers ≡ map.remove old.numbers groups → slot_at new n ≡ None → AreCounts new number
      last_uncounted few gone now =
          uncounted old groups (one_more groups number) counts new n kept found number (none_left few) gone now
          (λ others f. more_other groups others number f)

      -- and the other sets keep their numbers
      pub last_keeps : s.pages ≤ 1 → Keeps old new number
      last_keeps few slot others there more = by (same_number slot n) refl
        where
          by : (b : Bool) → same_number slot n ≡ b → groups_at new slot ≡ Some others
          by true e =
              let same : others ≡ groups = same_Some others groups (sym there ∙ ap (groups_at old) (number_is slot n e)
              ∙ ap (option_map (λ (t : GroupSet). t.groups)) at ∙ ap Some is_there.0) in
              let none = none_left few in
              let number_same = ap number same in
              absurd (omega (arith, more, none, number_same))
          by false e = ap (option_map (λ (t : GroupSet). t.groups)) (kept slot (not_same slot n e)) ∙ there

-- sets keep their numbers where one changes that keeps its groups, or one comes where none was
module _ (old new : NumberedSets) (n : ℕ) (kept : (m : ℕ) → m ≢ n → slot_at new m ≡ slot_at old m) (number : List (List ℕ) → ℕ) where
  pub keeps : (s t : GroupSet) → slot_at old n ≡ Some s → slot_at new n ≡ Some t → t.groups ≡ s.groups → Keeps old new number
  keeps s t before now same slot others there more = by (same_number slot n) refl
    where
      by : (b : Bool) → same_number slot n ≡ b → groups_at new slot ≡ Some others
      by true e =
          let is = number_is slot n e in
          ap (groups_at new) is ∙ ap (option_map (λ (x : GroupSet). x.groups)) now ∙ ap Some same
          ∙ sym (ap (option_map (λ (x : GroupSet). x.groups)) before) ∙ ap (groups_at old) (sym is) ∙ there
      by false e = ap (option_map (λ (x : GroupSet). x.groups)) (kept slot (not_same slot n e)) ∙ there

-- the counts of the same numbers
pub same_counts : (sets : NumberedSets) (number numbers : List (List ℕ) → ℕ) → ((groups : List (List ℕ)) → number groups ≡ numbers groups)
    → AreCounts sets number → AreCounts sets numbers
same_counts sets number numbers same counts = record {
  each = λ groups. counts.each groups ∙ ap (λ n. option_map Some (set_of groups n)) (same groups);
  once = counts.once;
}

pub none_there : AreCounts no_sets (λ groups. 0)
none_there = record {
  each = λ groups. ap (option_map (slot_at no_sets)) (map.get-empty groups_cmp groups);
  once = λ slot s e. absurd (none-some s e);
}

-- a set that starts where none had these groups
pub started : {E : Type 0} (result : Result ℕ E) (old new : NumberedSets) (groups : List (List ℕ)) → None ≡ map.get old.numbers groups
    → IfOk result (λ slot. slot_at old slot ≡ None) → IfOk result (λ slot. new.numbers ≡ map.insert old.numbers groups slot)
    → IfOk result (λ slot. slot_at new slot ≡ Some (record { groups = groups; pages = 1 }))
    → IfOk result (λ slot. (other : ℕ) → other ≢ slot → slot_at new other ≡ slot_at old other)
    → OnOk result ((number : List (List ℕ) → ℕ) → AreCounts old number → AreCounts new (one_more groups number))
started (Ok n) old new groups none vacant put at kept = λ number counts.
    first_counted old groups number counts new n kept none vacant put at
started (Err e) old new groups none vacant put at kept = vacant
