-- What is held, and what stands in slots: at rest, after a page enters a slot, and after one leaves it.
use Rattle.std.proofs.Common.{◌≡◌, ◌≢◌, ◌⊎◌, inl, inr, ⊎_elim, ℕ, zero, suc, List, [], ◌∷◌, Bool, true, false, cond, refl, ap, sym, ap₂, ◌∙◌, true≢false}
use Rattle.std.specs.Borrow.{Bor}
use Rattle.std.specs.Prelude.{IfSome, option_copied, Option, Some, None}
use Rattle.std.specs.FinMap as map
use Rattle.std.proofs.lemmas.Option.{same_Some, none-some}
use Rattle.doc_index.specs.declared.held.Held.{Held}
use Rattle.doc_index.specs.Held.{AreApart, Known, entries_of, held, known, slot_at}
use Rattle.doc_index_tables.specs.Maps.{pair_cmp}
use Rattle.doc_index_tables.specs.TableSteps.{same_number}
use Rattle.doc_index_tables.proofs.CountSteps.{number_is, number_itself}
use Rattle.doc_index_tables.proofs.PairSteps.{pair_is, pair_itself, pairs_exact, pairs_total, same_pair}

pub some_is : {A : Type 0} (x y : A) → Some x ≡ Some y → x ≡ y
some_is x y e = cc

pub not_some : {A : Type 0} (x : A) → None ≡ Some x → ⊥
not_some x e = cc

pub not_same : (i v : ℕ) → same_number i v ≡ false → i ≢ v
not_same i v e is = true≢false (sym (ap (λ j. same_number j v) is ∙ number_itself v) ∙ e)

other_pair : (p q : List ℕ × ℕ) → same_pair p q ≡ false → p ≢ q
other_pair p q e is = true≢false (sym (ap (λ r. same_pair r q) is ∙ pair_itself q) ∙ e)

module _ {T : Type 0} where
  abbrev pub pair_of : Held T → List ℕ × ℕ
  pair_of page = (page.path, page.stamp)

  -- a page with this path and stamp stands in a slot, and none does
  abbrev pub Stands : List (Option (Held T)) → List ℕ × ℕ → Type 0
  Stands slots q = (i : ℕ) × (page : Held T) × (slot_at slots i ≡ Some page) × (pair_of page ≡ q)

  abbrev pub Lacks : List (Option (Held T)) → List ℕ × ℕ → Type 0
  Lacks slots q = (i : ℕ) (page : Held T) → slot_at slots i ≡ Some page → pair_of page ≢ q

  later : (first : Option (Held T)) (slots : List (Option (Held T))) (q : List ℕ × ℕ)
      → ((page : Held T) → first ≡ Some page → pair_of page ≢ q) → Stands slots q ⊎ Lacks slots q
      → Stands (first ∷ slots) q ⊎ Lacks (first ∷ slots) q
  later first slots q other (inl there) = inl (suc there.0, there.1, there.2, there.3)
  later first slots q other (inr none) = inr by
    where
      by : Lacks (first ∷ slots) q
      by zero = other
      by (suc i) = none i

  pub stands_or_lacks : (slots : List (Option (Held T))) (q : List ℕ × ℕ) → Stands slots q ⊎ Lacks slots q
  stands_or_lacks [] q = inr (λ i page at. absurd (none-some page at))
  stands_or_lacks (None ∷ slots) q = later None slots q (λ page at. absurd (none-some page at)) (stands_or_lacks slots q)
  stands_or_lacks (Some first ∷ slots) q = by (same_pair (pair_of first) q) refl (stands_or_lacks slots q)
    where
      by : (b : Bool) → same_pair (pair_of first) q ≡ b → Stands slots q ⊎ Lacks slots q
          → Stands (Some first ∷ slots) q ⊎ Lacks (Some first ∷ slots) q
      by true e rest = inl (zero, first, refl, pair_is (pair_of first) q e)
      by false e rest =
          later (Some first) slots q
          (λ page at same. other_pair (pair_of first) q e (ap pair_of (same_Some first page at) ∙ same)) rest

  abbrev pub found : List ℕ × ℕ → List (Option (Held T)) → Option (Known T)
  found q slots = map.find pair_cmp q (entries_of slots)

  -- where a page has the pair, and each that has it is known alike, this is found
  found_one : (q : List ℕ × ℕ) (k : Known T) (slots : List (Option (Held T))) (i : ℕ) (page : Held T)
      → slot_at slots i ≡ Some page → pair_of page ≡ q
      → ((j : ℕ) (other : Held T) → slot_at slots j ≡ Some other → pair_of other ≡ q → known other ≡ k)
      → found q slots ≡ Some k
  found_one q k [] i page is pair alike = absurd (none-some page is)
  found_one q k (None ∷ slots) zero page is pair alike = absurd (none-some page is)
  found_one q k (None ∷ slots) (suc i) page is pair alike = found_one q k slots i page is pair (λ j. alike (suc j))
  found_one q k (Some first ∷ slots) zero page is pair alike =
      ap (λ b. cond b (Some (known first)) (found q slots)) (ap (same_pair q) (ap pair_of (same_Some first page is) ∙ pair) ∙ pair_itself q)
      ∙ ap Some (alike zero first refl (ap pair_of (same_Some first page is) ∙ pair))
  found_one q k (Some first ∷ slots) (suc i) page is pair alike =
      by (same_pair q (pair_of first)) refl (found_one q k slots i page is pair (λ j. alike (suc j)))
    where
      by : (b : Bool) → same_pair q (pair_of first) ≡ b → found q slots ≡ Some k → cond b (Some (known first)) (found q slots) ≡ Some k
      by true e rest = ap Some (alike zero first refl (sym (pair_is q (pair_of first) e)))
      by false e rest = rest

  -- where no page has the pair, nothing is found
  found_none : (q : List ℕ × ℕ) (slots : List (Option (Held T))) → Lacks slots q → found q slots ≡ None
  found_none q [] none = refl
  found_none q (None ∷ slots) none = found_none q slots (λ j. none (suc j))
  found_none q (Some first ∷ slots) none = by (same_pair q (pair_of first)) refl (found_none q slots (λ j. none (suc j)))
    where
      by : (b : Bool) → same_pair q (pair_of first) ≡ b → found q slots ≡ None → cond b (Some (known first)) (found q slots) ≡ None
      by true e rest = absurd (none zero first refl (sym (pair_is q (pair_of first) e)))
      by false e rest = rest

  pub none_held : (slots : List (Option (Held T))) (q : List ℕ × ℕ) → Lacks slots q → map.get (held slots) q ≡ None
  none_held slots q none = map.get-from_entries pairs_total (entries_of slots) q ∙ found_none q slots none

module _ {T : Type 0} (slots : List (Option (Held T))) (apart : AreApart slots) where
  same_page : (i j : ℕ) (page other : Held T) → slot_at slots i ≡ Some page → slot_at slots j ≡ Some other
      → pair_of other ≡ pair_of page → other ≡ page
  same_page i j page other at at_other same =
      same_Some other page (sym at_other ∙ ap (slot_at slots) (apart j i other page at_other at (ap (λ p. p.0) same) (ap (λ p. p.1) same)) ∙ at)

  -- a page that stands in a slot is held
  pub held_one : (i : ℕ) (page : Held T) → slot_at slots i ≡ Some page → map.get (held slots) (pair_of page) ≡ Some (known page)
  held_one i page at =
      map.get-from_entries pairs_total (entries_of slots) (pair_of page)
      ∙ found_one (pair_of page) (known page) slots i page at refl (λ j other at_other same. ap known (same_page i j page other at at_other same))

  pub held_as : (q : List ℕ × ℕ) (i : ℕ) (page : Held T) → slot_at slots i ≡ Some page → pair_of page ≡ q
      → map.get (held slots) q ≡ Some (known page)
  held_as q i page at same = ap (map.get (held slots)) (sym same) ∙ held_one i page at

  -- where nothing is held, nothing stands
  pub lacks_held : (q : List ℕ × ℕ) → map.get (held slots) q ≡ None → Lacks slots q
  lacks_held q none i page at same = none-some (known page) (sym none ∙ held_as q i page at same)

  pub in_slot : (i : ℕ) (found : Option (Bor (Held T))) → option_copied found ≡ slot_at slots i
      → IfSome found (λ page. map.get (held slots) (pair_of page.now) ≡ Some (known page.now))
  in_slot i None e = tt
  in_slot i (Some page) e = held_one i page.now (sym e)

  -- a page enters a slot
  module _ (v : ℕ) (page : Held T) (vacant : slot_at slots v ≡ None) (free : map.get (held slots) (pair_of page) ≡ None)
      (after : List (Option (Held T))) (there : slot_at after v ≡ Some page)
      (elsewhere : (j : ℕ) → j ≢ v → slot_at after j ≡ slot_at slots j) where
    pub stays : (i : ℕ) (other : Held T) → slot_at slots i ≡ Some other → slot_at after i ≡ Some other
    stays i other at = elsewhere i (λ same. none-some other (sym vacant ∙ ap (slot_at slots) (sym same) ∙ at)) ∙ at

    came : (i : ℕ) (other : Held T) → slot_at after i ≡ Some other → ((i ≡ v) × (other ≡ page)) ⊎ (slot_at slots i ≡ Some other)
    came i other at = by (same_number i v) refl
      where
        by : (b : Bool) → same_number i v ≡ b → ((i ≡ v) × (other ≡ page)) ⊎ (slot_at slots i ≡ Some other)
        by true e = inl (number_is i v e, same_Some other page (sym at ∙ ap (slot_at after) (number_is i v e) ∙ there))
        by false e = inr (sym (elsewhere i (not_same i v e)) ∙ at)

    pub apart_after : AreApart after
    apart_after i j first other at at_other paths stamps =
        by (came i first at) (came j other at_other) (ap₂ (λ p s. (p, s)) paths stamps)
      where
        by : ((i ≡ v) × (first ≡ page)) ⊎ (slot_at slots i ≡ Some first) → ((j ≡ v) × (other ≡ page)) ⊎ (slot_at slots j ≡ Some other)
            → pair_of first ≡ pair_of other → i ≡ j
        by (inl new) (inl new_other) same = new.0 ∙ sym new_other.0
        by (inl new) (inr old) same = absurd (lacks_held (pair_of page) free j other old (sym same ∙ ap pair_of new.1))
        by (inr old) (inl new) same = absurd (lacks_held (pair_of page) free i first old (same ∙ ap pair_of new.1))
        by (inr old) (inr old_other) same = apart i j first other old old_other paths stamps

  -- a page leaves its slot
  module _ (v : ℕ) (page : Held T) (stood : slot_at slots v ≡ Some page) (after : List (Option (Held T)))
      (gone : slot_at after v ≡ None) (elsewhere : (j : ℕ) → j ≢ v → slot_at after j ≡ slot_at slots j) where
    pub stood_before : (i : ℕ) (other : Held T) → slot_at after i ≡ Some other → slot_at slots i ≡ Some other
    stood_before i other at = by (same_number i v) refl
      where
        by : (b : Bool) → same_number i v ≡ b → slot_at slots i ≡ Some other
        by true e = absurd (none-some other (sym (ap (slot_at after) (number_is i v e) ∙ gone) ∙ at))
        by false e = sym (elsewhere i (not_same i v e)) ∙ at

    pub apart_left : AreApart after
    apart_left i j first other at at_other = apart i j first other (stood_before i first at) (stood_before j other at_other)

    pub stays_else : (i : ℕ) (other : Held T) → slot_at slots i ≡ Some other → pair_of other ≢ pair_of page → slot_at after i ≡ Some other
    stays_else i other at differs =
        elsewhere i (λ same. differs (ap pair_of (same_Some other page (sym at ∙ ap (slot_at slots) same ∙ stood)))) ∙ at

-- what is held once a page has entered a slot
module _ {T : Type 0} (slots : List (Option (Held T))) (apart : AreApart slots)
    (v : ℕ) (page : Held T) (vacant : slot_at slots v ≡ None) (free : map.get (held slots) (pair_of page) ≡ None)
    (after : List (Option (Held T))) (there : slot_at after v ≡ Some page)
    (elsewhere : (j : ℕ) → j ≢ v → slot_at after j ≡ slot_at slots j) where
  pub held_entered : held after ≡ map.insert (held slots) (pair_of page) (known page)
  held_entered = map.same_map pairs_total pairs_exact _ _ (λ q.
      by q (same_pair q (pair_of page)) refl (stands_or_lacks slots q)
      ∙ sym (map.get-insert pairs_total (held slots) (pair_of page) (known page) q))
    where
      still_apart : AreApart after
      still_apart = apart_after slots apart v page vacant free after there elsewhere

      by : (q : List ℕ × ℕ) (b : Bool) → same_pair q (pair_of page) ≡ b → Stands slots q ⊎ Lacks slots q
          → map.get (held after) q ≡ cond b (Some (known page)) (map.get (held slots) q)
      by q true e old = held_as after still_apart q v page there (sym (pair_is q (pair_of page) e))
      by q false e (inl old) =
          held_as after still_apart q old.0 old.1 (stays slots apart v page vacant free after there elsewhere old.0 old.1 old.2) old.3
          ∙ sym (held_as slots apart q old.0 old.1 old.2 old.3)
      by q false e (inr none) =
          none_held after q (λ i other at same. ⊎_elim
          (λ new. other_pair q (pair_of page) e (sym same ∙ ap pair_of new.1))
          (λ old. none i other old same)
          (came slots apart v page vacant free after there elsewhere i other at))
          ∙ sym (none_held slots q none)

-- what is held once a page has left its slot
module _ {T : Type 0} (slots : List (Option (Held T))) (apart : AreApart slots)
    (v : ℕ) (page : Held T) (stood : slot_at slots v ≡ Some page) (after : List (Option (Held T)))
    (gone : slot_at after v ≡ None) (elsewhere : (j : ℕ) → j ≢ v → slot_at after j ≡ slot_at slots j) where
  pub held_left : held after ≡ map.remove (held slots) (pair_of page)
  held_left = map.same_map pairs_total pairs_exact _ _ (λ q.
      by q (same_pair q (pair_of page)) refl (stands_or_lacks slots q)
      ∙ sym (map.get-remove pairs_total (held slots) (pair_of page) q))
    where
      before : (i : ℕ) (other : Held T) → slot_at after i ≡ Some other → slot_at slots i ≡ Some other
      before = stood_before slots apart v page stood after gone elsewhere

      by : (q : List ℕ × ℕ) (b : Bool) → same_pair q (pair_of page) ≡ b → Stands slots q ⊎ Lacks slots q
          → map.get (held after) q ≡ cond b None (map.get (held slots) q)
      by q true e old = none_held after q (λ i other at same.
          let pair = same ∙ pair_is q (pair_of page) e in
          let here = apart i v other page (before i other at) stood (ap (λ p. p.0) pair) (ap (λ p. p.1) pair) in
          none-some other (sym (ap (slot_at after) here ∙ gone) ∙ at))
      by q false e (inl old) =
          held_as after (apart_left slots apart v page stood after gone elsewhere) q old.0 old.1
          (stays_else slots apart v page stood after gone elsewhere old.0 old.1 old.2
          (λ same. other_pair q (pair_of page) e (sym old.3 ∙ same))) old.3
          ∙ sym (held_as slots apart q old.0 old.1 old.2 old.3)
      by q false e (inr none) =
          none_held after q (λ i other at. none i other (before i other at))
          ∙ sym (none_held slots q none)

-- what is not held is not taken away
pub absent : {T : Type 0} (slots : List (Option (Held T))) (p : List ℕ × ℕ) → map.get (held slots) p ≡ None
    → held slots ≡ map.remove (held slots) p
absent slots p none = map.same_map pairs_total pairs_exact _ _ (λ q.
    sym (map.get-remove pairs_total (held slots) p q ∙ by q (same_pair q p) refl))
  where
    by : (q : List ℕ × ℕ) (b : Bool) → same_pair q p ≡ b → cond b None (map.get (held slots) q) ≡ map.get (held slots) q
    by q true e = sym (ap (map.get (held slots)) (pair_is q p e) ∙ none)
    by q false e = refl
