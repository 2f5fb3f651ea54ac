-- Numbers of pages that come and go.
use Rattle.std.proofs.Common.{◌≡◌, ◌<◌, ℕ, zero, suc, List, [], ◌∷◌, ◌++◌, Bool, true, false, cond, ◌==◌, is_some, length, set, ap, inl, inr, refl, sym, subst, ◌∙◌}
use Rattle.std.specs.Prelude.{◌≢◌, ◌⊎◌, Option, Some, None}
use Rattle.std.specs.FinMap as map
use Rattle.std.specs.Ordering.{eq_by_cmp}
use Rattle.std.proofs.lemmas.Bool.{eqb-false, eqb-true}
use Rattle.std.proofs.lemmas.List.{get_or-set_other, get_or-set_same}
use Rattle.std.proofs.lemmas.Option.{none-some, same_Some}
use Rattle.doc_index.specs.Held.{AreApart, held, known, slot_at}
use Rattle.doc_index.specs.declared.held.Held.{Held}
use Rattle.doc_index.proofs.HeldSteps.{Lacks, Stands, held_as, held_one, none_held, pair_of, stands_or_lacks}
use Rattle.doc_index_tables.specs.Maps.{PairMap, pair_cmp}
use Rattle.doc_index_tables.proofs.PairSteps.{pair_is, pairs_exact, pairs_total}
use Rattle.doc_links_names.specs.Names.{Keeps, KeepsOthers, NameTable}
use Rattle.doc_links_names.specs.PageNumbers.{IsNumbered}
use Rattle.doc_links_names.specs.declared.page_numbers.PageNumbers.{PageNumbers}
use Rattle.doc_links_names.proofs.Laws.{numbered_kept, numbered_kept_others}
use Rattle.doc_links_pages.specs.declared.page_links.PageLinks.{PageLinks}
use Rattle.doc_links_seen.specs.Numbered.{AreNumbered, numbers_at}

abbrev Slots : Type 0
Slots = List (Option (Held PageLinks))

abbrev Numbers : Type 0
Numbers = List (Option PageNumbers)

module _ (slots : Slots) (names : NameTable) (numbers : Numbers) (are : AreNumbered slots names numbers) where
  -- numbers of one slot go
  pub cleared : (after : Numbers) (slot : ℕ) → numbers_at after slot ≡ None
      → ((i : ℕ) → i ≢ slot → numbers_at after i ≡ numbers_at numbers i) → AreNumbered slots names after
  cleared after slot gone others i own at = by (i == slot) refl
    where
      by : (b : Bool) → (i == slot) ≡ b
          → (page : Held PageLinks) × (slot_at slots i ≡ Some page) × IsNumbered names i page.path page.value own
      by true same = absurd (none-some own (sym gone ∙ ap (numbers_at after) (sym (eqb-true i slot same)) ∙ at))
      by false apart = are i own (sym (others i (eqb-false i slot apart)) ∙ at)

  pub as_they_were : (after : Numbers) → ((i : ℕ) → numbers_at after i ≡ numbers_at numbers i) → AreNumbered slots names after
  as_they_were after same i own at = are i own (sym (same i) ∙ at)

  -- the names change
  pub kept : (after : NameTable) → Keeps names after → AreNumbered slots after numbers
  kept after keeps i own at =
      let here = are i own at in
      (here.0, here.1, numbered_kept names after i here.0.path here.0.value own keeps here.2)

  pub kept_others : (after : NameTable) (slot : ℕ) → numbers_at numbers slot ≡ None → KeepsOthers slot names after
      → AreNumbered slots after numbers
  kept_others after slot gone keeps i own at =
      let here = are i own at in (
        here.0,
        here.1,
        numbered_kept_others names after i slot here.0.path here.0.value own
            (λ same. none-some own (sym gone ∙ ap (numbers_at numbers) (sym same) ∙ at)) keeps here.2,
      )

  -- the page of a slot has its numbers
  pub entered : (slot : ℕ) (page : Held PageLinks) (own : PageNumbers) → slot < length numbers → slot_at slots slot ≡ Some page
      → IsNumbered names slot page.path page.value own → AreNumbered slots names (set numbers slot (Some own))
  entered slot page own within there is i it at = by (i == slot) refl
    where
      by : (b : Bool) → (i == slot) ≡ b
          → (page : Held PageLinks) × (slot_at slots i ≡ Some page) × IsNumbered names i page.path page.value it
      by true same =
          let here : i ≡ slot = eqb-true i slot same in
          let own_is : own ≡ it =
          same_Some own it (sym (get_or-set_same numbers slot (Some own) None within) ∙ ap (numbers_at (set numbers slot (Some own))) (sym here)
          ∙ at) in (
            page,
            ap (slot_at slots) here ∙ there,
            subst (λ n. IsNumbered names n page.path page.value it) (sym here) (subst (IsNumbered names slot page.path page.value) own_is is),
          )
      by false apart = are i it (sym (get_or-set_other numbers slot i (Some own) None (eqb-false i slot apart)) ∙ at)

  -- more pages are held
  pub more_held : (more : Slots) → ((i : ℕ) (page : Held PageLinks) → slot_at slots i ≡ Some page → slot_at more i ≡ Some page)
      → AreNumbered more names numbers
  more_held more stay i own at = let here = are i own at in (here.0, stay i here.0 here.1, here.2)

  -- a page without numbers goes
  pub fewer_held : (fewer : Slots) (path : List ℕ) (stamp : ℕ) → AreApart slots
      → held fewer ≡ map.remove (held slots) (path, stamp)
      → ((i : ℕ) (page : Held PageLinks) → slot_at fewer i ≡ Some page → slot_at slots i ≡ Some page)
      → ((i : ℕ) (page : Held PageLinks) → slot_at slots i ≡ Some page → page.path ≡ path → page.stamp ≡ stamp
      → numbers_at numbers i ≡ None)
      → AreNumbered fewer names numbers
  fewer_held fewer path stamp apart rest before gone i own at =
      let here = are i own at in
      (here.0, stays here.0 here.1 (stands_or_lacks fewer (pair_of here.0)), here.2)
    where
      other_key : (page : Held PageLinks) → slot_at slots i ≡ Some page → eq_by_cmp pair_cmp (pair_of page) (path, stamp) ≡ false
      other_key page there = by (eq_by_cmp pair_cmp (pair_of page) (path, stamp)) refl
        where
          by : (b : Bool) → eq_by_cmp pair_cmp (pair_of page) (path, stamp) ≡ b → b ≡ false
          by true same =
              let pair = pair_is (pair_of page) (path, stamp) same in
              absurd (none-some own (sym (gone i page there (ap (λ p. p.0) pair) (ap (λ p. p.1) pair)) ∙ at))
          by false other = refl

      still : (page : Held PageLinks) → slot_at slots i ≡ Some page → map.get (held fewer) (pair_of page) ≡ Some (known page)
      still page there =
          ap (λ m. map.get m (pair_of page)) rest
          ∙ map.get-remove pairs_total (held slots) (path, stamp) (pair_of page)
          ∙ ap (λ b. cond b None (map.get (held slots) (pair_of page))) (other_key page there)
          ∙ held_one slots apart i page there

      stays : (page : Held PageLinks) → slot_at slots i ≡ Some page → Stands fewer (pair_of page) ⊎ Lacks fewer (pair_of page)
          → slot_at fewer i ≡ Some page
      stays page there (inr none) = absurd (none-some (known page) (sym (none_held fewer (pair_of page) none) ∙ still page there))
      stays page there (inl stands) =
          let j = stands.0 in
          let other = stands.1 in
          let was : slot_at slots j ≡ Some other = before j other stands.2 in
          let same : j ≡ i = apart j i other page was there (ap (λ p. p.0) stands.3) (ap (λ p. p.1) stands.3) in
          let page_is : other ≡ page = same_Some other page (sym was ∙ ap (slot_at slots) same ∙ there) in
          ap (slot_at fewer) (sym same) ∙ stands.2 ∙ ap Some page_is

-- a page goes that came
pub removed_again : {X : Type 0} (held mid after : PairMap X) (k : List ℕ × ℕ) (x : X) → map.get held k ≡ None
    → mid ≡ map.insert held k x → after ≡ map.remove mid k → after ≡ held
removed_again held mid after k x free added removed =
    removed ∙ ap (λ m. map.remove m k) added
    ∙ map.same_map pairs_total pairs_exact (map.remove (map.insert held k x) k) held (λ q.
    map.get-remove pairs_total (map.insert held k x) k q
    ∙ ap (cond (eq_by_cmp pair_cmp q k) None) (map.get-insert pairs_total held k x q)
    ∙ by q (eq_by_cmp pair_cmp q k) refl)
  where
    by : (q : List ℕ × ℕ) (b : Bool) → eq_by_cmp pair_cmp q k ≡ b → cond b None (cond b (Some x) (map.get held q)) ≡ map.get held q
    by q true same = sym (ap (map.get held) (pair_is q k same) ∙ free)
    by q false other = refl

module _ (slots : Slots) (apart : AreApart slots) (numbers : Numbers) (path : List ℕ) (stamp : ℕ) where
  -- no page is held under a path and a stamp
  pub none_there : false ≡ map.contains_key (held slots) (path, stamp) → (i : ℕ) (page : Held PageLinks)
      → slot_at slots i ≡ Some page → page.path ≡ path → page.stamp ≡ stamp → numbers_at numbers i ≡ None
  none_there none i page at path_is stamp_is =
      absurd (differ (none ∙ ap is_some (held_as slots apart (path, stamp) i page at (λ j. (path_is j, stamp_is j)))))
    where
      differ : false ≡ true → ⊥
      differ e = cc

  -- the slot of a page is its only one
  pub one_there : (slot : ℕ) (there : Held PageLinks) → slot_at slots slot ≡ Some there → there.path ≡ path → there.stamp ≡ stamp
      → numbers_at numbers slot ≡ None → (i : ℕ) (page : Held PageLinks)
      → slot_at slots i ≡ Some page → page.path ≡ path → page.stamp ≡ stamp → numbers_at numbers i ≡ None
  one_there slot there at path_is stamp_is none i page also its_path its_stamp =
      ap (numbers_at numbers) (apart i slot page there also at (its_path ∙ sym path_is) (its_stamp ∙ sym stamp_is)) ∙ none

-- room for one more
pub room_made : (before numbers : Numbers) → ((i : ℕ) → numbers_at numbers i ≡ numbers_at before i) → (i : ℕ)
    → numbers_at (numbers ++ None ∷ []) i ≡ numbers_at before i
room_made before numbers same i = more numbers i ∙ same i
  where
    more : (numbers : Numbers) (i : ℕ) → numbers_at (numbers ++ None ∷ []) i ≡ numbers_at numbers i
    more [] zero = refl
    more [] (suc i) = refl
    more (x ∷ numbers) zero = refl
    more (x ∷ numbers) (suc i) = more numbers i
