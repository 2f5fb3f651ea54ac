-- Slots whose pages are flagged.
use Rattle.std.proofs.Common.{◌≡◌, ◌<◌, ◌+◌, ℕ, List, [], ◌∷◌, ◌++◌, Bool, true, false, cond, drop, get_or, is_some, length, refl, ap, sym, ◌∙◌}
use Rattle.std.specs.Prelude.{Option, Some, None, map as mapped}
use Rattle.std.specs.List.{filter}
use Rattle.std.proofs.lemmas.List.{append-nil, append_assoc, drop_more}
use Rattle.std.proofs.lemmas.List.Concat.{flat_map-append}
use Rattle.std.proofs.lemmas.List.Elements.{filter-append}
use Rattle.doc_index.specs.Held.{slot_at}
use Rattle.doc_index.specs.declared.held.Held.{Held}
use Rattle.doc_links_pages.specs.declared.page_links.PageLinks.{PageLinks}
use Rattle.doc_links_seen.specs.SeenSteps.{page_in, pages_at}

abbrev pub SeenBy : Type 0
SeenBy = List ℕ × PageLinks → Bool

-- a slot that has a page
page_there : (x : Option (Held PageLinks)) → is_some x ≡ true → (page : Held PageLinks) × (x ≡ Some page)
page_there None is = absurd (differ is)
  where
    differ : false ≡ true → ⊥
    differ e = cc
page_there (Some page) is = (page, refl)

module _ (slots : List (Option (Held PageLinks))) where
  -- a slot more
  pub one_slot : (all : List ℕ) (slot : ℕ) → pages_at slots (all ++ slot ∷ []) ≡ pages_at slots all ++ page_in (slot_at slots slot)
  one_slot all slot =
      flat_map-append (λ n. page_in (slot_at slots n)) all (slot ∷ [])
      ∙ ap (λ ps. pages_at slots all ++ ps) (append-nil (page_in (slot_at slots slot)))

  module _ (sees : SeenBy) (slot : ℕ) (others : List (List ℕ × PageLinks)) (all : List ℕ) where
    -- the first flag is that of the slot's page
    first_flag : (flags rest : List Bool) (flag : Bool) (page : Held PageLinks) → slot_at slots slot ≡ Some page
        → flags ≡ flag ∷ rest → flags ≡ mapped sees (page_in (slot_at slots slot) ++ others)
        → (flag ≡ sees (page.path, page.value)) × (rest ≡ mapped sees others)
    first_flag flags rest flag page at parted are =
        let both = sym parted ∙ are ∙ ap (λ p. mapped sees (page_in p ++ others)) at in (heads both, tails both)
      where
        heads : flag ∷ rest ≡ sees (page.path, page.value) ∷ mapped sees others → flag ≡ sees (page.path, page.value)
        heads e = cc

        tails : flag ∷ rest ≡ sees (page.path, page.value) ∷ mapped sees others → rest ≡ mapped sees others
        tails e = cc

    no_flag : {X : Type 0} (flags : List Bool) (page : Held PageLinks) → slot_at slots slot ≡ Some page → flags ≡ []
        → flags ≡ mapped sees (page_in (slot_at slots slot) ++ others) → X
    no_flag flags page at none are = absurd (differ (sym none ∙ are ∙ ap (λ p. mapped sees (page_in p ++ others)) at))
      where
        differ : [] ≡ sees (page.path, page.value) ∷ mapped sees others → ⊥
        differ e = cc

    -- the page is left out, or added
    left_out : (page : Held PageLinks) → slot_at slots slot ≡ Some page → false ≡ sees (page.path, page.value)
        → pages_at slots all ≡ pages_at slots all ++ filter sees (page_in (slot_at slots slot))
    left_out page at is =
        sym (ap (λ p. pages_at slots all ++ filter sees (page_in p)) at
        ∙ ap (λ b. pages_at slots all ++ cond b ((page.path, page.value) ∷ []) []) (sym is)
        ∙ append-nil (pages_at slots all))

    added : (after : List ℕ) (page : Held PageLinks) → slot_at slots slot ≡ Some page → true ≡ sees (page.path, page.value)
        → after ≡ all ++ slot ∷ [] → pages_at slots after ≡ pages_at slots all ++ filter sees (page_in (slot_at slots slot))
    added after page at is made =
        ap (pages_at slots) made ∙ one_slot all slot
        ∙ ap (λ p. pages_at slots all ++ page_in p) at
        ∙ sym (ap (λ p. pages_at slots all ++ filter sees (page_in p)) at
        ∙ ap (λ b. pages_at slots all ++ cond b ((page.path, page.value) ∷ []) []) (sym is))

    -- there is a flag for the page, and it is left out or added
    pub lacks_flag : {X : Type 0} (flags : List Bool) → is_some (slot_at slots slot) ≡ true → flags ≡ []
        → flags ≡ mapped sees (page_in (slot_at slots slot) ++ others) → X
    lacks_flag flags there none are = let page = page_there (slot_at slots slot) there in no_flag flags page.0 page.1 none are

    pub passed_over : (flags rest : List Bool) (flag : Bool) → is_some (slot_at slots slot) ≡ true → flags ≡ flag ∷ rest → flag ≡ false
        → flags ≡ mapped sees (page_in (slot_at slots slot) ++ others)
        → (rest ≡ mapped sees others) × (pages_at slots all ≡ pages_at slots all ++ filter sees (page_in (slot_at slots slot)))
    passed_over flags rest flag there parted off are =
        let page = page_there (slot_at slots slot) there in
        let both = first_flag flags rest flag page.0 page.1 parted are in (both.1, left_out page.0 page.1 (sym off ∙ both.0))

    pub taken : (flags rest : List Bool) (flag : Bool) (after : List ℕ) → is_some (slot_at slots slot) ≡ true → flags ≡ flag ∷ rest
        → flag ≡ true → after ≡ all ++ slot ∷ [] → flags ≡ mapped sees (page_in (slot_at slots slot) ++ others)
        → (rest ≡ mapped sees others) × (pages_at slots after ≡ pages_at slots all ++ filter sees (page_in (slot_at slots slot)))
    taken flags rest flag after there parted on made are =
        let page = page_there (slot_at slots slot) there in
        let both = first_flag flags rest flag page.0 page.1 parted are in (both.1, added after page.0 page.1 (sym on ∙ both.0) made)

  -- what is flagged so far, and what is left of slots and flags
  abbrev pub IsFlagged : List Bool → List ℕ → List ℕ → List Bool → List ℕ → Type 0
  IsFlagged flags numbers left rest all =
      (sees : SeenBy) → flags ≡ mapped sees (pages_at slots numbers)
      → (rest ≡ mapped sees (pages_at slots left))
      × (pages_at slots all ++ filter sees (pages_at slots left) ≡ filter sees (pages_at slots numbers))

  pub flagged_next : (flags rest after : List Bool) (numbers all more : List ℕ) (i slot : ℕ) → i < length numbers
      → slot ≡ get_or numbers i slot → IsFlagged flags numbers (drop i numbers) rest all
      → ((sees : SeenBy) (others : List (List ℕ × PageLinks)) → rest ≡ mapped sees (page_in (slot_at slots slot) ++ others)
      → (after ≡ mapped sees others) × (pages_at slots more ≡ pages_at slots all ++ filter sees (page_in (slot_at slots slot))))
      → IsFlagged flags numbers (drop (i + 1) numbers) after more
  flagged_next flags rest after numbers all more i slot within is before step sees are =
      let front : drop i numbers ≡ slot ∷ drop (i + 1) numbers = drop_more numbers i slot within ∙ ap (λ n. n ∷ drop (i + 1) numbers) (sym is) in
      let so_far = before sees are in
      let others = pages_at slots (drop (i + 1) numbers) in
      let next = step sees others (so_far.0 ∙ ap (λ ns. mapped sees (pages_at slots ns)) front) in (
        next.0,
        ap (λ ps. ps ++ filter sees others) next.1
            ∙ append_assoc (pages_at slots all) (filter sees (page_in (slot_at slots slot))) (filter sees others)
            ∙ ap (λ ps. pages_at slots all ++ ps) (sym (filter-append sees (page_in (slot_at slots slot)) others))
            ∙ sym (ap (λ ns. pages_at slots all ++ filter sees (pages_at slots ns)) front)
            ∙ so_far.1,
      )
