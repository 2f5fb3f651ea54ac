-- Which pages anchors lead to, as the numbers of slots change.
use Rattle.std.proofs.Common.{◌≡◌, ◌≢◌, ◌+◌, ◌<◌, ◌==◌, ℕ, Bool, true, false, List, length, set, arith, refl, sym, subst, ◌∙◌}
use Rattle.std.specs.Prelude.{Option, Some, None, slice_index_or}
use Rattle.std.specs.FinMap as map
use Rattle.std.proofs.lemmas.Bool.{eqb-false, eqb-true}
use Rattle.std.proofs.lemmas.List.{get_or-set_other, get_or-set_same}
use Rattle.std.proofs.lemmas.Option.{none-some, same_Some}
use Rattle.doc_links_names.specs.declared.page_numbers.PageNumbers.{PageNumbers}
use Rattle.doc_links_seen.specs.Numbered.{AreNamed, numbers_at}

abbrev Numbers : Type 0
Numbers = List (Option PageNumbers)

-- no anchor leads to a slot without numbers
pub none_leads : (numbers : Numbers) (named : List ℕ) (slot : ℕ) → numbers_at numbers slot ≡ None → AreNamed numbers named
    → (n : ℕ) → slice_index_or named n 0 ≢ slot + 1
none_leads numbers named slot none are n e =
    let here = are n slot (omega (arith, e)) in none-some here.0 (sym none ∙ here.1)

-- nor to one whose page has let its anchors go
pub none_left : (numbers : Numbers) (named : List ℕ) (slot : ℕ) (own : PageNumbers) → numbers_at numbers slot ≡ Some own
    → AreNamed numbers named → ((n : ℕ) → map.contains_key own.anchors n ≡ true → slice_index_or named n 0 ≢ slot + 1)
    → (n : ℕ) → slice_index_or named n 0 ≢ slot + 1
none_left numbers named slot own at are gone n e =
    let here = are n slot (omega (arith, e)) in
    gone n (subst (λ (page : PageNumbers). map.contains_key page.anchors n ≡ true) (same_Some here.0 own (sym here.1 ∙ at)) here.2) e

-- where other slots have the numbers that they had
pub others_named : (numbers new : Numbers) (named : List ℕ) (slot : ℕ)
    → ((i : ℕ) → i ≢ slot → numbers_at new i ≡ numbers_at numbers i) → ((n : ℕ) → slice_index_or named n 0 ≢ slot + 1)
    → AreNamed numbers named → AreNamed new named
others_named numbers new named slot same none are n other e = by (other == slot) refl
  where
    by : (b : Bool) → (other == slot) ≡ b
        → (own : PageNumbers) × (numbers_at new other ≡ Some own) × (map.contains_key own.anchors n ≡ true)
    by true here =
        let is : other ≡ slot = eqb-true other slot here in
        absurd (none n (omega (arith, e, is)))
    by false apart =
        let there = are n other e in
        (there.0, same other (eqb-false other slot apart) ∙ there.1, there.2)

-- where all have
pub same_named : (numbers new : Numbers) (named : List ℕ) → ((i : ℕ) → numbers_at new i ≡ numbers_at numbers i)
    → AreNamed numbers named → AreNamed new named
same_named numbers new named same are n slot e =
    let there = are n slot e in (there.0, same slot ∙ there.1, there.2)

-- the numbers of one slot are others
pub set_others : (numbers : Numbers) (slot : ℕ) (page : Option PageNumbers) (i : ℕ) → i ≢ slot
    → numbers_at (set numbers slot page) i ≡ numbers_at numbers i
set_others numbers slot page i apart = get_or-set_other numbers slot i page None apart

pub set_here : (numbers : Numbers) (slot : ℕ) (page : Option PageNumbers) → slot < length numbers
    → numbers_at (set numbers slot page) slot ≡ page
set_here numbers slot page within = get_or-set_same numbers slot page None within

-- numbers that are seen as a slice are the same
pub of_slice : (numbers its : Numbers) (named : List ℕ) → its ≡ numbers → AreNamed numbers named → AreNamed its named
of_slice numbers its named is are = subst (λ ns. AreNamed ns named) (sym is) are

pub to_slice : (numbers its : Numbers) (named : List ℕ) → its ≡ numbers → AreNamed its named → AreNamed numbers named
to_slice numbers its named is are = subst (λ ns. AreNamed ns named) is are

-- what is left where a slot lets its numbers go
pub forgotten : (numbers its after : Numbers) (old new : List ℕ) (slot : ℕ) → its ≡ numbers
    → (AreNamed its old → AreNamed its new) → (AreNamed its old → (n : ℕ) → slice_index_or new n 0 ≢ slot + 1)
    → ((i : ℕ) → i ≢ slot → numbers_at after i ≡ numbers_at numbers i) → AreNamed numbers old → AreNamed after new
forgotten numbers its after old new slot is kept gone others are =
    let were = of_slice numbers its old is are in
    others_named numbers after new slot others (gone were) (to_slice numbers its new is (kept were))
