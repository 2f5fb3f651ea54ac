-- Links that are whole by their numbers.
use Rattle.std.proofs.Common.{◌≡◌, ◌<◌, ℕ, zero, suc, List, [], ◌∷◌, ◌++◌, Bool, true, false, cond, ◌+◌, ◌==◌, is_eq, length, set, refl, ap, arith, inl, inr, sym, subst, ◌∙◌}
use Rattle.std.specs.Prelude.{Option, Some, None, bytes_eq, option_and_then, slice_get, slice_index_or}
use Rattle.std.specs.FinMap as map
use Rattle.std.specs.List.{AllByRecursion, AllZip, Contains, list_any}
use Rattle.std.specs.Ordering.{eq_by_cmp, nat_cmp}
use Rattle.std.proofs.lemmas.List.{append_assoc}
use Rattle.std.proofs.lemmas.Cmp.{nat_cmp_total}
use Rattle.std.specs.Prelude.{map as mapped, ◌||◌}
use Rattle.doc_index_tables.specs.Maps.{NumberMap}
use Rattle.std.specs.declared.cmp.Ordering.TheVariants.{Less}
use Rattle.std.specs.List.Sorted.{IsStrictlySortedBy}
use Rattle.std.specs.Map.{keys_of}
use Rattle.std.proofs.lemmas.Bool.{eqb-false, eqb-true}
use Rattle.std.proofs.lemmas.List.{get_or-set_other, get_or-set_same}
use Rattle.std.proofs.lemmas.Option.{none-some, same_Some}
use Rattle.std.proofs.lemmas.Cmp.{nat_list_cmp_total, tied_itself}
use Rattle.std.proofs.lemmas.Map.Text.{is_eq-slice_cmp}
use Rattle.doc_index.specs.Held.{slot_at}
use Rattle.doc_index.specs.declared.held.Held.{Held}
use Rattle.doc_links_names.specs.Names.{AreApart, NameTable, number_of}
use Rattle.doc_links_names.specs.PageNumbers.{IsAnchorPart, IsLinkNumber, IsNumbered}
use Rattle.doc_links_names.specs.declared.page_numbers.PageNumbers.{PageNumbers}
use Rattle.doc_links_pages.specs.Links.{fault_in, fault_of, has_anchor, page_among, page_at}
use Rattle.doc_links_pages.specs.declared.answers.Reason.{Reason}
use Rattle.doc_links_pages.specs.declared.page_links.PageLinks.{PageLinks}
use Rattle.doc_links_seen.specs.Numbered.{AreAllWhole, AreNamed, AreNumbered, AreSeen, AreStands, has_anchor_part, is_whole, is_whole_at, numbers_at, pair_at, whole_of}
use Rattle.doc_links_seen.specs.SeenSteps.{IsInOrder, page_in, pages_at}
use Rattle.doc_links_seen.proofs.SearchSteps.{path_cmp}
use Rattle.doc_page_parts.proofs.Texts.{bytes_eq_true}
use Rattle.doc_page_parts.specs.Sights.{leads_to_itself}
use Rattle.doc_resolve.specs.declared.link_kind.LinkKind.{LinkKind}
use Rattle.doc_resolve.specs.declared.link_kind.LinkKind.TheVariants.{External, Page, Nowhere}

differ : false ≡ true → ⊥
differ e = cc

no_fault : (b : Bool) (fault : Option (Reason × List ℕ)) → b ≡ true → cond b None fault ≡ None
no_fault b fault is = ap (λ c. cond c None fault) is

-- one page more stands
pub stood : (some : List ℕ) (numbers : List (Option PageNumbers)) (stands : List ℕ) (slot number stand : ℕ) (own : PageNumbers)
    → numbers_at numbers slot ≡ Some own → stand ≡ slot + 1 → number ≡ own.own → number < length stands → Contains some slot
    → AreStands some numbers stands → AreStands some numbers (set stands number stand)
stood some numbers stands slot number stand own at next is within has are n other e = by (n == number) refl
  where
    by : (b : Bool) → (n == number) ≡ b
        → Contains some other × (it : PageNumbers) × (numbers_at numbers other ≡ Some it) × (it.own ≡ n)
    by true same =
        let here : n ≡ number = eqb-true n number same in
        let stands_here : stand ≡ suc other =
        sym (get_or-set_same stands number stand 0 within) ∙ ap (λ k. slice_index_or (set stands number stand) k 0) (sym here) ∙ e in
        let slot_is : slot ≡ other = omega (arith, stands_here, next) in
        (subst (Contains some) slot_is has, own, ap (numbers_at numbers) (sym slot_is) ∙ at, sym (here ∙ is))
    by false apart =
        are n other (sym (get_or-set_other stands number n stand 0 (eqb-false n number apart)) ∙ e)

-- an anchor of the page in a slot leads to it
pub named : (numbers : List (Option PageNumbers)) (found : List ℕ) (slot number stand : ℕ) (own : PageNumbers)
    → numbers_at numbers slot ≡ Some own → stand ≡ slot + 1 → map.contains_key own.anchors number ≡ true → number < length found
    → AreNamed numbers found → AreNamed numbers (set found number stand)
named numbers found slot number stand own at next has within are n other e = by (n == number) refl
  where
    by : (b : Bool) → (n == number) ≡ b
        → (it : PageNumbers) × (numbers_at numbers other ≡ Some it) × (map.contains_key it.anchors n ≡ true)
    by true same =
        let here : n ≡ number = eqb-true n number same in
        let stands_here : stand ≡ suc other =
        sym (get_or-set_same found number stand 0 within) ∙ ap (λ k. slice_index_or (set found number stand) k 0) (sym here) ∙ e in
        let slot_is : slot ≡ other = omega (arith, stands_here, next) in
        (own, ap (numbers_at numbers) (sym slot_is) ∙ at, subst (λ k. map.contains_key own.anchors k ≡ true) (sym here) has)
    by false apart =
        are n other (sym (get_or-set_other found number n stand 0 (eqb-false n number apart)) ∙ e)

-- a page has an anchor that leads to it
pub named_whole : (numbers : List (Option PageNumbers)) (found : List ℕ) (stand anchor slot n : ℕ) → stand ≡ suc slot → anchor ≡ suc n
    → slice_index_or found n 0 ≡ stand → AreNamed numbers found → is_whole_at numbers stand anchor ≡ true
named_whole numbers found stand anchor slot n next part is are =
    let here = are n slot (is ∙ next) in
    subst (λ k. is_whole_at numbers k anchor ≡ true) (sym next)
    (subst (λ k. is_whole_at numbers (suc slot) k ≡ true) (sym part)
    (subst (λ o. has_anchor_part o (suc n) ≡ true) (sym here.1) here.2))

-- where a page stands and no anchor is asked for
pub asks_none : (numbers : List (Option PageNumbers)) (stand anchor slot : ℕ) → stand ≡ suc slot → anchor ≡ 0
    → is_whole_at numbers stand anchor ≡ true
asks_none numbers stand anchor slot next none =
    subst (λ k. is_whole_at numbers k anchor ≡ true) (sym next) (subst (λ k. is_whole_at numbers (suc slot) k ≡ true) (sym none) refl)

-- ---- the keys of a row stand in it

or_true : (b : Bool) → (b || true) ≡ true
or_true true = refl
or_true false = refl

itself : (k : ℕ) → eq_by_cmp nat_cmp k k ≡ true
itself k = ap is_eq (tied_itself nat_cmp_total k)

among_keys : (front es : List (ℕ × ℕ)) (e : ℕ × ℕ) → list_any (eq_by_cmp nat_cmp e.0) (mapped (λ x. x.0) (front ++ e ∷ es)) ≡ true
among_keys [] es e = ap (λ b. b || list_any (eq_by_cmp nat_cmp e.0) (mapped (λ x. x.0) es)) (itself e.0)
among_keys (x ∷ front) es e =
    ap (λ b. eq_by_cmp nat_cmp e.0 x.0 || b) (among_keys front es e) ∙ or_true (eq_by_cmp nat_cmp e.0 x.0)

abbrev pub AreIn : NumberMap ℕ → List (ℕ × ℕ) → Type 0
AreIn row es = AllByRecursion (λ e. map.contains_key row e.0 ≡ true) es

all_in : (row : NumberMap ℕ) (front es : List (ℕ × ℕ)) → map.entries row ≡ front ++ es → AreIn row es
all_in row front [] is = tt
all_in row front (e ∷ es) is = (
  map.contains_key-keys row e.0
      ∙ ap (λ xs. list_any (eq_by_cmp nat_cmp e.0) (mapped (λ x. x.0) xs)) is
      ∙ among_keys front es e,
  all_in row (front ++ e ∷ []) es (is ∙ sym (append_assoc front (e ∷ []) es)),
)

pub entries_in : (row : NumberMap ℕ) (es : List (ℕ × ℕ)) → es ≡ map.entries row → AreIn row es
entries_in row es is = all_in row [] es (sym is)

pub next_in : (row : NumberMap ℕ) (es more : List (ℕ × ℕ)) (e : ℕ × ℕ) → es ≡ e ∷ more → AreIn row es
    → (map.contains_key row e.0 ≡ true) × AreIn row more
next_in row es more e is all = subst (AreIn row) is all

-- ---- the page of a slot, among the pages of some

bytes_itself : (q : List ℕ) → bytes_eq q q ≡ true
bytes_itself q = sym (is_eq-slice_cmp q q) ∙ ap is_eq (tied_itself nat_list_cmp_total q)

before_other : (k q : List ℕ) → path_cmp k q ≡ Less → bytes_eq k q ≡ false
before_other k q less = sym (is_eq-slice_cmp k q) ∙ ap is_eq less

module _ (slots : List (Option (Held PageLinks))) (slot : ℕ) (page : Held PageLinks) (at : slot_at slots slot ≡ Some page) where
  -- what is before all pages of some slots is before that of one
  before_one : (k : List ℕ) (some : List ℕ) (i : ℕ) → i < length some → slice_index_or some i slot ≡ slot
      → AllByRecursion (λ y. path_cmp k y ≡ Less) (keys_of (pages_at slots some)) → path_cmp k page.path ≡ Less
  before_one k [] i within is before = absurd (omega (arith, within))
  before_one k (s ∷ some) zero within is before =
      first (slot_at slots s) (ap (slot_at slots) is ∙ at) before
    where
      first : (here : Option (Held PageLinks)) → here ≡ Some page
          → AllByRecursion (λ y. path_cmp k y ≡ Less) (keys_of (page_in here ++ pages_at slots some)) → path_cmp k page.path ≡ Less
      first None e all = absurd (none-some page e)
      first (Some other) e all = subst (λ (p : Held PageLinks). path_cmp k p.path ≡ Less) (same_Some other page e) all.0
  before_one k (s ∷ some) (suc i) within is before =
      rest (slot_at slots s) before (before_one k some i (omega (arith, within)) is)
    where
      rest : (here : Option (Held PageLinks)) → AllByRecursion (λ y. path_cmp k y ≡ Less) (keys_of (page_in here ++ pages_at slots some))
          → (AllByRecursion (λ y. path_cmp k y ≡ Less) (keys_of (pages_at slots some)) → path_cmp k page.path ≡ Less)
          → path_cmp k page.path ≡ Less
      rest None all later = later all
      rest (Some other) all later = later all.1

  found_at : (some : List ℕ) (i : ℕ) → i < length some → slice_index_or some i slot ≡ slot → IsInOrder (pages_at slots some)
      → page_at (pages_at slots some) page.path ≡ Some (page.path, page.value)
  unfolding IsStrictlySortedBy
  found_at [] i within is sorted = absurd (omega (arith, within))
  found_at (s ∷ some) zero within is sorted = first (slot_at slots s) (ap (slot_at slots) is ∙ at)
    where
      first : (here : Option (Held PageLinks)) → here ≡ Some page
          → page_at (page_in here ++ pages_at slots some) page.path ≡ Some (page.path, page.value)
      first None e = absurd (none-some page e)
      first (Some other) e =
          ap (λ (p : Held PageLinks). page_at ((p.path, p.value) ∷ pages_at slots some) page.path) (same_Some other page e)
          ∙ ap (λ b. cond b (Some (page.path, page.value)) (page_at (pages_at slots some) page.path)) (bytes_itself page.path)
  found_at (s ∷ some) (suc i) within is sorted =
      rest (slot_at slots s) sorted (found_at some i (omega (arith, within)) is)
    where
      rest : (here : Option (Held PageLinks)) → IsInOrder (page_in here ++ pages_at slots some)
          → (IsInOrder (pages_at slots some) → page_at (pages_at slots some) page.path ≡ Some (page.path, page.value))
          → page_at (page_in here ++ pages_at slots some) page.path ≡ Some (page.path, page.value)
      rest None order later = later order
      rest (Some other) order later =
          ap (λ b. cond b (Some (other.path, other.value)) (page_at (pages_at slots some) page.path))
          (before_other other.path page.path (before_one other.path some i (omega (arith, within)) is order.0))
          ∙ later order.1

  pub page_found : (some : List ℕ) → Contains some slot → IsInOrder (pages_at slots some)
      → page_at (pages_at slots some) page.path ≡ Some (page.path, page.value)
  page_found some has sorted = found_at some has.0 has.1 has.2 sorted

-- ---- what numbers tell

module _ (goals : List ℕ → Option (List ℕ)) (pages : List (List ℕ × PageLinks)) (seen : AreSeen goals pages) where
  leads : (goal : Option (List ℕ)) (path : List ℕ) → leads_to_itself goal path ≡ true → goal ≡ Some path
  leads None path is = absurd (differ is)
  leads (Some goal) path is = ap Some (bytes_eq_true goal path is)

  -- the path of a page that is seen leads to the page
  among : (path : List ℕ) (page : List ℕ × PageLinks) → page_at pages path ≡ Some page → page_among goals pages path ≡ Some page
  among path page is = ap (option_and_then (page_at pages)) (leads (goals path) path (seen path page is)) ∙ is

module _ (goals : List ℕ → Option (List ℕ)) (slots : List (Option (Held PageLinks))) (names : NameTable) (numbers : List (Option PageNumbers))
    (some stands : List ℕ) (apart : AreApart names) (numbered : AreNumbered slots names numbers)
    (order : IsInOrder (pages_at slots some)) (seen : AreSeen goals (pages_at slots some)) (are : AreStands some numbers stands) where
  abbrev pages : List (List ℕ × PageLinks)
  pages = pages_at slots some

  -- an anchor that is found by its number
  anchored : (slot other : ℕ) (page : Held PageLinks) (own : PageNumbers) (path : List ℕ) (anchor : Option (List ℕ)) (part : ℕ)
      → IsNumbered names other page.path page.value own → IsAnchorPart names slot anchor part → has_anchor_part (Some own) part ≡ true
      → fault_in path anchor (Some (page.path, page.value)) ≡ None
  anchored slot other page own path None part is told has = refl
  anchored slot other page own path (Some anchor) part is told has =
      let here = is.anchors told.0 (subst (λ n. has_anchor_part (Some own) n ≡ true) told.1 has) in
      let same : here.0 ≡ anchor = apart here.0 anchor told.0 here.3 told.2.1 in
      let there : has_anchor page.value.headings anchor ≡ true = subst (λ a. has_anchor page.value.headings a ≡ true) same here.1 in
      no_fault (has_anchor page.value.headings anchor) _ there

  -- a link to the page in a slot whose path has its number
  at_slot : (slot other n : ℕ) (path : List ℕ) (anchor : Option (List ℕ)) (part : ℕ) (own : PageNumbers)
      → Contains some other → numbers_at numbers other ≡ Some own → own.own ≡ n → number_of names path ≡ Some n
      → IsAnchorPart names slot anchor part → has_anchor_part (Some own) part ≡ true
      → fault_in path anchor (page_among goals pages path) ≡ None
  at_slot slot other n path anchor part own has at is number told there =
      let here = numbered other own at in
      let page = here.0 in
      let same : page.path ≡ path = apart page.path path n (here.2.own.1 ∙ ap Some is) number in
      let found : page_at pages path ≡ Some (page.path, page.value) =
      subst (λ p. page_at pages p ≡ Some (page.path, page.value)) same (page_found slots other page here.1 some has order) in
      ap (fault_in path anchor) (among goals pages seen path (page.path, page.value) found)
      ∙ anchored slot other page own path anchor part here.2 told there

  at_stand : (slot n : ℕ) (path : List ℕ) (anchor : Option (List ℕ)) (part stand : ℕ) → slice_index_or stands n 0 ≡ stand
      → number_of names path ≡ Some n → IsAnchorPart names slot anchor part → is_whole_at numbers stand part ≡ true
      → fault_in path anchor (page_among goals pages path) ≡ None
  at_stand slot n path anchor part zero is number told whole = absurd (differ whole)
  at_stand slot n path anchor zero (suc other) is number told whole =
      let here = are n other is in
      at_slot slot other n path anchor zero here.1 here.0 here.2 here.3 number told refl
  at_stand slot n path anchor (suc m) (suc other) is number told whole =
      let here = are n other is in
      at_slot slot other n path anchor (suc m) here.1 here.0 here.2 here.3 number told
      (subst (λ o. has_anchor_part o (suc m) ≡ true) here.2 whole)

  of_link : (slot : ℕ) (link : LinkKind) (pair : ℕ × ℕ) → IsLinkNumber names slot link pair
      → is_whole stands numbers pair.0 pair.1 ≡ true → fault_of goals pages link ≡ None
  of_link slot External pair is whole = refl
  of_link slot (Page path anchor) pair (inl none) whole =
      absurd (differ (subst (λ n. is_whole stands numbers n pair.1 ≡ true) none whole))
  of_link slot (Page path anchor) pair (inr told) whole =
      at_stand slot told.0 path anchor pair.1 (slice_index_or stands told.0 0) refl told.2.1 told.3
      (subst (λ n. is_whole stands numbers n pair.1 ≡ true) told.1 whole)
  of_link slot Nowhere pair none whole = absurd (differ (subst (λ n. is_whole stands numbers n pair.1 ≡ true) none whole))

  pair_of : (slot : ℕ) (links : List LinkKind) (pairs : List (ℕ × ℕ)) → AllZip (IsLinkNumber names slot) links pairs
      → (i : ℕ) (link : LinkKind) → slice_get links i ≡ Some link → IsLinkNumber names slot link (slice_index_or pairs i (0, 0))
  pair_of slot [] pairs all i link is = absurd (none-some link is)
  pair_of slot (x ∷ links) [] all i link is = absurd all
  pair_of slot (x ∷ links) (pair ∷ pairs) all zero link is =
      subst (λ l. IsLinkNumber names slot l pair) (same_Some x link is) all.0
  pair_of slot (x ∷ links) (pair ∷ pairs) all (suc i) link is = pair_of slot links pairs all.1 i link is

  -- the links of all pages that are whole by their numbers are so
  pub all_whole : AreAllWhole goals pages slots stands numbers
  all_whole slot page at i link is whole = by (numbers_at numbers slot) refl whole
    where
      by : (own : Option PageNumbers) → numbers_at numbers slot ≡ own → whole_of stands numbers own i ≡ true
          → fault_of goals pages link ≡ None
      by None e told = absurd (differ told)
      by (Some own) e told =
          let here = numbered slot own e in
          let same : here.0 ≡ page = same_Some here.0 page (sym here.1 ∙ at) in
          of_link slot link (pair_at (Some own) i)
          (pair_of slot page.value.links own.links
          (subst (λ (p : Held PageLinks). AllZip (IsLinkNumber names slot) p.value.links own.links) same here.2.links) i link is)
          told
