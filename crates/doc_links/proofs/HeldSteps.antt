-- What an index of links holds, by what its pages hold.
use Rattle.std.proofs.Common.{◌≡◌, ℕ, List, [], ◌∷◌, ◌++◌, Bool, true, false, cond, is_some, refl, ap, ap₂, sym, ◌∙◌}
use Rattle.std.specs.Prelude.{Option, Some, None, option_map, map as mapped, Result, Ok, Err, IfOk, OnErr, OnOk}
use Rattle.std.specs.FinMap as map
use Rattle.std.specs.List.{flat_map}
use Rattle.doc_index.specs.Held.{Known, entries_of, held, known_as, slot_at}
use Rattle.doc_index_tables.specs.Maps.{PairMap, TextMap}
use Rattle.doc_index.specs.declared.held.Held.{Held}
use Rattle.doc_index_tables.proofs.PairSteps.{pairs_exact, pairs_total}
use Rattle.doc_index_tables.proofs.TableSteps.{on_ok}
use Rattle.doc_page_parts.specs.Sights.{leads_to_itself, seen}
use Rattle.doc_links_seen.specs.SeenSteps.{page_in, pages_at}
use Rattle.doc_links.specs.IndexSteps.{with_values, without_counts}
use Rattle.doc_links_pages.specs.PageLinks.{pages_of}
use Rattle.doc_links_pages.specs.declared.page_links.PageLinks.{PageLinks}
use Rattle.doc_links.proofs.MapSteps.{empty_with, entries_with, get_with, insert_with, remove_with}

abbrev value_of : Known PageLinks → PageLinks
value_of page = page.value

-- what is told of an answer, if there is one
pub told : {X E : Type 0} {P Q : X → Type 0} (r : Result X E) → ((x : X) → P x → Q x) → IfOk r P → IfOk r Q
told (Ok x) f h = f x h
told (Err e) f h = tt

module _ (slots : List (Option (Held PageLinks))) where
  pub got : (k : List ℕ × ℕ) → map.get (without_counts slots) k ≡ option_map value_of (map.get (held slots) k)
  got k = get_with pairs_total pairs_exact value_of (held slots) k

  pub has_key : (k : List ℕ × ℕ) → map.contains_key (held slots) k ≡ map.contains_key (without_counts slots) k
  has_key k = by (map.get (held slots) k) ∙ ap is_some (sym (got k))
    where
      by : (x : Option (Known PageLinks)) → is_some x ≡ is_some (option_map value_of x)
      by None = refl
      by (Some x) = refl

  -- a path and a stamp that none has here, none has
  pub free : (k : List ℕ × ℕ) → map.get (without_counts slots) k ≡ None → map.get (held slots) k ≡ None
  free k none = by (map.get (held slots) k) (sym (got k) ∙ none)
    where
      by : (x : Option (Known PageLinks)) → option_map value_of x ≡ None → x ≡ None
      by None e = refl
      by (Some x) e = cc

  pub removed : (new : List (Option (Held PageLinks))) (k : List ℕ × ℕ) → held new ≡ map.remove (held slots) k
      → without_counts new ≡ map.remove (without_counts slots) k
  removed new k is = ap (with_values value_of) is ∙ remove_with pairs_total pairs_exact value_of (held slots) k

  pub added : {E : Type 0} {page other : PageLinks} {old : PairMap PageLinks} (counts : TextMap ℕ) (new : List (Option (Held PageLinks)))
      (k : List ℕ × ℕ) (r : Result (Unit {0}) E) → without_counts slots ≡ old → page ≡ other
      → OnOk r (held new ≡ map.insert (held slots) k (known_as page counts)) → OnOk r (without_counts new ≡ map.insert old k other)
  added {page = page} counts new k r before same is =
      on_ok r (λ e.
      ap (with_values value_of) e ∙ insert_with pairs_total pairs_exact value_of (held slots) k (known_as page counts)
      ∙ ap₂ (λ m p. map.insert m k p) before same) is

-- what a refusal leaves
pub same_held : {E : Type 0} (slots new : List (Option (Held PageLinks))) {old : PairMap PageLinks} (r : Result (Unit {0}) E)
    → without_counts slots ≡ old → OnErr r (held new ≡ held slots) → OnErr r (without_counts new ≡ old)
same_held slots new (Ok x) before is = tt
same_held slots new (Err e) before is = ap (with_values value_of) is ∙ before

pub nothing : without_counts [] ≡ map.empty
nothing = empty_with pairs_total pairs_exact value_of

abbrev pub entry_at : (List ℕ × ℕ) × Known PageLinks → List ℕ × PageLinks
entry_at e = (e.0.0, e.1.value)

twice : (es : List ((List ℕ × ℕ) × Known PageLinks))
    → mapped (λ (e : (List ℕ × ℕ) × PageLinks). (e.0.0, e.1)) (mapped (λ (e : (List ℕ × ℕ) × Known PageLinks). (e.0, value_of e.1)) es)
    ≡ mapped entry_at es
twice [] = refl
twice (e ∷ es) = ap (λ xs. entry_at e ∷ xs) (twice es)

-- the pages by their entries
pub pages_are : (slots : List (Option (Held PageLinks))) → pages_of (without_counts slots) ≡ mapped entry_at (map.entries (held slots))
pages_are slots =
    ap (mapped (λ (e : (List ℕ × ℕ) × PageLinks). (e.0.0, e.1))) (entries_with pairs_total pairs_exact value_of (held slots))
    ∙ twice (map.entries (held slots))

-- the seen pages of slots, one slot after another
module _ (goals : List ℕ → Option (List ℕ)) (at : ℕ → Option (Held PageLinks)) where
  pub seen_by_slots : (slots : List ℕ)
      → flat_map (λ slot. seen goals (page_in (at slot))) slots ≡ seen goals (mapped entry_at (entries_of (mapped at slots)))
  seen_by_slots [] = refl
  seen_by_slots (slot ∷ slots) = by (at slot) (seen_by_slots slots)
    where
      by : (page : Option (Held PageLinks)) {xs : List (List ℕ × PageLinks)}
          → xs ≡ seen goals (mapped entry_at (entries_of (mapped at slots)))
          → seen goals (page_in page) ++ xs ≡ seen goals (mapped entry_at (entries_of (page ∷ mapped at slots)))
      by None e = e
      by (Some page) e = sees (leads_to_itself (goals page.path) page.path) e
        where
          sees : (b : Bool) {xs ys : List (List ℕ × PageLinks)} → xs ≡ ys
              → cond b ((page.path, page.value) ∷ []) [] ++ xs ≡ cond b ((page.path, page.value) ∷ ys) ys
          sees true e = ap (λ ys. (page.path, page.value) ∷ ys) e
          sees false e = e

-- the pages of all slots, in the order of what is held, that are seen
pub seen_of_slots : (goals : List ℕ → Option (List ℕ)) (slots : List (Option (Held PageLinks))) (order given : List ℕ) → given ≡ order
    → entries_of (mapped (slot_at slots) order) ≡ map.entries (held slots)
    → flat_map (λ slot. seen goals (page_in (slot_at slots slot))) given ≡ seen goals (pages_of (without_counts slots))
seen_of_slots goals slots order given same is =
    seen_by_slots goals (slot_at slots) given
    ∙ ap (λ ns. seen goals (mapped entry_at (entries_of (mapped (slot_at slots) ns)))) same
    ∙ ap (λ es. seen goals (mapped entry_at es)) is
    ∙ ap (seen goals) (sym (pages_are slots))

-- the pages of slots, one slot after another
pages_by_slots : (slots : List (Option (Held PageLinks))) (numbers : List ℕ)
    → pages_at slots numbers ≡ mapped entry_at (entries_of (mapped (slot_at slots) numbers))
pages_by_slots slots [] = refl
pages_by_slots slots (n ∷ numbers) = by (slot_at slots n) (pages_by_slots slots numbers)
  where
    by : (page : Option (Held PageLinks)) {xs : List (List ℕ × PageLinks)}
        → xs ≡ mapped entry_at (entries_of (mapped (slot_at slots) numbers))
        → page_in page ++ xs ≡ mapped entry_at (entries_of (page ∷ mapped (slot_at slots) numbers))
    by None e = e
    by (Some page) e = ap (λ ys. (page.path, page.value) ∷ ys) e

-- the pages of all slots, in the order of what is held
pub all_of_slots : (slots : List (Option (Held PageLinks))) (order given : List ℕ) → given ≡ order
    → entries_of (mapped (slot_at slots) order) ≡ map.entries (held slots)
    → pages_at slots given ≡ pages_of (without_counts slots)
all_of_slots slots order given same is =
    ap (pages_at slots) same ∙ pages_by_slots slots order ∙ ap (mapped entry_at) is ∙ sym (pages_are slots)
