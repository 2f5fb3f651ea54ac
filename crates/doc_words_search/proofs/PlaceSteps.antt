-- The counts of a row, each at its place in a list.
use Rattle.std.proofs.Common.{◌≡◌, ◌≢◌, ℕ, ◌+◌, ◌<◌, ◌≤◌, List, [], ◌∷◌, cond, get_or, length, length-set, set, arith}
use Rattle.std.proofs.Common.{refl, ap, sym, subst, ◌∙◌, inl, inr}
use Rattle.std.specs.Prelude.{Option, Some, None}
use Rattle.std.specs.FinMap as map
use Rattle.std.specs.FinMap.{nat_cmp-IsAntisymmetric}
use Rattle.std.specs.List.{AllByRecursion}
use Rattle.std.specs.Ordering.{is_eq, nat_cmp}
use Rattle.std.specs.declared.cmp.Ordering.{Ordering}
use Rattle.std.specs.declared.cmp.Ordering.TheVariants.{Less, Equal, Greater}
use Rattle.std.proofs.lemmas.Bool.{cases_lt}
use Rattle.std.proofs.lemmas.Cmp.{nat_cmp_total, tied_itself}
use Rattle.std.proofs.lemmas.List.{get_or-set_other, get_or-set_same}
use Rattle.doc_index.specs.declared.held.Held.{Held}
use Rattle.doc_index.specs.Held.{count_in, slot_at}
use Rattle.doc_index_tables.specs.Maps.{NumberMap}
use Rattle.doc_index_tables.proofs.EntrySteps.{each_found}
use Rattle.doc_page_parts.proofs.Maps.{is_sorted_keys}

abbrev first_of : Option ℕ → Option ℕ → Option ℕ
first_of None other = other
first_of (Some count) other = Some count

-- what is set of a row, by what is left of its entries
pub record SetBut (left : List (ℕ × ℕ)) (counts : List (Option ℕ)) (row : NumberMap ℕ) : Type 0 where
  pub of_row : AllByRecursion (λ e. map.find nat_cmp e.0 (map.entries row) ≡ Some e.1) left
  pub each : (i : ℕ) → i < length counts → first_of (get_or counts i None) (map.find nat_cmp i left) ≡ map.find nat_cmp i (map.entries row)

pub none_set : (row : NumberMap ℕ) (counts : List (Option ℕ)) → ((i : ℕ) → get_or counts i None ≡ None)
    → SetBut (map.entries row) counts row
none_set row counts none = record {
  of_row = each_found nat_cmp nat_cmp_total (map.entries row) (is_sorted_keys nat_cmp (map.entries row) (map.entries_sorted row));
  each = λ i low. ap (λ o. first_of o (map.find nat_cmp i (map.entries row))) (none i);
}

not_same : (i k : ℕ) (o : Ordering) → nat_cmp i k ≡ o → o ≢ Equal → i ≢ k
not_same i k o e off same = off (sym e ∙ ap (λ n. nat_cmp n k) same ∙ tied_itself nat_cmp_total k)

-- one entry more is set
one_set : (left : List (ℕ × ℕ)) (counts : List (Option ℕ)) (row : NumberMap ℕ) (k v : ℕ) → SetBut ((k, v) ∷ left) counts row
    → SetBut left (set counts k (Some v)) row
one_set left counts row k v is =
    let same : length (set counts k (Some v)) ≡ length counts = length-set counts k (Some v) in
    record {
      of_row = is.of_row.1;
      each = λ i low. by i (omega (arith, low, same)) (nat_cmp i k) refl (is.each i (omega (arith, low, same)));
    }
  where
    by : (i : ℕ) → i < length counts → (o : Ordering) → nat_cmp i k ≡ o
        → first_of (get_or counts i None) (cond (is_eq o) (Some v) (map.find nat_cmp i left)) ≡ map.find nat_cmp i (map.entries row)
        → first_of (get_or (set counts k (Some v)) i None) (map.find nat_cmp i left) ≡ map.find nat_cmp i (map.entries row)
    by i low Less e before =
        ap (λ o. first_of o (map.find nat_cmp i left))
        (get_or-set_other counts k i (Some v) None (not_same i k Less e (λ c. cc))) ∙ before
    by i low Equal e before =
        let at : i ≡ k = nat_cmp-IsAntisymmetric i k e in
        ap (λ o. first_of o (map.find nat_cmp i left))
        (ap (λ j. get_or (set counts k (Some v)) j None) at ∙ get_or-set_same counts k (Some v) None (omega (arith, low, at)))
        ∙ sym is.of_row.0 ∙ ap (λ j. map.find nat_cmp j (map.entries row)) (sym at)
    by i low Greater e before =
        ap (λ o. first_of o (map.find nat_cmp i left))
        (get_or-set_other counts k i (Some v) None (not_same i k Greater e (λ c. cc))) ∙ before

pub set_next : (left more : List (ℕ × ℕ)) (counts new : List (Option ℕ)) (row : NumberMap ℕ) (k v : ℕ) → left ≡ (k, v) ∷ more
    → new ≡ set counts k (Some v) → SetBut left counts row → SetBut more new row
set_next left more counts new row k v first next is =
    subst (λ cs. SetBut more cs row) (sym next) (one_set more counts row k v (subst (λ es. SetBut es counts row) first is))

-- all entries are set
pub all_set : (left : List (ℕ × ℕ)) (counts : List (Option ℕ)) (row : NumberMap ℕ) → left ≡ [] → SetBut left counts row
    → (i : ℕ) → i < length counts → get_or counts i None ≡ map.get row i
all_set left counts row none is i low =
    by (get_or counts i None) ∙ ap (λ es. first_of (get_or counts i None) (map.find nat_cmp i es)) (sym none) ∙ is.each i low
    ∙ sym (map.get-entries row i)
  where
    by : (o : Option ℕ) → o ≡ first_of o None
    by None = refl
    by (Some count) = refl

-- the counts of a word are those of its row, and no page is past the last slot
pub places_count : {T : Type 0} (slots : List (Option (Held T))) (word text : List ℕ) (counts : List (Option ℕ)) (row : ℕ → Option ℕ)
    (last bound : ℕ) → text ≡ word → bound ≡ last + 1 → ((i : ℕ) → last < i → slot_at slots i ≡ None)
    → ((i : ℕ) → row i ≡ count_in (slot_at slots i) text) → ((i : ℕ) → i < bound → get_or counts i None ≡ row i)
    → ((i : ℕ) → bound ≤ i → get_or counts i None ≡ None) → (i : ℕ) → get_or counts i None ≡ count_in (slot_at slots i) word
places_count slots word text counts row last bound same end none are each past i = elim (cases_lt i bound) [
  | inl low ↦ each i low ∙ are i ∙ ap (count_in (slot_at slots i)) same
  | inr high ↦ past i (omega (arith, high)) ∙ ap (λ o. count_in o word) (sym (none i (omega (arith, high, end))))
]
