-- The pages that are held, by path and stamp, and the numbers of their slots.
use Rattle.std.specs.Prelude.{◌≡◌, ℕ, List, [], ◌∷◌, Option, Some, None, slice_index_or, refl}
use Rattle.std.specs.Coded.{Coded, code_by, coded×, coded_list, coded_ℕ}
use Rattle.std.specs.FinMap as map
use Rattle.doc_index.specs.declared.held.Held.{Held}
use Rattle.doc_index_tables.specs.Maps.{PairMap, TextMap}

abbrev pub held_code : {T : Type 0} → Coded T → Coded (Held T)
held_code {T} code =
    code_by (List ℕ × (ℕ × (T × TextMap ℕ)))
    (coded× (coded_list coded_ℕ) (coded× coded_ℕ (coded× code (map.code (coded_list coded_ℕ) coded_ℕ))))
    (λ p. (p.path, (p.stamp, (p.value, p.counts))))
    (λ t. record { path = t.0; stamp = t.1.0; value = t.1.1.0; counts = t.1.1.1 }) (λ _. refl)

-- what is known of a page: its value, and the counts of its keys
pub record Known (T : Type 0) : Type 0 where
  pub value : T
  pub counts : TextMap ℕ

abbrev pub known_as : {T : Type 0} → T → TextMap ℕ → Known T
known_as value counts = record { value = value; counts = counts }

abbrev pub known : {T : Type 0} → Held T → Known T
known page = known_as page.value page.counts

-- the counts of what is known, none of nothing
abbrev pub counts_of : {T : Type 0} → Option (Known T) → TextMap ℕ
counts_of None = map.empty
counts_of (Some page) = page.counts

abbrev pub entries_of : {T : Type 0} → List (Option (Held T)) → List ((List ℕ × ℕ) × Known T)
entries_of [] = []
entries_of (None ∷ slots) = entries_of slots
entries_of (Some page ∷ slots) = ((page.path, page.stamp), known page) ∷ entries_of slots

-- what is known of each page that has a slot, by its path and its stamp
abbrev pub held : {T : Type 0} → List (Option (Held T)) → PairMap (Known T)
held slots = map.from_entries (entries_of slots)

-- the page in a slot
abbrev pub slot_at : {T : Type 0} → List (Option (Held T)) → ℕ → Option (Held T)
slot_at slots i = slice_index_or slots i None

-- the count of a key in a page
abbrev pub count_in : {T : Type 0} → Option (Held T) → List ℕ → Option ℕ
count_in None key = None
count_in (Some page) key = map.get page.counts key

-- no two slots have pages with the same path and stamp
abbrev pub AreApart : {T : Type 0} → List (Option (Held T)) → Type 0
AreApart {T} slots =
    (i j : ℕ) (page other : Held T) → slot_at slots i ≡ Some page → slot_at slots j ≡ Some other
    → page.path ≡ other.path → page.stamp ≡ other.stamp → i ≡ j
