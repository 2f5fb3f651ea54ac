-- Names: numbers of texts, and what uses them.
use Rattle.std.specs.Prelude.{◌≡◌, ◌≢◌, ◌⊎◌, ◌==◌, ℕ, List, Option, Some, None, Bool, true, false, option_map, if◌then◌else◌}
use Rattle.std.specs.FinMap as map
use Rattle.doc_index_tables.specs.Maps.{TextMap}
use Rattle.doc_links_names.specs.declared.name.Name.{Name}

abbrev pub NameTable : Type 0
NameTable = TextMap Name

-- the number of a text, where it has one
abbrev pub number_of : NameTable → List ℕ → Option ℕ
number_of names text = option_map (λ name. name.number) (map.get names text)

abbrev pub uses_in : Option Name → ℕ → Bool
uses_in None slot = false
uses_in (Some name) slot = map.contains_key name.slots slot

-- a slot uses a text
abbrev pub uses : NameTable → List ℕ → ℕ → Bool
uses names text slot = uses_in (map.get names text) slot

-- no two texts have the same number
abbrev pub AreApart : NameTable → Type 0
AreApart names = (s t : List ℕ) (n : ℕ) → number_of names s ≡ Some n → number_of names t ≡ Some n → s ≡ t

-- a slot that used a text uses it, and it has the number that it had
abbrev pub KeepsUse : NameTable → NameTable → List ℕ → ℕ → Type 0
KeepsUse old new t s = uses old t s ≡ true → (uses new t s ≡ true) × (number_of new t ≡ number_of old t)

-- what slots use stays
abbrev pub Keeps : NameTable → NameTable → Type 0
Keeps old new = (t : List ℕ) (s : ℕ) → KeepsUse old new t s

-- what other slots use stays
abbrev pub KeepsOthers : ℕ → NameTable → NameTable → Type 0
KeepsOthers slot old new = (t : List ℕ) (s : ℕ) → s ≢ slot → KeepsUse old new t s

-- what slots use of other texts stays
abbrev pub KeepsOtherTexts : List ℕ → NameTable → NameTable → Type 0
KeepsOtherTexts text old new = (t : List ℕ) (s : ℕ) → t ≢ text → KeepsUse old new t s

-- nothing is used that wasn't
abbrev pub AddsNothing : NameTable → NameTable → Type 0
AddsNothing old new = (t : List ℕ) (s : ℕ) → uses new t s ≡ true → uses old t s ≡ true

-- what is used that wasn't are texts of a kind, which a slot uses
abbrev pub AddsOnly : (List ℕ → Bool) → ℕ → NameTable → NameTable → Type 0
AddsOnly texts slot old new =
    (t : List ℕ) (s : ℕ) → uses new t s ≡ true → (uses old t s ≡ true) ⊎ ((s ≡ slot) × (texts t ≡ true))

-- a name without a slot
abbrev pub without_slot : Name → ℕ → Name
without_slot name slot = record { number = name.number; slots = map.remove name.slots slot }

abbrev pub left_in : Option Name → NameTable → List ℕ → ℕ → NameTable
left_in None names text slot = names
left_in (Some name) names text slot =
    if map.len (map.remove name.slots slot) == 0 then map.remove names text else map.insert names text (without_slot name slot)

-- a slot doesn't use a text: a name that no slot uses goes
abbrev pub without_use : NameTable → List ℕ → ℕ → NameTable
without_use names text slot = left_in (map.get names text) names text slot
