-- How names change, and how their numbers are kept apart.
use Rattle.std.specs.Prelude.{◌≡◌, ℕ, List, Option, Some, None, IsSome, ◌==◌, if◌then◌else◌, refl}
use Rattle.std.specs.Coded.{Coded, code_by, coded×, coded_ℕ}
use Rattle.std.specs.FinMap as map
use Rattle.slab.specs.Slab.{Slab, get}
use Rattle.doc_index_tables.specs.Maps.{NumberMap}
use Rattle.doc_links_names.specs.declared.name.Name.{Name}
use Rattle.doc_links_names.specs.Names.{AreApart, NameTable, number_of}

abbrev pub name_code : Coded Name
name_code =
    code_by (ℕ × NumberMap ℕ) (coded× coded_ℕ (map.code coded_ℕ coded_ℕ))
    (λ n. (n.number, n.slots)) (λ p. record { number = p.0; slots = p.1 }) (λ _. refl)

-- a name that a slot uses besides
abbrev pub with_slot : Name → ℕ → Name
with_slot name slot = record { number = name.number; slots = map.insert name.slots slot 0 }

abbrev pub used_in : Option Name → NameTable → List ℕ → ℕ → NameTable
used_in None names text slot = names
used_in (Some name) names text slot = map.insert names text (with_slot name slot)

-- a slot uses a text that has a name
abbrev pub used_by : NameTable → List ℕ → ℕ → NameTable
used_by names text slot = used_in (map.get names text) names text slot

abbrev pub freed_in : Option Name → ℕ → Option ℕ
freed_in None slot = None
freed_in (Some name) slot = if map.len (map.remove name.slots slot) == 0 then Some name.number else None

-- the number of a text that no slot but this uses
abbrev pub freed : NameTable → List ℕ → ℕ → Option ℕ
freed names text slot = freed_in (map.get names text) slot

-- the numbers of texts differ, and each is a taken key
pub record IsNumbering (names : NameTable) (keys : Slab (Unit {0})) : Type 0 where
  pub apart : AreApart names
  pub taken : (text : List ℕ) (n : ℕ) → number_of names text ≡ Some n → IsSome (get keys n)
