-- The form in which character references by name are kept. This is this project's choice.
use Rattle.std.specs.Prelude.{◌≡◌, ℕ, ◌+◌, Bool, nat_lt, nat_le, List, [], ◌∷◌, map, take, drop, length, String, string_bytes, Option, Some}
use Rattle.std.specs.Prelude.{None}
use denote.Ref.{Bor}
use Rattle.std.specs.List.{list_all}
use Rattle.std.specs.BTreeMap.{BTreeMap}
use Rattle.std.specs.Cmp.Lexicographic.{slice_cmp}
use Rattle.std.specs.Ordering.{nat_cmp}
use Rattle.std.specs.declared.cmp.Ordering.TheVariants.{Less}
use Rattle.doc_rules.specs.Characters.{Text}
use Rattle.doc_rules.specs.Entities.{Entity, Table}
use Rattle.doc_lines.specs.declared.entities.names.Row.{Row}

-- one or two characters as a text
abbrev pub characters : ℕ × Option ℕ → Text
characters (c, None) = c ∷ []
characters (c, Some d) = c ∷ d ∷ []

-- the entity that a row of the built-in names is
abbrev pub row_entity : List ℕ → Row → Entity
row_entity names row = (take row.1 (drop row.0 names), characters row.2)

-- a row's name is a part of the names
abbrev pub is_within : List ℕ → Row → Bool
is_within names row = nat_le (row.0 + row.1) (length names)

-- map entries by `String` keys as entities
abbrev pub entities_shown : {A : Type 0} → List (String A × (ℕ × Option ℕ)) → Table
entities_shown entries = map (λ entry. (string_bytes entry.0, characters entry.1)) entries

-- what a line gives as an entity
abbrev pub entity_shown : Option (Bor (List ℕ) × (ℕ × Option ℕ)) → Option Entity
entity_shown None = None
entity_shown (Some entity) = Some (entity.0.now, characters entity.1)

-- the entities that are added to those that are built in
abbrev pub added_entities : {A : Type 0} → Option (BTreeMap (String A) (ℕ × Option ℕ)) → Table
added_entities None = []
added_entities (Some entries) = entities_shown entries.entries

-- the names are of ASCII characters
abbrev pub has_ascii_names : Table → Bool
has_ascii_names table = list_all (λ entity. list_all (λ b. nat_lt b 128) entity.0) table

-- each entity's name comes before the next one's, by bytes
abbrev pub RisesFrom : Entity → Table → Type 0
RisesFrom before [] = Unit {0}
RisesFrom before (entity ∷ more) = (slice_cmp nat_cmp before.0 entity.0 ≡ Less) × RisesFrom entity more

abbrev pub Rises : Table → Type 0
Rises [] = Unit {0}
Rises (entity ∷ more) = RisesFrom entity more
