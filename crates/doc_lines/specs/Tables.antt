-- Tables of character references: a line `name HEX [HEX]` for each name, with one space between its fields. Blank lines don't count.
-- This form is this project's choice.
use Rattle.std.specs.Prelude.{◌≡◌, ℕ, ◌+◌, nat_lt, nat_le, Bool, true, false, not, ◌&&◌, ◌||◌, ◌==◌, bytes_eq, List, [], ◌∷◌, ◌++◌, length}
use Rattle.std.specs.Prelude.{Option, Some, None, is_some, option_map, option_and_then, Result, Ok, Err, if◌then◌else◌}
use Rattle.std.specs.BTreeMap.{insert_entry}
use Rattle.std.specs.Char.{is_ascii_alphabetic, is_ascii_alphanumeric, is_ascii_hexdigit}
use Rattle.std.specs.Cmp.Lexicographic.{slice_cmp}
use Rattle.std.specs.List.{list_all, position_or_len, before_first, after_first}
use Rattle.std.specs.Ordering.{nat_cmp}
use Rattle.doc_page_parts.specs.Lines.{lines, without_ending, is_space_or_tab}
use Rattle.doc_rules.specs.Characters.{Text}
use Rattle.doc_rules.specs.Entities.{Entity, Table, built_in}
use Rattle.doc_rules.specs.Rules.{Rules, plain_rules}
use Rattle.doc_rules.specs.Escapes.{find_entity, number}
use Rattle.doc_lines.specs.declared.entities.TableError.{TableError}
use Rattle.doc_lines.specs.declared.entities.TableError.TheVariants.{BadRow, Twice, Memory}

-- ---- one line

-- a name: an ASCII letter, and up to 31 letters or digits
abbrev pub is_name : List ℕ → Bool
is_name [] = false
is_name (b ∷ rest) = is_ascii_alphabetic b && list_all is_ascii_alphanumeric rest && nat_le (length rest) 31

-- a Unicode scalar value
abbrev pub is_scalar : ℕ → Bool
is_scalar n = nat_lt n 0xD800 || (nat_le 0xE000 n && nat_lt n 0x110000)

-- 1 to 6 hexadecimal digits
abbrev pub is_code : List ℕ → Bool
is_code field = nat_le 1 (length field) && nat_le (length field) 6 && list_all is_ascii_hexdigit field

-- the character whose code point 1 to 6 hexadecimal digits are
abbrev pub character_of : List ℕ → Option ℕ
character_of field = if is_code field && is_scalar (number 16 field) then Some (number 16 field) else None

abbrev pub is_space : ℕ → Bool
is_space b = b == 32

-- what stands before the first space and what behind it
abbrev pub at_space : List ℕ → Option (List ℕ × List ℕ)
at_space text = if nat_lt (position_or_len is_space text) (length text) then Some (before_first is_space text, after_first is_space text)
    else None

-- the characters of one field or two
abbrev pub fields_characters : Option (List ℕ × List ℕ) → List ℕ → Option Text
fields_characters None text = option_map (λ c. c ∷ []) (character_of text)
fields_characters (Some fields) text = option_and_then (λ c. option_map (λ d. c ∷ d ∷ []) (character_of fields.1)) (character_of fields.0)

-- the entity of a name and the fields behind it
abbrev pub fields_entity : Option (List ℕ × List ℕ) → Option Entity
fields_entity None = None
fields_entity (Some fields) = if is_name fields.0 then option_map (λ those. (fields.0, those))
    (fields_characters (at_space fields.1) fields.1) else None

-- the entity that a line gives
unfoldable pub entity_of : List ℕ → Option Entity
entity_of line = fields_entity (at_space (without_ending line))

-- a line that is blank or gives an entity
abbrev pub is_row : List ℕ → Bool
is_row line = list_all is_space_or_tab (without_ending line) || is_some (entity_of line)

-- ---- faults

-- the number of the first line that is no row; the first of these lines has the number n
unfoldable pub bad_line : ℕ → List (List ℕ) → Option ℕ
bad_line n [] = None
bad_line n (line ∷ more) = elim (is_row line) [ true ↦ bad_line (n + 1) more | false ↦ Some n ]

-- the entities of lines
unfoldable pub entities_in : List (List ℕ) → Table
entities_in [] = []
entities_in (line ∷ more) = elim (entity_of line) [ None ↦ entities_in more | Some entity ↦ entity ∷ entities_in more ]

-- a name has other characters in the table
abbrev pub contradicts : Table → Entity → Bool
contradicts table entity = elim (find_entity table entity.0) [ None ↦ false | Some those ↦ not (bytes_eq those entity.1) ]

-- a line's name has other characters in the table
abbrev pub line_contradicts : Table → Option Entity → Bool
line_contradicts table None = false
line_contradicts table (Some entity) = contradicts table entity

-- the number of the first line whose name has other characters in the table or in a line before; the first of these lines has the number n
unfoldable pub twice_line : Table → ℕ → List (List ℕ) → Option ℕ
twice_line table n [] = None
twice_line table n (line ∷ more) = elim (line_contradicts table (entity_of line))
    [ true ↦ Some n | false ↦ twice_line (table ++ entities_in (line ∷ [])) (n + 1) more ]

-- ---- the table

-- the added entities with one more, in the order of their names, where its name is new
abbrev pub with_entity : Table → Entity → Table
with_entity added entity = elim (find_entity (built_in ++ added) entity.0)
    [ None ↦ insert_entry (slice_cmp nat_cmp) added entity.0 entity.1 | Some _ ↦ added ]

-- the added entities with more
unfoldable pub with_entities : Table → Table → Table
with_entities added [] = added
with_entities added (entity ∷ more) = with_entities (with_entity added entity) more

-- the rules that these lines make, of which the first that is no row and the first that contradicts are these
abbrev pub table_of : List (List ℕ) → Option ℕ → Option ℕ → Result Rules TableError
table_of all (Some n) twice = Err (BadRow n)
table_of all None (Some n) = Err (Twice n)
table_of all None None = Ok (plain_rules (built_in ++ with_entities [] (entities_in all)))

-- the rules that a text makes, without any extension: the first line that is no row is refused before any that contradicts
abbrev pub entities_of : List ℕ → Result Rules TableError
entities_of text = table_of (lines text) (bad_line 1 (lines text)) (twice_line built_in 1 (lines text))

-- what may be answered in place of the added entities where this line is the first that contradicts
abbrev pub MayRefuse : Option ℕ → TableError → Type 0
MayRefuse twice (BadRow n) = ⊥
MayRefuse twice (Twice n) = twice ≡ Some n
MayRefuse twice Memory = Unit {0}

-- the refusal of the first line that contradicts, or else another one
abbrev pub twice_or : TableError → Option ℕ → TableError
twice_or other None = other
twice_or other (Some n) = Twice n
