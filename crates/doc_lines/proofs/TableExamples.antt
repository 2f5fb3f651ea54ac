-- Tables of character references by example.
use Rattle.std.proofs.Common.{◌≡◌, [], ◌∷◌, ◌++◌, Some, None, Ok, Err, refl}
use Rattle.std.specs.Prelude.{codes}
use Rattle.doc_page_parts.specs.Lines.{lines, without_ending}
use Rattle.doc_rules.specs.Entities.{built_in}
use Rattle.doc_rules.specs.Escapes.{find_entity, number}
use Rattle.doc_rules.specs.Rules.{plain_rules}
use Rattle.doc_lines.specs.declared.entities.TableError.TheVariants.{BadRow, Twice}
use Rattle.doc_lines.specs.Tables.{entity_of, bad_line, entities_in, twice_line, with_entities, entities_of}

one_character : entity_of (codes "zwp 200B\n") ≡ Some (codes "zwp", 0x200B ∷ [])
unfolding entity_of without_ending number
one_character = refl

two_characters : entity_of (codes "ngE 2267 338\r\n") ≡ Some (codes "ngE", 0x2267 ∷ 0x338 ∷ [])
unfolding entity_of without_ending number
two_characters = refl

surrogate : entity_of (codes "a D800") ≡ None
unfolding entity_of without_ending number
surrogate = refl

two_spaces : entity_of (codes "a  41") ≡ None
unfolding entity_of without_ending number
two_spaces = refl

blank_lines : entities_of (codes "\n \t\r\n") ≡ Ok (plain_rules (built_in ++ []))
unfolding lines without_ending entity_of bad_line entities_in twice_line with_entities
blank_lines = refl

same_characters : entities_of (codes "copy A9") ≡ Ok (plain_rules (built_in ++ []))
unfolding lines without_ending number entity_of bad_line entities_in twice_line with_entities find_entity built_in
same_characters = refl

in_their_order : entities_of (codes "zwp 200B\rAMP 26") ≡ Ok (plain_rules
    (built_in ++ (codes "AMP", 0x26 ∷ []) ∷ (codes "zwp", 0x200B ∷ []) ∷ []))
unfolding lines without_ending number entity_of bad_line entities_in twice_line with_entities find_entity built_in
in_their_order = refl

other_characters : entities_of (codes "copy AE") ≡ Err (Twice 1)
unfolding lines without_ending number entity_of bad_line entities_in twice_line with_entities find_entity built_in
other_characters = refl

twice_in_the_table : entities_of (codes "zwp 200B\n\nzwp 200C") ≡ Err (Twice 3)
unfolding lines without_ending number entity_of bad_line entities_in twice_line with_entities find_entity built_in
twice_in_the_table = refl

bad_row : entities_of (codes "1x 41") ≡ Err (BadRow 1)
unfolding lines without_ending number entity_of bad_line entities_in twice_line with_entities find_entity built_in
bad_row = refl

bad_row_first : entities_of (codes "copy AE\n1x 41") ≡ Err (BadRow 2)
unfolding lines without_ending number entity_of bad_line entities_in twice_line with_entities find_entity built_in
bad_row_first = refl
