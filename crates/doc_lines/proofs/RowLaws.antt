-- Numbers of lines and of hexadecimal digits; names are of ASCII characters.
use Rattle.std.proofs.Common.{◌≡◌, ℕ, suc, ◌+◌, ◌^◌, ◌<◌, ◌≤◌, Bool, true, false, List, [], ◌∷◌, length, refl, ap, sym}
use Rattle.std.proofs.Common.{◌∙◌, arith, Option, Some, None}
use Rattle.std.specs.Prelude.{if◌then◌else◌, nat_lt, nat_le, ◌&&◌, option_map}
use Rattle.std.specs.Char.{is_ascii_alphabetic, is_ascii_alphanumeric}
use Rattle.std.specs.List.{onto_first, list_all}
use Rattle.std.proofs.lemmas.Bool.Decides.{nat_tests}
use Rattle.std.proofs.Math.Nat.{pow-le-pow_right}
use Rattle.doc_page_parts.specs.Lines.{lines, ends_line, without_ending}
use Rattle.doc_rules.specs.Characters.{Text}
use Rattle.doc_rules.specs.Entities.{Entity}
use Rattle.doc_lines.specs.Tables.{is_name, at_space, fields_entity, fields_characters, entity_of}
use Rattle.std.proofs.lemmas.Bool.{and_parts}

-- at most 5 digits came before
pub number_fits : (i n : ℕ) → n < 16 ^ i → i < 6 → n < 1048576
number_fits i n h few =
    let most : 16 ^ i ≤ 16 ^ 5 = pow-le-pow_right {n = 16} (omega arith) {i = i} {j = 5} (omega arith) in
    omega arith

-- no text has more lines than bytes
onto_first_length : (b : ℕ) (ls : List (List ℕ)) → length (onto_first b ls) ≤ length ls + 1
onto_first_length b [] = omega arith
onto_first_length b (l ∷ ls) = omega arith

line_step : (t : Bool) (b : ℕ) (ls : List (List ℕ)) (n : ℕ) → length ls ≤ n → length (if t then (b ∷ []) ∷ ls else onto_first b ls) ≤ suc n
line_step true b ls n h = omega arith
line_step false b ls n h = omega (arith, onto_first_length b ls)

pub lines_length : (text : List ℕ) → length (lines text) ≤ length text
unfolding lines
lines_length [] = omega arith
lines_length (b ∷ text) = line_step (ends_line b text) b (lines text) (length text) (lines_length text)

-- ---- names

ascii_rest : (rest : Text) → list_all is_ascii_alphanumeric rest ≡ true → list_all (λ b. nat_lt b 128) rest ≡ true
ascii_rest [] h = refl
ascii_rest (b ∷ rest) h =
    let parts = and_parts (is_ascii_alphanumeric b) (list_all is_ascii_alphanumeric rest) h in
    let here : nat_lt b 128 ≡ true = grind (arith, nat_tests) in
    ap (λ (t : Bool). t && list_all (λ c. nat_lt c 128) rest) here ∙ ascii_rest rest parts.1

name_ascii : (name : Text) → is_name name ≡ true → list_all (λ b. nat_lt b 128) name ≡ true
name_ascii [] h = absurd cc
name_ascii (b ∷ rest) h =
    let parts = and_parts (is_ascii_alphabetic b && list_all is_ascii_alphanumeric rest) (nat_le (length rest) 31) h in
    let letters = and_parts (is_ascii_alphabetic b) (list_all is_ascii_alphanumeric rest) parts.0 in
    let here : nat_lt b 128 ≡ true = grind (arith, nat_tests) in
    ap (λ (t : Bool). t && list_all (λ c. nat_lt c 128) rest) here ∙ ascii_rest rest letters.1

named : (t : Bool) (name : Text) (those : Option Text) (entity : Entity) → t ≡ is_name name
    → (if t then option_map (λ text. (name, text)) those else None) ≡ Some entity → list_all (λ b. nat_lt b 128) entity.0 ≡ true
named true name None entity is e = absurd cc
named true name (Some text) entity is e =
    let same : (name, text) ≡ entity = cc in
    ap (λ (x : Entity). list_all (λ b. nat_lt b 128) x.0) (sym same) ∙ name_ascii name (sym is)
named false name those entity is e = absurd cc

fields_ascii : (o : Option (List ℕ × List ℕ)) (entity : Entity) → fields_entity o ≡ Some entity
    → list_all (λ b. nat_lt b 128) entity.0 ≡ true
fields_ascii None entity e = absurd cc
fields_ascii (Some fields) entity e = named (is_name fields.0) fields.0 (fields_characters (at_space fields.1) fields.1) entity refl e

-- the name of an entity is of ASCII characters
pub entity_ascii : (line : List ℕ) (entity : Entity) → entity_of line ≡ Some entity → list_all (λ b. nat_lt b 128) entity.0 ≡ true
unfolding entity_of
entity_ascii line entity e = fields_ascii (at_space (without_ending line)) entity e
