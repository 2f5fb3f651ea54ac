-- The rows of the built-in names are the entities that are built in.
use Rattle.std.proofs.Common.{◌≡◌, ◌<◌, Bool, true, false, [], ◌∷◌, ◌++◌, map, refl, ap, sym, ◌∙◌, arith, Option, Some, None, chars}
use Rattle.std.specs.Prelude.{◌&&◌, bytes_eq, nat_lt}
use Rattle.std.specs.Bool.{one_answer}
use Rattle.std.specs.List.{list_all}
use Rattle.std.specs.Str.{IsUtf8, IsAscii, encode_utf8_all}
use Rattle.std.proofs.lemmas.Bool.Decides.{nat_tests}
use Rattle.std.proofs.lemmas.List.Folds.{list_all-append}
use Rattle.std.proofs.lemmas.Slice.Eq.{bytes_eq-Decides}
use Rattle.std.proofs.lemmas.Str.{chars-IsAscii, encodes-chars}
use Rattle.std.proofs.lemmas.Str.Ascii.{IsAscii-nil, IsAscii-cons, encodes-IsAscii}
use Rattle.doc_rules.specs.Characters.{Text}
use Rattle.doc_rules.specs.Entities.{Entity, Table, built_in}
use Rattle.doc_rules.specs.Escapes.{find_entity}
use Rattle.doc_lines.specs.declared.entities.names.TheConstants.{NAMES, ROWS}
use Rattle.doc_lines.specs.Entities.{row_entity, Rises, has_ascii_names}
use Rattle.doc_lines.proofs.TableLaws.{choice, find_cons, find_none}
use Rattle.doc_lines.proofs.SearchLaws.{rising, from_rising}
use Rattle.std.proofs.lemmas.Bool.{and_parts}

-- ---- tables with the same names

abbrev is_found : Option Text → Text → Bool
is_found None those = false
is_found (Some these) those = bytes_eq these those

-- each entity of a table is found in another
unfoldable covers : Table → Table → Bool
covers [] U = true
covers (e ∷ more) U = is_found (find_entity U e.0) e.1 && covers more U

found_is : (o : Option Text) (those : Text) → is_found o those ≡ true → o ≡ Some those
found_is None those e = absurd cc
found_is (Some these) those e = ap Some ((bytes_eq-Decides these those).0 e)

covered_choice : (b : Bool) (e : Entity) (more U : Table) (name those : Text) → b ≡ bytes_eq e.0 name → find_entity U e.0 ≡ Some e.1
    → (find_entity more name ≡ Some those → find_entity U name ≡ Some those) → choice b e.1 (find_entity more name) ≡ Some those
    → find_entity U name ≡ Some those
covered_choice true e more U name those is here next found = ap (find_entity U) (sym ((bytes_eq-Decides e.0 name).0 (sym is))) ∙ here
    ∙ found
covered_choice false e more U name those is here next found = next found

covered : (T U : Table) → covers T U ≡ true → (name those : Text) → find_entity T name ≡ Some those → find_entity U name ≡ Some those
unfolding covers
covered [] U all name those found = let none = sym (find_none name) ∙ found in absurd cc
covered (e ∷ more) U all name those found =
    let parts = and_parts (is_found (find_entity U e.0) e.1) (covers more U) all in
    covered_choice (bytes_eq e.0 name) e more U name those refl (found_is (find_entity U e.0) e.1 parts.0)
    (covered more U parts.1 name those) (sym (find_cons e more name) ∙ found)

same_of : (o p : Option Text) → ((those : Text) → o ≡ Some those → p ≡ Some those) → ((those : Text) → p ≡ Some those → o ≡ Some those)
    → o ≡ p
same_of None None to from = refl
same_of None (Some those) to from = from those refl
same_of (Some those) p to from = sym (to those refl)

same_names : (T U : Table) → covers T U ≡ true → covers U T ≡ true → (name : Text) → find_entity T name ≡ find_entity U name
same_names T U to from name = same_of (find_entity T name) (find_entity U name) (λ those. covered T U to name those)
    (λ those. covered U T from name those)

-- ---- the rows

rows_cover : covers (map (row_entity NAMES.now) ROWS.now) built_in ≡ true
unfolding covers find_entity built_in
rows_cover = refl

covers_rows : covers built_in (map (row_entity NAMES.now) ROWS.now) ≡ true
unfolding covers find_entity built_in
covers_rows = refl

pub rows_are_built_in : (name : Text) → find_entity (map (row_entity NAMES.now) ROWS.now) name ≡ find_entity built_in name
rows_are_built_in = same_names (map (row_entity NAMES.now) ROWS.now) built_in rows_cover covers_rows

rows_rising : rising (map (row_entity NAMES.now) ROWS.now) ≡ true
rows_rising = refl

pub rows_rise : Rises (map (row_entity NAMES.now) ROWS.now)
rows_rise = from_rising (map (row_entity NAMES.now) ROWS.now) rows_rising

-- ---- names of ASCII characters

pub built_in_ascii : has_ascii_names built_in ≡ true
unfolding built_in
built_in_ascii = refl

pub ascii_append : (T U : Table) → has_ascii_names T ≡ true → has_ascii_names U ≡ true → has_ascii_names (T ++ U) ≡ true
ascii_append T U t u = list_all-append (λ (entity : Entity). list_all (λ b. nat_lt b 128) entity.0) T U
    ∙ ap (λ (b : Bool). b && has_ascii_names U) t ∙ u

from_all : (xs : Text) → list_all (λ b. nat_lt b 128) xs ≡ true → IsAscii xs
from_all [] h = IsAscii-nil
from_all (b ∷ xs) h =
    let parts = and_parts (nat_lt b 128) (list_all (λ c. nat_lt c 128) xs) h in
    let small : b < 128 = grind (arith, nat_tests) in
    IsAscii-cons b xs small (from_all xs parts.1)

-- such a name is the characters of a text where it is its bytes
same_test : (xs bs : Text) → IsAscii xs → IsUtf8 bs → bytes_eq xs (chars bs) ≡ bytes_eq xs bs
same_test xs bs ascii utf8 =
    let to : bytes_eq xs (chars bs) ≡ true → xs ≡ bs = λ e. sym (encodes-IsAscii xs ascii)
    ∙ ap encode_utf8_all ((bytes_eq-Decides xs (chars bs)).0 e) ∙ encodes-chars bs utf8 in
    let from : xs ≡ bs → bytes_eq xs (chars bs) ≡ true = λ e. (bytes_eq-Decides xs (chars bs)).1 (sym (chars-IsAscii xs ascii)
    ∙ ap chars e) in
    one_answer {P = xs ≡ bs} (bytes_eq xs (chars bs)) (bytes_eq xs bs) (to, from) (bytes_eq-Decides xs bs)

pub find_chars : (T : Table) (bs : Text) → has_ascii_names T ≡ true → IsUtf8 bs → find_entity T (chars bs) ≡ find_entity T bs
find_chars [] bs ascii utf8 = find_none (chars bs) ∙ sym (find_none bs)
find_chars (e ∷ more) bs ascii utf8 =
    let parts = and_parts (list_all (λ b. nat_lt b 128) e.0) (has_ascii_names more) ascii in
    find_cons e more (chars bs)
    ∙ ap (choice (bytes_eq e.0 (chars bs)) e.1) (find_chars more bs parts.1 utf8)
    ∙ ap (λ (b : Bool). choice b e.1 (find_entity more bs)) (same_test e.0 bs (from_all e.0 parts.0) utf8)
    ∙ sym (find_cons e more bs)

-- a look-up by bytes in the built-in entities and added ones is one by characters in the table that they are
pub find_is : (added table : Table) (bs : Text) → built_in ++ added ≡ table → has_ascii_names added ≡ true → IsUtf8 bs
    → find_entity (built_in ++ added) bs ≡ find_entity table (chars bs)
find_is added table bs view ascii utf8 = sym (find_chars (built_in ++ added) bs (ascii_append built_in added built_in_ascii ascii) utf8)
    ∙ ap (λ t. find_entity t (chars bs)) view
