-- The lines of edits are printable ASCII.
use Rattle.std.proofs.Common.{◌≡◌, ℕ, suc, get_or, ◌+◌, ◌/◌, ◌%◌, ◌<◌, List, [], ◌∷◌, ◌++◌, Bool, true, false, ◌&&◌, ◌==◌, codes, bytes_eq, refl, sym, ap, ◌∙◌, arith}
use Rattle.std.specs.Prelude.{nat_lt, if◌then◌else◌}
use Rattle.std.specs.List.{flat_map, list_all}
use Rattle.std.proofs.lemmas.Bool.{and_parts}
use Rattle.std.proofs.lemmas.Bool.Decides.{nat_tests}
use Rattle.std.proofs.lemmas.List.Folds.{list_all-append}
use Rattle.doc_store_readers.specs.Groups.{is_group, is_group_byte}
use Rattle.doc_page_parts.proofs.Bools.{and_first, and_second}
use Rattle.doc_store.specs.declared.site_edit.SiteEdit.{SiteEdit}
use Rattle.doc_store.specs.declared.site_edit.SiteEdit.TheVariants as site_edits
use Rattle.doc_server_script.specs.Edits.{behind_commas, groups_text}
use Rattle.doc_server_script.specs.Escapes.{by_number, escaped, escaped_byte, hex_digit, is_byte, is_printable, spaceless, spaceless_byte}
use Rattle.doc_server_script.specs.PageLines.{line_of, lines_of}
use Rattle.doc_server_script.specs.PlainLines.{AreBytes, AreLineBytes, HasBytes, is_line_byte}

-- ---- lists

pub both : (xs ys : List ℕ) → AreLineBytes xs → AreLineBytes ys → AreLineBytes (xs ++ ys)
both xs ys one two = list_all-append is_line_byte xs ys ∙ ap (λ b. b && list_all is_line_byte ys) one ∙ two

either : (t : Bool) (xs ys : List ℕ) → AreLineBytes xs → AreLineBytes ys → AreLineBytes (if t then xs else ys)
either true xs ys one two = one
either false xs ys one two = two

one_byte : (b : ℕ) → is_line_byte b ≡ true → AreLineBytes (b ∷ [])
one_byte b is = ap (λ t. t && true) is

pub all_bytes : (bytes : List ℕ) → ((i : ℕ) → get_or bytes i 0 < 256) → AreBytes bytes
all_bytes [] each = refl
all_bytes (b ∷ bytes) each = ap (λ t. t && list_all is_byte bytes) (small b (each 0)) ∙ all_bytes bytes (λ i. each (suc i))
  where
    small : (b : ℕ) → b < 256 → is_byte b ≡ true
    small b less = grind (arith, nat_tests)

-- ---- escapes

digit_is : (n : ℕ) → n < 16 → is_line_byte (hex_digit n) ≡ true
digit_is n small = by (nat_lt n 10) refl
  where
    by : (t : Bool) → nat_lt n 10 ≡ t → is_line_byte (if t then 48 + n else 87 + n) ≡ true
    by true less = grind (arith, nat_tests)
    by false more = grind (arith, nat_tests)

by_number_is : (b : ℕ) → b < 256 → AreLineBytes (by_number b)
by_number_is b small =
    both (codes "\\x") (hex_digit (b / 16) ∷ hex_digit (b % 16) ∷ []) refl
    (ap (λ t. t && (is_line_byte (hex_digit (b % 16)) && true)) (digit_is (b / 16) (omega arith))
    ∙ ap (λ t. t && true) (digit_is (b % 16) (omega arith)))

printed : (b : ℕ) → b < 256 → (t : Bool) → is_printable b ≡ t → AreLineBytes (if t then b ∷ [] else by_number b)
printed b small true is = one_byte b (grind (arith, nat_tests))
printed b small false is = by_number_is b small

byte_is : (b : ℕ) → b < 256 → AreLineBytes (escaped_byte b)
byte_is b small = either (b == 13) (codes "\\r") _ refl (either (b == 10) (codes "\\n") _ refl (either (b == 92) (codes "\\\\") _ refl
    (printed b small (is_printable b) refl)))

spaceless_is : (b : ℕ) → b < 256 → AreLineBytes (spaceless_byte b)
spaceless_is b small = either (b == 32) (codes "\\x20") (escaped_byte b) refl (byte_is b small)

written_is : (write : ℕ → List ℕ) → ((b : ℕ) → b < 256 → AreLineBytes (write b)) → (bytes : List ℕ) → AreBytes bytes
    → AreLineBytes (flat_map write bytes)
written_is write each [] all = refl
written_is write each (b ∷ bytes) all =
    let parts = and_parts (is_byte b) (list_all is_byte bytes) all in
    let small : b < 256 = below b parts.0 in
    both (write b) (flat_map write bytes) (each b small) (written_is write each bytes parts.1)
  where
    below : (b : ℕ) → nat_lt b 256 ≡ true → b < 256
    below b is = grind (arith, nat_tests)

text_is : (text : List ℕ) → AreBytes text → AreLineBytes (escaped text)
unfolding escaped
text_is text all = written_is escaped_byte byte_is text all

path_is : (path : List ℕ) → AreBytes path → AreLineBytes (spaceless path)
unfolding spaceless
path_is path all = written_is spaceless_byte spaceless_is path all

-- ---- groups

letter_is : (b : ℕ) → is_group_byte b ≡ true → is_line_byte b ≡ true
letter_is b is = grind (arith, nat_tests)

letters_are : (name : List ℕ) → list_all is_group_byte name ≡ true → AreLineBytes name
letters_are [] all = refl
letters_are (b ∷ name) all =
    let parts = and_parts (is_group_byte b) (list_all is_group_byte name) all in
    ap (λ t. t && list_all is_line_byte name) (letter_is b parts.0) ∙ letters_are name parts.1

name_is : (name : List ℕ) → is_group name ≡ true → AreLineBytes name
name_is name is = letters_are name (and_second _ _ is)

names_are : (names : List (List ℕ)) → list_all is_group names ≡ true → AreLineBytes (behind_commas names)
names_are [] all = refl
names_are (name ∷ names) all =
    both (44 ∷ name) (behind_commas names) (name_is name (and_first _ _ all)) (names_are names (and_second _ _ all))

groups_are : (groups : List (List ℕ)) → list_all is_group groups ≡ true → AreLineBytes (groups_text groups)
groups_are [] all = refl
groups_are (name ∷ []) all = either (bytes_eq name (codes "-")) (codes "-,-") name refl (name_is name (and_first _ _ all))
groups_are (name ∷ other ∷ names) all =
    both name (behind_commas (other ∷ names)) (name_is name (and_first _ _ all)) (names_are (other ∷ names) (and_second _ _ all))

-- ---- lines

pub line_is : (edit : SiteEdit) → HasBytes edit → AreLineBytes (line_of edit)
line_is (site_edits.Put path groups text) has =
    both (codes "put " ++ (spaceless path ++ 32 ∷ (groups_text groups ++ 32 ∷ escaped text))) (10 ∷ [])
    (both (codes "put ") (spaceless path ++ 32 ∷ (groups_text groups ++ 32 ∷ escaped text)) refl
    (both (spaceless path) (32 ∷ (groups_text groups ++ 32 ∷ escaped text)) (path_is path has.0)
    (both (groups_text groups) (32 ∷ escaped text) (groups_are groups has.1) (text_is text has.2)))) refl
line_is (site_edits.Remove path) has =
    both (codes "remove " ++ spaceless path) (10 ∷ []) (both (codes "remove ") (spaceless path) refl (path_is path has)) refl
line_is (site_edits.Move from to) has =
    both (codes "move " ++ (spaceless from ++ 32 ∷ spaceless to)) (10 ∷ [])
    (both (codes "move ") (spaceless from ++ 32 ∷ spaceless to) refl
    (both (spaceless from) (32 ∷ spaceless to) (path_is from has.0) (path_is to has.1))) refl
