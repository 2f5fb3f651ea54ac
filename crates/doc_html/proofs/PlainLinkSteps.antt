-- Destinations are escaped by bytes as by characters.
use Rattle.std.proofs.Common.{◌≡◌, ℕ, ◌+◌, ◌≤◌, ◌<◌, inl, inr, Bool, true, false, List, [], ◌∷◌, ◌++◌, refl, ap, sym, ◌∙◌, subst, arith}
use Rattle.std.proofs.Common.{suc, append-nil}
use Rattle.std.specs.Prelude.{◌||◌, ◌&&◌, ◌==◌, ◌/◌, ◌%◌, nat_lt, bytes_eq, flat_map, encode_utf8_all, codes}
use Rattle.std.specs.Char.{encode_utf8, is_ascii_alphanumeric}
use Rattle.std.specs.Str.{chars, IsUtf8}
use Rattle.std.specs.List.{AllByRecursion}
use Rattle.std.proofs.lemmas.Bool.{ne_eqb, lt-ltb, le-ltb, cases_lt, and_parts, and_from, agree_below_at}
use Rattle.std.proofs.lemmas.Bool.Decides.{nat_tests}
use Rattle.std.proofs.lemmas.List.Concat.{flat_map-append}
use Rattle.std.proofs.lemmas.List.Folds.{list_all-append}
use Rattle.std.proofs.lemmas.Slice.Eq.{bytes_eq-Decides}
use Rattle.std.proofs.lemmas.Str.{encodes-chars}
use Rattle.percent_encoding.specs.Percent.{percent_encode_byte}
use Rattle.doc_page_parts.specs.Escaping.{escaped}
use Rattle.doc_page_encoding.specs.Encoding.{destination}
use Rattle.doc_page_encoding.specs.Laws.{destination_byte}
use Rattle.doc_page_encoding.proofs.DestinationLaws.{destinations_by_bytes}
use Rattle.doc_page_encoding.proofs.EncodingLaws.{IsBytes}
use Rattle.doc_page_parts.specs.declared.linker.Shown.TheVariants.{Href}
use Rattle.doc_rules.specs.Characters.{Text, one_of}
use Rattle.doc_rules.specs.Escaping.{percent, url_char, url_escape}
use Rattle.doc_rules.specs.Rules.{Rules}
use Rattle.doc_rules.specs.Blocks.{document_of}
use Rattle.doc_rules.specs.Html.{plain_linker, html_of, rendered_plain}
use Rattle.doc_rules.specs.Pages.{encoded_shown}
use Rattle.doc_rules.specs.Laws.{ShowsAlike}
use Rattle.doc_html.specs.InlineSteps.{is_ascii}
use Rattle.doc_html.specs.PlainLinks.{url_byte, plain_shown}
use Rattle.doc_html.proofs.WriterSteps.{ascii_chars, ascii_bytes}

pub no_mark : (set : Text) (c : ℕ) → is_ascii set ≡ true → 128 ≤ c → one_of set c ≡ false
no_mark [] c h g = refl
no_mark (d ∷ set) c h g =
    let both : _ = and_parts (nat_lt d 128) (is_ascii set) h in
    let low : d < 128 = grind (arith, nat_tests, both.0) in
    ap (λ b. b || one_of set c) (ne_eqb c d (λ e. omega arith)) ∙ no_mark set c both.1 g

abbrev marks : Text
marks = codes "-_.+!*'(),%#@?=;:/$~"

no_letter : (c : ℕ) → 128 ≤ c → is_ascii_alphanumeric c ≡ false
no_letter c h = grind (arith, nat_tests)

stays_not : (c : ℕ) → 128 ≤ c → (is_ascii_alphanumeric c || one_of marks c) ≡ false
stays_not c h = ap (λ b. b || one_of marks c) (no_letter c h) ∙ no_mark marks c refl h

-- ---- characters past ASCII

abbrev Percented : ℕ → Type 0
Percented b = url_byte b ≡ percent b

high_byte : (b : ℕ) → 128 ≤ b → Percented b
unfolding url_byte
high_byte b h = rw (le-ltb b 128 h) refl

high_sum : (k n : ℕ) → 128 ≤ k → Percented (k + n)
high_sum k n h = high_byte (k + n) (omega arith)

all_percented : (bytes : List ℕ) → AllByRecursion Percented bytes → flat_map percent bytes ≡ flat_map url_byte bytes
all_percented [] h = refl
all_percented (b ∷ bytes) h = ap (λ front. front ++ flat_map percent bytes) (sym h.0)
    ∙ ap (λ more. url_byte b ++ more) (all_percented bytes h.1)

pub one_byte : (c : ℕ) → c < 128 → encode_utf8 c ≡ c ∷ []
unfolding encode_utf8
one_byte c l = rw (lt-ltb c 128 l)

two_bytes : (c : ℕ) → 128 ≤ c → c < 2048 → encode_utf8 c ≡ (192 + c / 64) ∷ (128 + c % 64) ∷ []
unfolding encode_utf8
two_bytes c l h = rw (le-ltb c 128 l, lt-ltb c 2048 h)

three_bytes : (c : ℕ) → 2048 ≤ c → c < 65536 → encode_utf8 c ≡ (224 + c / 4096) ∷ (128 + (c / 64) % 64) ∷ (128 + c % 64) ∷ []
unfolding encode_utf8
three_bytes c l h = rw (le-ltb c 128 (omega arith), le-ltb c 2048 l, lt-ltb c 65536 h)

four_bytes : (c : ℕ) → 65536 ≤ c → encode_utf8 c ≡ (240 + c / 262144) ∷ (128 + (c / 4096) % 64) ∷ (128 + (c / 64) % 64) ∷ (128 + c % 64) ∷
    []
unfolding encode_utf8
four_bytes c l = rw (le-ltb c 128 (omega arith), le-ltb c 2048 (omega arith), le-ltb c 65536 l)

high_bytes : (c : ℕ) → 128 ≤ c → AllByRecursion Percented (encode_utf8 c)
high_bytes c h =
    elim (cases_lt c 2048) [
      | inl l ↦ subst (AllByRecursion Percented) (sym (two_bytes c h l))
          (high_sum 192 (c / 64) (omega arith), (high_sum 128 (c % 64) (omega arith), tt))
      | inr g ↦ elim (cases_lt c 65536) [
        | inl l ↦ subst (AllByRecursion Percented) (sym (three_bytes c g l))
            (high_sum 224 (c / 4096) (omega arith), (high_sum 128 ((c / 64) % 64) (omega arith), (high_sum 128 (c % 64) (omega arith), tt)))
        | inr k ↦ subst (AllByRecursion Percented) (sym (four_bytes c k)) (
          high_sum 240 (c / 262144) (omega arith),
          (
            high_sum 128 ((c / 4096) % 64) (omega arith),
            (high_sum 128 ((c / 64) % 64) (omega arith), (high_sum 128 (c % 64) (omega arith), tt)),
          ),
        )
      ]
    ]

abbrev char_at : ℕ → Bool → Bool → Text
char_at c stays and = elim stays [ true ↦ c ∷ [] | false ↦ elim and [ true ↦ codes "&amp;" | false ↦ flat_map percent (encode_utf8 c) ] ]

high : (c : ℕ) → 128 ≤ c → url_char c ≡ flat_map url_byte (encode_utf8 c)
unfolding url_char
high c h =
    ap (λ s. char_at c s (c == 38)) (stays_not c h)
    ∙ (ap (char_at c false) (ne_eqb c 38 (λ e. omega arith)) ∙ all_percented (encode_utf8 c) (high_bytes c h))

-- ---- all characters

low : (c : ℕ) → c < 128 → flat_map url_byte (encode_utf8 c) ≡ url_char c
unfolding url_byte
low c l = ap (flat_map url_byte) (one_byte c l) ∙ append-nil (url_byte c) ∙ rw (lt-ltb c 128 l) refl

char_by_bytes : (c : ℕ) → url_char c ≡ flat_map url_byte (encode_utf8 c)
char_by_bytes c = elim (cases_lt c 128) [ inl l ↦ sym (low c l) | inr g ↦ high c g ]

pub url_by_bytes : (text : Text) → url_escape text ≡ flat_map url_byte (encode_utf8_all text)
unfolding url_escape
url_by_bytes [] = refl
url_by_bytes (c ∷ rest) =
    ap (λ front. front ++ url_escape rest) (char_by_bytes c)
    ∙ (ap (λ more. flat_map url_byte (encode_utf8 c) ++ more) (url_by_bytes rest)
    ∙ sym (flat_map-append url_byte (encode_utf8 c) (encode_utf8_all rest)))

-- ---- as doc_page_encoding writes them

abbrev agrees : ℕ → Bool
agrees b = bytes_eq (destination_byte b) (url_byte b) && is_ascii (url_byte b)

byte_agrees : (b : ℕ) → b < 256 → agrees b ≡ true
unfolding url_byte url_char percent percent_encode_byte encode_utf8
byte_agrees b small = agree_below_at agrees (λ _. true) 256 b refl small

bytes_agree : (dest : List ℕ) → IsBytes dest → flat_map destination_byte dest ≡ flat_map url_byte dest
bytes_agree [] small = refl
bytes_agree (b ∷ dest) small =
    let here = and_parts (bytes_eq (destination_byte b) (url_byte b)) (is_ascii (url_byte b)) (byte_agrees b (small 0 (omega arith))) in
    ap (λ front. front ++ flat_map destination_byte dest) ((bytes_eq-Decides (destination_byte b) (url_byte b)).0 here.0)
    ∙ ap (λ more. url_byte b ++ more) (bytes_agree dest (λ i within. small (suc i) (omega arith)))

bytes_are_ascii : (dest : List ℕ) → IsBytes dest → is_ascii (flat_map url_byte dest) ≡ true
bytes_are_ascii [] small = refl
bytes_are_ascii (b ∷ dest) small =
    let here = and_parts (bytes_eq (destination_byte b) (url_byte b)) (is_ascii (url_byte b)) (byte_agrees b (small 0 (omega arith))) in
    list_all-append (λ c. nat_lt c 128) (url_byte b) (flat_map url_byte dest)
    ∙ and_from (is_ascii (url_byte b)) (is_ascii (flat_map url_byte dest)) here.1
    (bytes_are_ascii dest (λ i within. small (suc i) (omega arith)))

pub url_characters : (url dest : List ℕ) → IsUtf8 dest → IsBytes dest → url ≡ escaped (destination dest)
    → chars url ≡ url_escape (chars dest)
url_characters url dest u small e =
    ap chars (e ∙ destinations_by_bytes dest ∙ bytes_agree dest small)
    ∙ ascii_chars (flat_map url_byte dest) (bytes_are_ascii dest small)
    ∙ ap (flat_map url_byte) (sym (encodes-chars dest u)) ∙ sym (url_by_bytes (chars dest))

pub url_written : (dest : List ℕ) → IsBytes dest → escaped (destination dest) ≡ encode_utf8_all (flat_map url_byte dest)
url_written dest small =
    destinations_by_bytes dest
    ∙ (bytes_agree dest small ∙ sym (ascii_bytes (flat_map url_byte dest) (bytes_are_ascii dest small)))

-- ---- plain links

pub plain_alike : ShowsAlike plain_shown plain_linker
unfolding plain_shown plain_linker encoded_shown
plain_alike dest = ap (λ u. Href (encode_utf8_all u)) (sym (url_by_bytes dest))

pub plain_told : (rules : Rules) (text : Text) → html_of rules plain_linker [] (document_of rules text) ≡ rendered_plain rules text
unfolding rendered_plain
plain_told rules text = refl
