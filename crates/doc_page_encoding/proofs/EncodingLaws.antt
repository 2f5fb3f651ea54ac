-- Percent-encoding a path, segment by segment and as a whole.
use Rattle.std.proofs.Common.{◌≡◌, ℕ, suc, ◌<◌, lit<, ◌==◌, not, ◌||◌, Bool, false, cond, List, [], ◌∷◌, ◌++◌, length, get_or, map, refl}
use Rattle.std.proofs.Common.{sym, ap, ◌∙◌, arith, inl, inr}
use Rattle.std.specs.List.{onto_first, join_with_byte, flat_map}
use Rattle.std.proofs.lemmas.Bool.{agree_below_at, cases_Bool, cond_both}
use Rattle.std.proofs.lemmas.Bool.Decides.{nat_tests}
use Rattle.std.proofs.lemmas.List.Splits.{slice_split-cons_yes, slice_split-cons_no, length-slice_split, join_with_byte-slice_split}
use Rattle.percent_encoding.specs.declared.ascii_set.AsciiSet.{AsciiSet}
use Rattle.percent_encoding.specs.AsciiSet.{should_percent_encode}
use Rattle.percent_encoding.specs.Percent.{percent_encode, percent_encode_byte}
use Rattle.percent_encoding.proofs.PercentLemmas.{percent_encode-nil, percent_encode_escaped, percent_encode_kept, All-percent_encode_byte}
use Rattle.percent_encoding.proofs.PercentLemmas.{IsEscapeByte}
use Rattle.doc_page_parts.specs.Paths.{segments}
use Rattle.doc_page_encoding.specs.Encoding.{encoded_byte, is_unreserved, is_kept, encoded, encoded_path, destination}
use Rattle.doc_page_encoding.specs.Laws.{PathsBySegments}
use Rattle.doc_page_encoding.specs.declared.encoding.TheConstants.{SEGMENT, PATH, DESTINATION}

-- the sets of the code
in_segment : (b : ℕ) → b < 256 → should_percent_encode SEGMENT b ≡ not (is_unreserved b)
unfolding should_percent_encode
in_segment b small = agree_below_at (should_percent_encode SEGMENT) (λ x. not (is_unreserved x)) 256 b refl small

in_path : (b : ℕ) → b < 256 → should_percent_encode PATH b ≡ not (b == 47 || is_unreserved b)
unfolding should_percent_encode
in_path b small = agree_below_at (should_percent_encode PATH) (λ x. not (x == 47 || is_unreserved x)) 256 b refl small

in_destination : (b : ℕ) → b < 256 → should_percent_encode DESTINATION b ≡ not (is_kept b)
unfolding should_percent_encode
in_destination b small = agree_below_at (should_percent_encode DESTINATION) (λ x. not (is_kept x)) 256 b refl small

-- each byte of the text is one
abbrev pub IsBytes : List ℕ → Type 0
IsBytes text = (i : ℕ) → i < length text → get_or text i 0 < 256

is_bytes-rest : (b : ℕ) (text : List ℕ) → IsBytes (b ∷ text) → IsBytes text
is_bytes-rest b text small i within = small (suc i) (omega arith)

-- a byte, encoded
abbrev in_uri : ℕ → List ℕ
in_uri b = cond (is_unreserved b) (b ∷ []) (percent_encode_byte b)

encoded-first : (b : ℕ) (text : List ℕ) → encoded (b ∷ text) ≡ in_uri b ++ encoded text
unfolding encoded
encoded-first b text = refl

encoded-nil : encoded [] ≡ []
unfolding encoded
encoded-nil = refl

-- a text, encoded byte by byte but for those that are kept
abbrev encoded_but : (ℕ → Bool) → List ℕ → List ℕ
encoded_but kept text = flat_map (encoded_byte kept) text

by_set : (set : AsciiSet) (kept : ℕ → Bool) → ((b : ℕ) → b < 256 → should_percent_encode set b ≡ not (kept b)) → (text : List ℕ)
    → IsBytes text → percent_encode set text ≡ encoded_but kept text
by_set set kept law [] small = percent_encode-nil set
by_set set kept law (b ∷ text) small =
    let here = law b (small 0 (omega arith)) in
    let rest = by_set set kept law text (is_bytes-rest b text small) in
    let more = encoded_but kept text in
    elim (cases_Bool (kept b)) [
      | inl is ↦
          percent_encode_kept set b text (here ∙ ap not is)
          ∙ ap (λ r. b ∷ r) rest
          ∙ sym (ap (λ v. cond v (b ∷ []) (percent_encode_byte b) ++ more) is)
      | inr is ↦
          percent_encode_escaped set b text (here ∙ ap not is)
          ∙ ap (λ r. percent_encode_byte b ++ r) rest
          ∙ sym (ap (λ v. cond v (b ∷ []) (percent_encode_byte b) ++ more) is)
    ]

-- by the set of a segment, and by that of a destination
pub encoded-by_set : (text : List ℕ) → IsBytes text → percent_encode SEGMENT text ≡ encoded text
unfolding encoded
encoded-by_set text small = by_set SEGMENT is_unreserved in_segment text small

pub destination-by_set : (text : List ℕ) → IsBytes text → percent_encode DESTINATION text ≡ destination text
unfolding destination
destination-by_set text small = by_set DESTINATION is_kept in_destination text small

-- the parts of a text that begins with these bytes, none of which is `/`
abbrev onto_all : List ℕ → List (List ℕ) → List (List ℕ)
onto_all [] parts = parts
onto_all (b ∷ bytes) parts = onto_first b (onto_all bytes parts)

-- none of the bytes is `/`
abbrev NoSlash : List ℕ → Type 0
NoSlash [] = Unit {0}
NoSlash (b ∷ bytes) = ((b == 47) ≡ false) × NoSlash bytes

segments-onto : (bytes text : List ℕ) → NoSlash bytes → segments (bytes ++ text) ≡ onto_all bytes (segments text)
segments-onto [] text none = refl
segments-onto (b ∷ bytes) text none =
    slice_split-cons_no (λ c. c == 47) b (bytes ++ text) none.0 ∙ ap (onto_first b) (segments-onto bytes text none.1)

hex_no_slash : (b : ℕ) → IsEscapeByte b → (b == 47) ≡ false
hex_no_slash b (inl e) = grind (arith, nat_tests)
hex_no_slash b (inr (inl e)) = grind (arith, nat_tests)
hex_no_slash b (inr (inr e)) = grind (arith, nat_tests)

escape_no_slash : (b : ℕ) → NoSlash (percent_encode_byte b)
unfolding percent_encode_byte
escape_no_slash b =
    let hex = All-percent_encode_byte b in
    (refl, (hex_no_slash _ (hex 1 0 (lit< tt)), (hex_no_slash _ (hex 2 0 (lit< tt)), tt)))

in_uri_no_slash : (b : ℕ) → (b == 47) ≡ false → NoSlash (in_uri b)
in_uri_no_slash b other =
    cond_both (is_unreserved b) (b ∷ []) (percent_encode_byte b) NoSlash (λ _. (other, tt)) (λ _. escape_no_slash b)

onto_all-cons : (bytes part : List ℕ) (parts : List (List ℕ)) → onto_all bytes (part ∷ parts) ≡ (bytes ++ part) ∷ parts
onto_all-cons [] part parts = refl
onto_all-cons (b ∷ bytes) part parts = ap (onto_first b) (onto_all-cons bytes part parts)

encoded-onto : (b : ℕ) (parts : List (List ℕ)) → 0 < length parts
    → map encoded (onto_first b parts) ≡ onto_all (in_uri b) (map encoded parts)
encoded-onto b [] some = absurd (omega arith)
encoded-onto b (part ∷ parts) some =
    ap (λ p. p ∷ map encoded parts) (encoded-first b part) ∙ sym (onto_all-cons (in_uri b) (encoded part) (map encoded parts))

-- a path, encoded byte by byte, but for each `/`
abbrev whole : List ℕ → List ℕ
whole text = encoded_but (λ b. b == 47 || is_unreserved b) text

segments-whole : (text : List ℕ) → segments (whole text) ≡ map encoded (segments text)
segments-whole [] = sym (ap (λ t. t ∷ []) encoded-nil)
segments-whole (b ∷ text) =
    elim (cases_Bool (b == 47)) [
      | inl slash ↦
          ap (λ v. segments (cond (v || is_unreserved b) (b ∷ []) (percent_encode_byte b) ++ whole text)) slash
          ∙ slice_split-cons_yes (λ c. c == 47) b (whole text) slash
          ∙ ap (λ parts. [] ∷ parts) (segments-whole text)
          ∙ ap (λ t. t ∷ map encoded (segments text)) (sym encoded-nil)
          ∙ sym (ap (map encoded) (slice_split-cons_yes (λ c. c == 47) b text slash))
      | inr other ↦
          let parts = length-slice_split (λ c. c == 47) text in
          ap (λ v. segments (cond (v || is_unreserved b) (b ∷ []) (percent_encode_byte b) ++ whole text)) other
          ∙ segments-onto (in_uri b) (whole text) (in_uri_no_slash b other)
          ∙ ap (onto_all (in_uri b)) (segments-whole text)
          ∙ sym (ap (map encoded) (slice_split-cons_no (λ c. c == 47) b text other) ∙ encoded-onto b (segments text) (omega arith))
    ]

encoded_path-whole : (text : List ℕ) → encoded_path text ≡ whole text
unfolding encoded_path
encoded_path-whole text = ap (join_with_byte 47) (sym (segments-whole text)) ∙ join_with_byte-slice_split 47 (whole text)

-- the segments of an encoded path are the path's, encoded
pub paths_by_segments : PathsBySegments
paths_by_segments text = ap segments (encoded_path-whole text) ∙ segments-whole text

-- by the set of a path
pub encoded_path-by_set : (text : List ℕ) → IsBytes text → percent_encode PATH text ≡ encoded_path text
encoded_path-by_set text small = by_set PATH (λ b. b == 47 || is_unreserved b) in_path text small ∙ sym (encoded_path-whole text)
