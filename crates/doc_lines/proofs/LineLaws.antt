-- The lines of a text as bytes are its lines as characters.
use Rattle.std.proofs.Common.{◌≡◌, ℕ, ◌+◌, ◌/◌, ◌%◌, ◌<◌, ◌≤◌, Bool, true, false, cond, ltb, List, [], ◌∷◌, ◌++◌, map, length, chars, refl}
use Rattle.std.proofs.Common.{ap, sym, ◌∙◌, arith, inl, inr, ne_eqb}
use Rattle.std.specs.Prelude.{◌==◌, ◌&&◌, ◌||◌, not, if◌then◌else◌}
use Rattle.std.specs.Char.{IsScalar, encode_utf8}
use Rattle.std.specs.List.{onto_first}
use Rattle.std.specs.Str.{encode_utf8_all}
use Rattle.std.proofs.Math.Utf8.{scalar, scalars}
use Rattle.std.proofs.lemmas.Bool.{cases_lt}
use Rattle.std.proofs.lemmas.Bool.Decides.{nat_tests}
use Rattle.std.proofs.lemmas.Str.{chars-append, encode_ascii, encodes-chars, scalars-chars, IsUtf8-encode}
use Rattle.std.proofs.lemmas.Str.{length-encode, len_utf8_bounds}
use Rattle.doc_page_parts.specs.Lines as bytewise
use Rattle.doc_page_parts.proofs.LineSteps.{onto_front, onto_front-cons, onto_front_alone}
use Rattle.doc_rules.specs.Characters.{Text}
use Rattle.doc_rules.specs.Lines as rules
use Rattle.doc_lines.specs.Lines.{LinesAreLines}
use Rattle.doc_page_parts.proofs.Bools.{and_first, and_second}
use Rattle.doc_page_parts.proofs.Texts.{chars_encode}

-- ---- the bytes of a character

-- bytes that are no ASCII
abbrev AllHigh : List ℕ → Type 0
AllHigh [] = Unit {0}
AllHigh (b ∷ bs) = (128 ≤ b) × AllHigh bs

high_in : (x y : Bool) (a b c d e f g h i : ℕ)
    → AllHigh (cond x ((192 + a) ∷ (128 + b) ∷ []) (cond y ((224 + c) ∷ (128 + d) ∷ (128 + e) ∷ [])
    ((240 + f) ∷ (128 + g) ∷ (128 + h) ∷ (128 + i) ∷ [])))
high_in true y a b c d e f g h i = (omega arith, (omega arith, tt))
high_in false true a b c d e f g h i = (omega arith, (omega arith, (omega arith, tt)))
high_in false false a b c d e f g h i = (omega arith, (omega arith, (omega arith, (omega arith, tt))))

high_bytes : (c : ℕ) → ltb c 128 ≡ false → AllHigh (encode_utf8 c)
unfolding encode_utf8
high_bytes c h = rw h (high_in (ltb c 2048) (ltb c 65536) (c / 64) (c % 64) (c / 4096) (c / 64 % 64) (c % 64) (c / 262144) (c / 4096 % 64)
    (c / 64 % 64) (c % 64))

nonempty : (c : ℕ) → 0 < length (encode_utf8 c)
nonempty c = omega (arith, length-encode c, (len_utf8_bounds c).0)

chars_behind_char : (c : ℕ) (bs : List ℕ) → IsScalar c → chars (encode_utf8 c ++ bs) ≡ c ∷ chars bs
chars_behind_char c bs s = chars-append (encode_utf8 c) bs (IsUtf8-encode c s) ∙ ap (λ cs. cs ++ chars bs) (chars_encode c s)

-- ---- a character before the first line

chars_onto_front : (c : ℕ) (ls : List (List ℕ)) → IsScalar c → map chars (onto_front (encode_utf8 c) ls) ≡ rules.onto_first c (map chars ls)
unfolding rules.onto_first
chars_onto_front c [] s = ap (map chars) (onto_front_alone (encode_utf8 c) (nonempty c)) ∙ ap (λ line. line ∷ []) (chars_encode c s)
chars_onto_front c (l ∷ ls) s = ap (map chars) (onto_front-cons (encode_utf8 c) l ls)
    ∙ ap (λ line. line ∷ map chars ls) (chars_behind_char c l s)

-- ---- where a line ends

plain_step : (b : ℕ) (rest : List ℕ) → 128 ≤ b → bytewise.lines (b ∷ rest) ≡ onto_first b (bytewise.lines rest)
unfolding bytewise.lines
plain_step b rest h =
    let no_end : bytewise.ends_line b rest ≡ false = grind (arith, nat_tests) in
    rw no_end refl

behind_high : (bs rest : List ℕ) → AllHigh bs → bytewise.lines (bs ++ rest) ≡ onto_front bs (bytewise.lines rest)
behind_high [] rest high = refl
behind_high (b ∷ bs) rest high = plain_step b (bs ++ rest) high.0 ∙ ap (onto_first b) (behind_high bs rest high.1)

high_front : (bs rest : List ℕ) → AllHigh bs → 0 < length bs → bytewise.begins_with 10 (bs ++ rest) ≡ false
high_front [] rest high h = absurd (omega arith)
high_front (b ∷ bs) rest high h = ne_eqb b 10 (λ (e : b ≡ 10). let least : 128 ≤ b = high.0 in omega arith)

same_front : (d : ℕ) (ds : Text) → bytewise.begins_with 10 (encode_utf8_all (d ∷ ds)) ≡ (d == 10)
same_front d ds = elim (cases_lt d 128) [
  | inl ascii ↦ ap (λ bs. bytewise.begins_with 10 (bs ++ encode_utf8_all ds)) (encode_ascii d ascii)
  | inr high ↦ high_front (encode_utf8 d) (encode_utf8_all ds) (high_bytes d (grind (arith, nat_tests))) (nonempty d)
      ∙ sym (ne_eqb d 10 (λ (e : d ≡ 10). omega arith))
]

no_more : (b : Bool) → (b && not false) ≡ b
no_more true = refl
no_more false = refl

same_end : (c : ℕ) (cs : Text) → bytewise.ends_line c (encode_utf8_all cs) ≡ rules.ends_line c cs
unfolding rules.ends_line
same_end c [] = ap (λ b. (c == 10) || b) (no_more (c == 13))
same_end c (d ∷ ds) = ap (λ b. (c == 10) || ((c == 13) && not b)) (same_front d ds)

no_end : (c : ℕ) (cs : Text) → 128 ≤ c → rules.ends_line c cs ≡ false
unfolding rules.ends_line
no_end c [] high = grind (arith, nat_tests)
no_end c (d ∷ ds) high = grind (arith, nat_tests)

-- ---- the law

ascii_step : (c : ℕ) (cs : Text) (ls : List (List ℕ)) → IsScalar c → encode_utf8 c ≡ c ∷ [] → map chars ls ≡ rules.lines_of cs
    → (t : Bool) →
    map chars (if t then (c ∷ []) ∷ ls else onto_first c ls)
    ≡ elim t [ true ↦ (c ∷ []) ∷ rules.lines_of cs | false ↦ rules.onto_first c (rules.lines_of cs) ]
ascii_step c cs ls s one e true = ap (λ line. line ∷ map chars ls) (ap chars (sym one) ∙ chars_encode c s)
    ∙ ap (λ (more : List Text). (c ∷ []) ∷ more) e
ascii_step c cs ls s one e false =
    ap (λ (bs : List ℕ). map chars (onto_front bs ls)) (sym one) ∙ chars_onto_front c ls s ∙ ap (rules.onto_first c) e

plain_char : (c : ℕ) (cs : Text) → 128 ≤ c → rules.lines_of (c ∷ cs) ≡ rules.onto_first c (rules.lines_of cs)
unfolding rules.lines_of
plain_char c cs high = ap (λ (t : Bool). elim t [ true ↦ (c ∷ []) ∷ rules.lines_of cs | false ↦ rules.onto_first c (rules.lines_of cs) ])
    (no_end c cs high)

step : (c : ℕ) (cs : Text) → IsScalar c → map chars (bytewise.lines (encode_utf8_all cs)) ≡ rules.lines_of cs
    → map chars (bytewise.lines (encode_utf8_all (c ∷ cs))) ≡ rules.lines_of (c ∷ cs)
unfolding bytewise.lines rules.lines_of rules.ends_line
step c cs s e = elim (cases_lt c 128) [
  | inl ascii ↦
      ap (λ (bs : List ℕ). map chars (bytewise.lines (bs ++ encode_utf8_all cs))) (encode_ascii c ascii)
      ∙ ap (λ (t : Bool). map chars (if t then (c ∷ []) ∷ bytewise.lines (encode_utf8_all cs) else onto_first c
      (bytewise.lines (encode_utf8_all cs)))) (same_end c cs)
      ∙ ascii_step c cs (bytewise.lines (encode_utf8_all cs)) s (encode_ascii c ascii) e (rules.ends_line c cs)
  | inr high ↦
      ap (map chars) (behind_high (encode_utf8 c) (encode_utf8_all cs) (high_bytes c (grind (arith, nat_tests))))
      ∙ chars_onto_front c (bytewise.lines (encode_utf8_all cs)) s
      ∙ ap (rules.onto_first c) e
      ∙ sym (plain_char c cs high)
]

all_steps : (cs : Text) → scalars cs ≡ true → map chars (bytewise.lines (encode_utf8_all cs)) ≡ rules.lines_of cs
unfolding bytewise.lines rules.lines_of
all_steps [] s = refl
all_steps (c ∷ cs) s = step c cs (and_first (scalar c) (scalars cs) s) (all_steps cs (and_second (scalar c) (scalars cs) s))

pub lines_are_lines : LinesAreLines
lines_are_lines text utf8 = ap (λ bs. map chars (bytewise.lines bs)) (sym (encodes-chars text utf8))
    ∙ all_steps (chars text) (scalars-chars text utf8)
