-- From bytes to characters: where no byte of a text is a backtick, no character is one.
use Rattle.std.proofs.Common.{◌≡◌, ◌≢◌, ℕ, suc, ◌+◌, ◌<◌, Bool, true, false, not, ◌&&◌, ◌==◌, List, [], ◌∷◌, ◌++◌, length, take, drop}
use Rattle.std.proofs.Common.{get_or, chars, refl, ap, sym, ◌∙◌, subst, arith, length-append, eqb-true, Some}
use Rattle.std.specs.Prelude.{encode_utf8, encode_utf8_all}
use Rattle.std.specs.Str.{IsUtf8, NoCharPasses, IsCharBoundary}
use Rattle.std.specs.List.{list_all}
use Rattle.std.specs.Str.Pattern.{FindsChar}
use Rattle.std.proofs.lemmas.Str.{encode_ascii, encodes-chars, chars-append, chars-nil, chars_past_char, byte_from_char, IsUtf8-take}
use Rattle.std.proofs.lemmas.Str.Pattern.{NoCharPasses-char, drop_at_char}
use Rattle.std.proofs.lemmas.List.{append-nil, take-append-drop, get_or-append-add}
use Rattle.doc_rules.specs.Characters.{Text}
use Rattle.doc_rules.specs.Parsers.{run_length}
use Rattle.doc_inlines_marks.specs.RunSteps.{IsPlain, IsToRun}
use Rattle.doc_inlines_marks.proofs.Sizes.{grows}

-- no byte is a backtick
abbrev HasNone : List ℕ → Type 0
HasNone bytes = (i : ℕ) → i < length bytes → get_or bytes i 0 ≢ 96

bytes_plain : (cs : Text) → HasNone (encode_utf8_all cs) → IsPlain cs
bytes_plain [] h = refl
bytes_plain (c ∷ cs) h = at (bytes_plain cs (λ i l. behind i l)) (c == 96) refl
  where
    behind : HasNone (encode_utf8_all cs)
    behind i l =
        let e : length (encode_utf8 c ++ encode_utf8_all cs) ≡ length (encode_utf8 c) + length (encode_utf8_all cs) = length-append
        (encode_utf8 c) (encode_utf8_all cs) in
        let f : get_or (encode_utf8 c ++ encode_utf8_all cs) (length (encode_utf8 c) + i) 0
        ≡ get_or (encode_utf8_all cs) i 0 = get_or-append-add (encode_utf8 c) (encode_utf8_all cs) i 0 in
        λ g. h (length (encode_utf8 c) + i) (omega arith) (f ∙ g)

    at : IsPlain cs → (b : Bool) → (c == 96) ≡ b → (not b && list_all (λ d. not (d == 96)) cs) ≡ true
    at again false e = again
    at again true e =
        let same : c ≡ 96 = eqb-true c 96 e in
        let l : 0 < length (encode_utf8_all (c ∷ cs)) = (let g = grows c [] cs in omega arith) in
        let f : get_or (encode_utf8_all (c ∷ cs)) 0 0 ≡ c = byte_from_char (encode_utf8_all (c ∷ cs)) (encode_utf8_all cs) c refl
        (omega arith) in
        absurd (h 0 l (f ∙ same))

plain_chars : (bytes : List ℕ) → IsUtf8 bytes → NoCharPasses (λ d. d == 96) bytes → IsPlain (chars bytes)
plain_chars bytes u h = bytes_plain (chars bytes) (subst HasNone (sym (encodes-chars bytes u))
    (λ i l. NoCharPasses-char 96 bytes i h (omega arith) l))

-- the text has no backtick
pub nowhere_to_run : (text : List ℕ) → IsUtf8 text → NoCharPasses (λ d. d == 96) text → IsToRun (chars []) (chars text)
nowhere_to_run text u h = record {
  gap = chars text;
  split = sym (ap (λ t. chars text ++ t) chars-nil ∙ append-nil (chars text));
  plain = plain_chars text u h;
  stops = λ e. chars-nil;
}

begins : (rest : Text) (more : Text) → rest ≡ 96 ∷ more → run_length 96 rest ≡ 0 → rest ≡ []
unfolding run_length
begins rest more e h = let f : run_length 96 rest ≡ suc (run_length 96 more) = ap (run_length 96) e in absurd (omega arith)

-- its first backtick stands at this byte
pub run_at_place : (text rest : List ℕ) (place j : ℕ) → IsUtf8 text → IsUtf8 rest → rest ≡ drop place text
    → FindsChar 96 text (Some (place, j)) → IsCharBoundary text place → IsToRun (chars rest) (chars text)
run_at_place text rest place j u v e found bound =
    let at : drop place text ≡ 96 ∷ drop j text = drop_at_char 96 text place j found.1 (omega arith) in
    let w : IsUtf8 (take place text) = IsUtf8-take text place u bound in
    let joins : text ≡ take place text ++ rest = sym (take-append-drop place text) ∙ ap (λ t. take place text ++ t) (sym e) in record {
      gap = chars (take place text);
      split = ap chars joins ∙ chars-append (take place text) rest w;
      plain = plain_chars (take place text) w found.0;
      stops = begins (chars rest) (chars (drop j text)) (chars_past_char rest (drop j text) 96 v (e
          ∙ (at ∙ ap (λ t. t ++ drop j text) (sym (encode_ascii 96 (omega arith))))));
    }
