-- How many backticks stand at the front of a text, as the code counts them.
use Rattle.std.proofs.Common.{◌≡◌, ℕ, zero, suc, ◌-◌, Bool, true, false, ◌==◌, List, [], ◌∷◌, ◌++◌, replicate, length, drop, chars, refl}
use Rattle.std.proofs.Common.{ap, sym, ◌∙◌, Some, arith}
use Rattle.std.specs.Str.{IsUtf8, encode_utf8_all}
use Rattle.std.proofs.lemmas.Str.{encode_ascii}
use Rattle.doc_rules.specs.Characters.{Text}
use Rattle.doc_rules.specs.Parsers.{many, run_length}
use Rattle.doc_lines.proofs.Slices.{seam}
use Rattle.doc_inlines_marks.proofs.RunLaws.{run_split}

many_run : (text : Text) → many (λ d. 96 == d) text ≡ Some (drop (run_length 96 text) text)
unfolding many run_length
many_run [] = refl
many_run (c ∷ rest) = at (many_run rest) (96 == c)
  where
    at : many (λ d. 96 == d) rest ≡ Some (drop (run_length 96 rest) rest) → (b : Bool)
        → (elim b [ true ↦ many (λ d. 96 == d) rest | false ↦ Some (c ∷ rest) ])
        ≡ Some (drop (elim b [ true ↦ suc (run_length 96 rest) | false ↦ zero ]) (c ∷ rest))
    at again true = again
    at again false = refl

pub behind_all : (text rest : Text) → Some rest ≡ many (λ d. 96 == d) text → rest ≡ drop (run_length 96 text) text
behind_all text rest e = let f : Some rest ≡ Some (drop (run_length 96 text) text) = e ∙ many_run text in cc

abbrev ticks : ℕ → Text
ticks k = replicate k 96

bytes_of_run : (k : ℕ) → length (encode_utf8_all (ticks k)) ≡ k
bytes_of_run zero = refl
bytes_of_run (suc k) = ap (λ t. length (t ++ encode_utf8_all (ticks k))) (encode_ascii 96 (omega arith)) ∙ ap suc (bytes_of_run k)

pub bytes_taken : (text rest : List ℕ) → Some (chars rest) ≡ many (λ d. 96 == d) (chars text) → IsUtf8 text → IsUtf8 rest
    → length text - length rest ≡ run_length 96 (chars text)
bytes_taken text rest e u v =
    let n : ℕ = run_length 96 (chars text) in
    let split : chars text ≡ ticks n ++ chars rest = run_split (chars text)
    ∙ ap (λ t. ticks n ++ t) (sym (behind_all (chars text) (chars rest) e)) in
    seam text rest (record { front = ticks n; split = split }) u v ∙ bytes_of_run n
