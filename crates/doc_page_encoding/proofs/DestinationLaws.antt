-- A destination in HTML, byte by byte.
use Rattle.std.proofs.Common.{◌≡◌, ℕ, lit<, ◌==◌, Bool, true, false, not, cond, [], ◌∷◌, ◌++◌, codes, refl, sym, ap, ◌∙◌, arith, inl, inr}
use Rattle.std.specs.List.{flat_map}
use Rattle.std.proofs.lemmas.Bool.{cases_Bool}
use Rattle.std.proofs.lemmas.Bool.Decides.{nat_tests}
use Rattle.std.proofs.lemmas.List.{append-nil}
use Rattle.std.proofs.lemmas.List.Concat.{flat_map-append}
use Rattle.percent_encoding.specs.Percent.{percent_encode_byte}
use Rattle.percent_encoding.proofs.PercentLemmas.{All-percent_encode_byte, IsEscapeByte}
use Rattle.doc_page_parts.specs.Escaping.{escaped, escaped_byte}
use Rattle.doc_page_encoding.specs.Encoding.{encoded_byte, is_kept, destination}
use Rattle.doc_page_encoding.specs.Laws.{DestinationsByBytes, destination_byte}

-- a byte that no escape touches
plain_byte : (b : ℕ) → (b == 38) ≡ false → (b == 60) ≡ false → (b == 62) ≡ false → (b == 34) ≡ false → escaped_byte b ≡ b ∷ []
plain_byte b amp less greater quote = rw (amp, less, greater, quote) refl

-- `%` and the digits of an encoded byte
hex_stays : (b : ℕ) → IsEscapeByte b → escaped_byte b ≡ b ∷ []
hex_stays b (inl e) = plain_byte b (grind (arith, nat_tests)) (grind (arith, nat_tests)) (grind (arith, nat_tests))
    (grind (arith, nat_tests))
hex_stays b (inr (inl e)) =
    plain_byte b (grind (arith, nat_tests)) (grind (arith, nat_tests)) (grind (arith, nat_tests)) (grind (arith, nat_tests))
hex_stays b (inr (inr e)) =
    plain_byte b (grind (arith, nat_tests)) (grind (arith, nat_tests)) (grind (arith, nat_tests)) (grind (arith, nat_tests))

three_stay : (x y z : ℕ) → escaped_byte x ≡ x ∷ [] → escaped_byte y ≡ y ∷ [] → escaped_byte z ≡ z ∷ []
    → flat_map escaped_byte (x ∷ y ∷ z ∷ []) ≡ x ∷ y ∷ z ∷ []
three_stay x y z a b c = rw (a, b, c) refl

encoded_stays : (b : ℕ) → flat_map escaped_byte (percent_encode_byte b) ≡ percent_encode_byte b
unfolding percent_encode_byte
encoded_stays b =
    let hex = All-percent_encode_byte b in
    three_stay 37 _ _ refl (hex_stays _ (hex 1 0 (lit< tt))) (hex_stays _ (hex 2 0 (lit< tt)))

-- two bytes of which one is kept and one isn't
differ : (b c : ℕ) (kept : Bool) → is_kept b ≡ kept → is_kept c ≡ not kept → (b == c) ≡ false
differ b c kept one other =
    elim (cases_Bool (b == c)) [
      | inl e ↦
          let same : b ≡ c = grind (arith, nat_tests) in
          let both : kept ≡ not kept = sym one ∙ ap is_kept same ∙ other in
          absurd (never kept both)
      | inr e ↦ e
    ]
  where
    never : (b : Bool) → b ≡ not b → ⊥
    never true e = absurd (cc)
    never false e = absurd (cc)

kept_escaped : (b : ℕ) → is_kept b ≡ true → escaped_byte b ≡ cond (b == 38) (codes "&amp;") (b ∷ [])
kept_escaped b kept = rw (differ b 60 true kept refl, differ b 62 true kept refl, differ b 34 true kept refl) refl

-- one byte
escaped_here : (b : ℕ) → flat_map escaped_byte (encoded_byte is_kept b) ≡ destination_byte b
escaped_here b =
    elim (cases_Bool (is_kept b)) [
      | inl kept ↦
          ap (λ v. flat_map escaped_byte (cond v (b ∷ []) (percent_encode_byte b))) kept
          ∙ append-nil (escaped_byte b)
          ∙ kept_escaped b kept
          ∙ sym (ap (λ v. cond (b == 38) (codes "&amp;") (cond v (b ∷ []) (percent_encode_byte b))) kept)
      | inr other ↦
          ap (λ v. flat_map escaped_byte (cond v (b ∷ []) (percent_encode_byte b))) other
          ∙ encoded_stays b
          ∙ sym (ap (λ v. cond v (codes "&amp;") (encoded_byte is_kept b)) (differ b 38 false other refl)
          ∙ ap (λ v. cond v (b ∷ []) (percent_encode_byte b)) other)
    ]

pub destinations_by_bytes : DestinationsByBytes
unfolding escaped destination
destinations_by_bytes [] = refl
destinations_by_bytes (b ∷ dest) =
    let more = flat_map (encoded_byte is_kept) dest in
    flat_map-append escaped_byte (encoded_byte is_kept b) more
    ∙ ap (λ t. t ++ flat_map escaped_byte more) (escaped_here b)
    ∙ ap (λ t. destination_byte b ++ t) (destinations_by_bytes dest)
