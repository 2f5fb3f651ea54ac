-- Texts without the characters of a class at their ends, one character after the other.
use Rattle.std.proofs.Common.{◌≡◌, ℕ, Bool, true, false, ◌&&◌, [], ◌∷◌, ◌++◌, refl, ap, ◌∙◌, Some}
use Rattle.std.specs.List.{list_all}
use Rattle.std.proofs.lemmas.List.Folds.{list_all-append}
use Rattle.doc_rules.specs.Characters.{Text, strip_front, strip_end}
use Rattle.doc_rules.specs.Parsers.{many}
use Rattle.doc_rules.proofs.ParserLaws.{many_strip_front}

-- ---- at the end

and_true : (a b : Bool) → b ≡ true → (a && (b && true)) ≡ a
and_true true b e = ap (λ x. x && true) e
and_true false b e = refl

and_false : (a b : Bool) → b ≡ false → (a && (b && true)) ≡ false
and_false true b e = ap (λ x. x && true) e
and_false false b e = refl

cut : Bool → ℕ → Text → Text
cut b d rest = elim b [ true ↦ [] | false ↦ d ∷ rest ]

pub end_stays : (class : ℕ → Bool) (front : Text) (c : ℕ) → class c ≡ false → strip_end class (front ++ (c ∷ [])) ≡ front ++ (c ∷ [])
unfolding strip_end cut
end_stays class [] c e = ap (λ b. cut (b && true) c []) e
end_stays class (d ∷ front) c e =
    ap (λ b. cut b d (strip_end class (front ++ (c ∷ [])))) (list_all-append class (d ∷ front) (c ∷ [])
    ∙ and_false (list_all class (d ∷ front)) (class c) e)
    ∙ ap (λ rest. d ∷ rest) (end_stays class front c e)

pub end_goes : (class : ℕ → Bool) (front : Text) (c : ℕ) → class c ≡ true → strip_end class (front ++ (c ∷ [])) ≡ strip_end class front
unfolding strip_end cut
end_goes class [] c e = ap (λ b. cut (b && true) c []) e
end_goes class (d ∷ front) c e =
    ap (λ b. cut b d (strip_end class (front ++ (c ∷ [])))) (list_all-append class (d ∷ front) (c ∷ [])
    ∙ and_true (list_all class (d ∷ front)) (class c) e)
    ∙ ap (λ rest. cut (list_all class (d ∷ front)) d rest) (end_goes class front c e)

-- ---- at the front

pub front_goes : (class : ℕ → Bool) (text rest : Text) → Some rest ≡ many class text → rest ≡ strip_front class text
front_goes class text rest e = let same : Some rest ≡ Some (strip_front class text) = e ∙ many_strip_front class text in cc
