-- What a test decides, and a text by its first character.
use Rattle.std.proofs.Common.{◌≡◌, ℕ, Bool, true, false, List, ◌∷◌, refl, ap, sym, ◌∙◌}

pub by_false : {A : Type 0} (b : Bool) (x y : A) → b ≡ false → elim b [ false ↦ x | true ↦ y ] ≡ x
by_false true x y e = absurd cc
by_false false x y e = refl

pub at_front : {A : Type 0} (one other : List ℕ → A) (text rest : List ℕ) (first k : ℕ) → text ≡ first ∷ rest → first ≡ k
    → one (k ∷ rest) ≡ other (k ∷ rest) → one text ≡ other text
at_front one other text rest first k e f h =
    let same : text ≡ k ∷ rest = e ∙ ap (λ c. c ∷ rest) f in
    ap one same ∙ (h ∙ sym (ap other same))
