-- Steps of the proofs on paths as texts.
use Rattle.std.proofs.Common.{◌≡◌, ℕ, List, [], ◌∷◌, ◌++◌, length, sym, ap, ◌∙◌, arith, Bor}
use Rattle.std.specs.List.{flat_map, join_with_byte}
use Rattle.std.proofs.lemmas.List.{append-nil, append_assoc}
use Rattle.doc_resolve.proofs.DotSteps.{texts}

-- joining is the first segment, and each other one after a `/`
joined : (x : List ℕ) (xs : List (List ℕ)) → join_with_byte 47 (x ∷ xs) ≡ x ++ flat_map (λ s. 47 ∷ s) xs
joined x [] = sym (append-nil x)
joined x (y ∷ xs) = ap (λ rest. x ++ 47 ∷ rest) (joined y xs)

pub joined-none : (path : List (Bor (List ℕ))) (out : List ℕ) → length path ≡ 0 → out ≡ out ++ join_with_byte 47 (texts path)
joined-none [] out none = sym (append-nil out)
joined-none (s ∷ path) out none = absurd (omega arith)

pub joined-some : (path : List (Bor (List ℕ))) (first : Bor (List ℕ)) (others : List (Bor (List ℕ))) (out with_first new : List ℕ)
    → path ≡ first ∷ others → with_first ≡ out ++ first.now → new ≡ with_first ++ flat_map (λ s. 47 ∷ s) (texts others)
    → new ≡ out ++ join_with_byte 47 (texts path)
joined-some path first others out with_first new is front rest =
    let more = flat_map (λ s. 47 ∷ s) (texts others) in
    rest
    ∙ ap (λ t. t ++ more) front
    ∙ append_assoc out first.now more
    ∙ ap (λ t. out ++ t) (sym (joined first.now (texts others)) ∙ sym (ap (λ p. join_with_byte 47 (texts p)) is))
