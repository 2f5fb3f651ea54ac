-- What a loop has written behind one more piece.
use Rattle.std.proofs.Common.{◌≡◌, ◌<◌, ℕ, ◌+◌, List, [], ◌∷◌, ◌++◌, length, take, get_or, sym, ap, ◌∙◌}
use Rattle.std.specs.List.{flat_map}
use Rattle.std.proofs.lemmas.List.{append-nil, append_assoc, take_more}
use Rattle.std.proofs.lemmas.Grind.{flat_map-append}

-- one more byte is written
pub one_more_byte : (f : ℕ → List ℕ) (xs : List ℕ) (i : ℕ) (front old new : List ℕ) → i < length xs
    → old ≡ front ++ flat_map f (take i xs) → new ≡ old ++ f (get_or xs i 0) → new ≡ front ++ flat_map f (take (i + 1) xs)
one_more_byte f xs i front old new within before more =
    more ∙ ap (λ l. l ++ f (get_or xs i 0)) before
    ∙ append_assoc front (flat_map f (take i xs)) (f (get_or xs i 0))
    ∙ ap (λ l. front ++ (flat_map f (take i xs) ++ l)) (sym (append-nil (f (get_or xs i 0))))
    ∙ ap (λ l. front ++ l) (sym (flat_map-append f (take i xs) (get_or xs i 0 ∷ [])))
    ∙ ap (λ l. front ++ flat_map f l) (sym (take_more xs i 0 within))
