-- Names as they are hashed.
use Rattle.std.proofs.Common.{◌≡◌, List, ℕ, [], ◌∷◌, ◌++◌, sym, ap, subst, ◌∙◌, append_assoc, append-nil}
use Rattle.std.specs.List.{flat_map}
use Rattle.doc_store_tags.specs.Tags.{names_text}

-- joined names are the first, and each other behind a comma
pub joined : (first : List ℕ) (others : List (List ℕ)) → names_text (first ∷ others) ≡ first ++ flat_map (λ name. 44 ∷ name) others
joined first [] = sym (append-nil first)
joined first (other ∷ others) = ap (λ l. first ++ 44 ∷ l) (joined other others)

-- what holds of a text with the first name, and then the others behind it, holds of the text with all of them
pub all_names : (P : List ℕ → Type 0) (before bytes first : List ℕ) (names others : List (List ℕ)) → names ≡ first ∷ others → bytes ≡ first
    → P ((before ++ bytes) ++ flat_map (λ name. 44 ∷ name) others) → P (before ++ names_text names)
all_names P before bytes first names others are same holds =
    let whole : (before ++ bytes) ++ flat_map (λ name. 44 ∷ name) others ≡ before ++ names_text names
    = append_assoc before bytes (flat_map (λ name. 44 ∷ name) others)
    ∙ ap (λ b. before ++ (b ++ flat_map (λ name. 44 ∷ name) others)) same
    ∙ ap (λ l. before ++ l) (sym (joined first others))
    ∙ ap (λ l. before ++ names_text l) (sym are) in
    subst P whole holds
