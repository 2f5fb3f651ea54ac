-- Steps over the elements of a list.
use Rattle.std.proofs.Common.{◌≡◌, ℕ, List, ◌∷◌, Bool, true, false, refl, ◌∙◌}
use Rattle.std.proofs.lemmas.List.Folds.{list_any-append}
use Rattle.std.specs.List.{list_all, flat_map}
use Rattle.doc_http_conditions.specs.declared.comparison.Comparison.{Comparison}
use Rattle.doc_http_conditions.specs.EntityTags.{is_same, strong_tag}
use Rattle.doc_http_conditions.specs.Lists.{has_tag, tags_of_element}

pub all_here : {X : Type 0} (p : X → Bool) (x : X) (xs : List X) → p x ≡ false → list_all p (x ∷ xs) ≡ false
all_here p x xs e = rw e refl

pub all_on : {X : Type 0} (p : X → Bool) (x : X) (xs : List X) → p x ≡ true → list_all p (x ∷ xs) ≡ list_all p xs
all_on p x xs e = rw e refl

-- where the first element has the tag
pub tag_here : (comparison : Comparison) (stands element : List ℕ) (rest : List (List ℕ))
    → has_tag comparison stands (tags_of_element element)
    ≡ true → has_tag comparison stands (flat_map tags_of_element (element ∷ rest)) ≡ true
tag_here comparison stands element rest e =
    list_any-append (λ tag. is_same comparison tag (strong_tag stands)) (tags_of_element element)
    (flat_map tags_of_element rest) ∙ rw e refl

-- where it has not
pub tag_on : (comparison : Comparison) (stands element : List ℕ) (rest : List (List ℕ))
    → has_tag comparison stands (tags_of_element element) ≡ false
    → has_tag comparison stands (flat_map tags_of_element (element ∷ rest)) ≡ has_tag comparison stands (flat_map tags_of_element rest)
tag_on comparison stands element rest e =
    list_any-append (λ tag. is_same comparison tag (strong_tag stands)) (tags_of_element element)
    (flat_map tags_of_element rest) ∙ rw e refl
