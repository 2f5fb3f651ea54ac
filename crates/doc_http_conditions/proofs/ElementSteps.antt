-- Steps over the bytes of an element.
use Rattle.std.proofs.Common.{◌≡◌, ℕ, ◌+◌, ◌<◌, ◌≤◌, List, [], ◌∷◌, length, take, drop, get_or, true, false, Bool, cond, refl, ap, sym}
use Rattle.std.proofs.Common.{◌∙◌}
use Rattle.std.specs.List.{onto_first}
use Rattle.std.proofs.lemmas.List.{append-nil, take_more, drop_more, take_all, drop_all}
use Rattle.doc_page_parts.proofs.LineSteps.{onto_front, onto_front-cons, onto_front-push}
use Rattle.doc_http_conditions.specs.Lists.{elements, cuts, quoted_behind}

pub elements-cons : (quoted : Bool) (b : ℕ) (rest : List ℕ) → elements quoted (b ∷ rest)
    ≡ cond (cuts b quoted) ([] ∷ elements false rest) (onto_first b (elements (quoted_behind b quoted) rest))
unfolding elements
elements-cons quoted b rest = refl

-- the elements from a place on, where the byte there cuts none
pub elements_pass : (bs : List ℕ) (i : ℕ) (quoted : Bool) → i < length bs → cuts (get_or bs i 0) quoted ≡ false
    → elements false bs ≡ onto_front (take i bs) (elements quoted (drop i bs))
    → elements false bs ≡ onto_front (take (i + 1) bs) (elements (quoted_behind (get_or bs i 0) quoted) (drop (i + 1) bs))
elements_pass bs i quoted h passes so_far =
    let b = get_or bs i 0 in
    let rest = elements (quoted_behind b quoted) (drop (i + 1) bs) in
    so_far
    ∙ ap (λ s. onto_front (take i bs) (elements quoted s)) (drop_more bs i 0 h)
    ∙ ap (onto_front (take i bs)) (elements-cons quoted b (drop (i + 1) bs) ∙ rw passes refl)
    ∙ sym (onto_front-push (take i bs) b rest)
    ∙ sym (ap (λ s. onto_front s rest) (take_more bs i 0 h))

-- where it cuts one
pub elements_cut : (bs : List ℕ) (i : ℕ) (quoted : Bool) → i < length bs → cuts (get_or bs i 0) quoted ≡ true
    → elements false bs ≡ onto_front (take i bs) (elements quoted (drop i bs))
    → elements false bs ≡ take i bs ∷ elements false (drop (i + 1) bs)
elements_cut bs i quoted h cuts so_far =
    let b = get_or bs i 0 in
    let rest = elements false (drop (i + 1) bs) in
    so_far
    ∙ ap (λ s. onto_front (take i bs) (elements quoted s)) (drop_more bs i 0 h)
    ∙ ap (onto_front (take i bs)) (elements-cons quoted b (drop (i + 1) bs) ∙ rw cuts refl)
    ∙ onto_front-cons (take i bs) [] rest
    ∙ ap (λ s. s ∷ rest) (append-nil (take i bs))

-- where no byte is left
pub elements_end : (bs : List ℕ) (i : ℕ) (quoted : Bool) → length bs ≤ i
    → elements false bs ≡ onto_front (take i bs) (elements quoted (drop i bs)) → elements false bs ≡ bs ∷ []
unfolding elements
elements_end bs i quoted h so_far =
    so_far
    ∙ rw (take_all i bs h, drop_all i bs h) refl
    ∙ onto_front-cons bs [] []
    ∙ ap (λ s. s ∷ []) (append-nil bs)
