-- A folder is seen where something stands in it.
use Rattle.std.proofs.Common.{◌≡◌, ℕ, List, [], ◌∷◌, Bool, true, false, not, ◌||◌, length, map, take, arith, cond, ap, ◌∙◌, refl}
use Rattle.std.specs.Prelude.{◌==◌, bytes_eq, filter}
use Rattle.std.specs.List.{dedup, dedup_from, list_any}
use Rattle.std.proofs.lemmas.Bool.{cond_both}
use Rattle.std.proofs.lemmas.Bool.Decides.{nat_tests}
use Rattle.doc_page_parts.specs.Pages.{is_empty}
use Rattle.doc_store_readers.specs.Sites.{View}
use Rattle.doc_people.specs.Folders.{is_below, key, keys, sees_folder}
use Rattle.doc_people.specs.Lists.{contents_from, from_on}
use Rattle.doc_people.specs.Navigation.{is_before}
use Rattle.doc_people.specs.Views.{paths}

-- ---- from the start on

nothing_before : (text : List ℕ) → is_before text [] ≡ false
nothing_before [] = refl
nothing_before (b ∷ text) = refl

from_start : {X : Type 0} (text : X → List ℕ) (xs : List X) → from_on text [] xs ≡ xs
from_start text [] = refl
from_start text (x ∷ xs) =
    ap (λ b. cond (not b) (x ∷ from_on text [] xs) (from_on text [] xs)) (nothing_before (text x)) ∙ ap (λ ys. x ∷ ys) (from_start text xs)

-- ---- whether there is an entry

deduped_from : {X : Type 0} (same : X → X → Bool) (k : X) (xs : List X) → is_empty (dedup_from same k xs) ≡ false
deduped_from same k [] = refl
deduped_from same k (x ∷ xs) =
    cond_both (same x k) (dedup_from same k xs) (k ∷ dedup_from same x xs) (λ ys. is_empty ys ≡ false) (λ _. deduped_from same k xs)
    (λ _. refl)

deduped : {X : Type 0} (same : X → X → Bool) (xs : List X) → is_empty (dedup same xs) ≡ is_empty xs
deduped same [] = refl
deduped same (x ∷ xs) = deduped_from same x xs

mapped : {X Y : Type 0} (f : X → Y) (xs : List X) → is_empty (map f xs) ≡ is_empty xs
mapped f [] = refl
mapped f (x ∷ xs) = refl

none_at : {X : Type 0} (x : X) (kept : List X) (v w : Bool) → is_empty kept ≡ not w → is_empty (cond v (x ∷ kept) kept) ≡ not (v || w)
none_at x kept true w same = refl
none_at x kept false w same = same

filtered : {X : Type 0} (p : X → Bool) (xs : List X) → is_empty (filter p xs) ≡ not (list_any p xs)
filtered p [] = refl
filtered p (x ∷ xs) = none_at x (filter p xs) (p x) (list_any p xs) (filtered p xs)

first : {X : Type 0} (xs : List X) → is_empty (take 1 xs) ≡ is_empty xs
first [] = refl
first (x ∷ xs) = refl

twice : (b : Bool) → not (not b) ≡ b
twice true = refl
twice false = refl

-- ---- the first of what stands in a folder

has_keys : (view : View) (folder : List ℕ) → is_empty (keys view folder) ≡ not (sees_folder view folder)
unfolding keys
has_keys view folder =
    deduped bytes_eq (map (key folder) (filter (is_below folder) (paths view)))
    ∙ mapped (key folder) (filter (is_below folder) (paths view)) ∙ filtered (is_below folder) (paths view)

empty_list : {X : Type 0} (xs : List X) → (length xs == 0) ≡ is_empty xs
empty_list [] = refl
empty_list (x ∷ xs) = grind (arith, nat_tests)

pub folder_seen : (view : View) (folder : List ℕ) (found : List (List ℕ)) (empty : Bool) → empty ≡ (length found == 0)
    → found ≡ take 1 (contents_from view folder []) → not empty ≡ sees_folder view folder
folder_seen view folder found empty tested same =
    ap not (tested ∙ empty_list found)
    ∙ ap (λ xs. not (is_empty xs)) (same ∙ ap (take 1) (from_start (λ (k : List ℕ). k) (keys view folder)))
    ∙ ap not (first (keys view folder) ∙ has_keys view folder) ∙ twice (sees_folder view folder)
