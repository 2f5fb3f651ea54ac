-- What two sites have alike, as their stores answer it.
use Rattle.std.proofs.Common.{◌≡◌, ℕ, suc, ◌==◌, Bool, true, false, not, ◌&&◌, List, [], ◌∷◌, length, refl, ap, sym, ◌∙◌, arith, bytes_eq}
use Rattle.std.specs.Borrow.{Bor}
use Rattle.std.specs.Cmp.Lexicographic.{pointwise}
use Rattle.std.specs.Prelude.{if◌then◌else◌}
use Rattle.std.proofs.lemmas.Bool.Decides.{nat_tests}
use Rattle.std.proofs.lemmas.Slice.Eq.{bytes_eq-Decides}
use Rattle.doc_store_readers.specs.Groups.{texts_of}
use Rattle.doc_server_script.specs.Compactions.{same_texts}

pub texts_alike : (names others : List (Bor (List ℕ)))
    → pointwise (λ name other. bytes_eq name.now other.now) names others ≡ same_texts (texts_of names) (texts_of others)
texts_alike [] [] = refl
texts_alike [] (other ∷ others) = refl
texts_alike (name ∷ names) [] = refl
texts_alike (name ∷ names) (other ∷ others) = ap (λ rest. bytes_eq name.now other.now && rest) (texts_alike names others)

no_cons : {X : Type 0} (x : X) (xs : List X) → [] ≡ x ∷ xs → ⊥
no_cons x xs e = cc

itself : (path : List ℕ) → bytes_eq path path ≡ true
itself path = (bytes_eq-Decides path path).1 refl

some_stand : (count : ℕ) → not (suc count == 0) ≡ true
some_stand count = grind (arith, nat_tests)

-- whether a page stands under a path in both of two sites, and has the same names there, its path and its aliases
pub names_stand : (one other : Bool) (path : List ℕ) (aliases more : List (List ℕ)) (names others : List (Bor (List ℕ)))
    → texts_of names ≡ (if one then path ∷ aliases else []) → texts_of others ≡ (if other then path ∷ more else [])
    → (not (length names == 0) && same_texts (texts_of names) (texts_of others)) ≡ ((one && other) && same_texts aliases more)
names_stand true other path aliases more [] others p q = absurd (no_cons path aliases p)
names_stand false other path aliases more [] others p q = refl
names_stand false other path aliases more (name ∷ names) others p q = absurd (no_cons name.now (texts_of names) (sym p))
names_stand true true path aliases more (name ∷ names) others p q =
    ap (λ t. t && same_texts (texts_of (name ∷ names)) (texts_of others)) (some_stand (length names))
    ∙ ap (λ ts. same_texts ts (texts_of others)) p
    ∙ (ap (same_texts (path ∷ aliases)) q ∙ ap (λ t. t && same_texts aliases more) (itself path))
names_stand true false path aliases more (name ∷ names) others p q =
    ap (λ t. t && same_texts (texts_of (name ∷ names)) (texts_of others)) (some_stand (length names))
    ∙ ap (λ ts. same_texts ts (texts_of others)) p ∙ ap (same_texts (path ∷ aliases)) q
