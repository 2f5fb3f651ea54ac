-- What is shown of a list of which one entry more was asked for than is shown.
use Rattle.std.proofs.Common.{◌≡◌, ◌≢◌, ℕ, ◌+◌, List, [], ◌∷◌, ◌++◌, Bool, false, codes, cond, length, take, sym, ap, ◌∙◌, arith, refl, suc, zero}
use Rattle.std.specs.Prelude.{slice_get, Option}
use Rattle.std.specs.List.{flat_map}
use Rattle.std.proofs.Math.Numerals.{add-one}
use Rattle.doc_people.specs.Lists.{is_whole, list_or_note, more_link, pager, start_link}
use Rattle.std.proofs.lemmas.List.{take-take}

-- the part that is shown
pub shown_of_more : {X : Type 0} (n : ℕ) (xs : List X) → take n (take (n + 1) xs) ≡ take n xs
shown_of_more n xs = take-take n (n + 1) xs (omega arith)

-- and the entry behind it
behind_taken : {X : Type 0} (n : ℕ) (xs : List X) → slice_get (take (suc n) xs) n ≡ slice_get xs n
behind_taken zero [] = refl
behind_taken zero (x ∷ xs) = refl
behind_taken (suc n) [] = refl
behind_taken (suc n) (x ∷ xs) = behind_taken n xs

pub next_of_more : {X : Type 0} (n : ℕ) (xs : List X) → slice_get (take (n + 1) xs) n ≡ slice_get xs n
next_of_more n xs = ap (λ m. slice_get (take m xs) n) (add-one n) ∙ behind_taken n xs

-- the links to the other parts, where the list isn't shown as a whole
pub some_parts : (address from : List ℕ) (next : Option (List ℕ)) (old new : List ℕ) (whole : Bool) → whole ≡ is_whole from next
    → whole ≡ false
    → new ≡ old ++ (codes "<nav class=\"pager\" aria-label=\"Parts of this list\">\n" ++ start_link address from ++ more_link address next
    ++ codes "</nav>\n")
    → new ≡ old ++ pager address from next
some_parts address from next old new whole tested held written =
    written ∙ ap (λ b. old ++ cond b [] (codes "<nav class=\"pager\" aria-label=\"Parts of this list\">\n" ++ start_link address from
    ++ more_link address next ++ codes "</nav>\n")) (sym held ∙ tested)

-- ---- entries as a list

pub no_entries : {X : Type 0} (line : X → List ℕ) (note : List ℕ) (xs : List X) → length xs ≡ 0 → list_or_note line note xs ≡ note
no_entries line note [] none = refl
no_entries line note (x ∷ xs) none = absurd (omega (arith, none))

pub some_entries : {X : Type 0} (line : X → List ℕ) (note : List ℕ) (xs : List X) → length xs ≢ 0
    → list_or_note line note xs ≡ codes "<ul class=\"list\">\n" ++ flat_map line xs ++ codes "</ul>\n"
some_entries line note [] some = absurd (some refl)
some_entries line note (x ∷ xs) some = refl
