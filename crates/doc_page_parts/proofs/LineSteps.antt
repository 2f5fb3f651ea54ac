-- Steps over the bytes of a line.
use Rattle.std.proofs.Common.{◌≡◌, ℕ, ◌+◌, ◌<◌, List, [], ◌∷◌, ◌++◌, length, take, drop, get_or, true, false, Bool, cond, refl, ap, sym}
use Rattle.std.proofs.Common.{◌∙◌, arith, ◌-◌, ◌≤◌}
use Rattle.std.specs.List.{onto_first}
use Rattle.std.proofs.lemmas.List.{take_more, drop_more, take_all, drop_all, take_rest}
use Rattle.std.proofs.lemmas.Bool.Decides.{nat_tests}
use Rattle.std.specs.Str.{IsUtf8, IsCharBoundary}
use Rattle.std.proofs.lemmas.Str.{IsCharBoundary-after_ascii}
use Rattle.doc_page_parts.specs.Lines.{lines, ends_line}

-- the bytes, before the first line
abbrev pub onto_front : List ℕ → List (List ℕ) → List (List ℕ)
onto_front [] ls = ls
onto_front (b ∷ bs) ls = onto_first b (onto_front bs ls)

pub onto_front-cons : (xs l : List ℕ) (ls : List (List ℕ)) → onto_front xs (l ∷ ls) ≡ (xs ++ l) ∷ ls
onto_front-cons [] l ls = refl
onto_front-cons (x ∷ xs) l ls = ap (onto_first x) (onto_front-cons xs l ls)

pub onto_front-nil : (x : ℕ) (xs : List ℕ) → onto_front (x ∷ xs) [] ≡ (x ∷ xs) ∷ []
onto_front-nil x [] = refl
onto_front-nil x (y ∷ xs) = ap (onto_first x) (onto_front-nil y xs)

pub onto_front-push : (xs : List ℕ) (b : ℕ) (ls : List (List ℕ)) → onto_front (xs ++ b ∷ []) ls ≡ onto_front xs (onto_first b ls)
onto_front-push [] b ls = refl
onto_front-push (x ∷ xs) b ls = ap (onto_first x) (onto_front-push xs b ls)

lines-cons : (b : ℕ) (rest : List ℕ) → lines (b ∷ rest) ≡ cond (ends_line b rest) ((b ∷ []) ∷ lines rest) (onto_first b (lines rest))
unfolding lines
lines-cons b rest = refl

-- the lines from a place on, where the byte there ends no line, and where it ends one
pub lines_pass : (bs : List ℕ) (i : ℕ) (t : Bool) → i < length bs
    → t ≡ ends_line (get_or bs i 0) (take (length bs - (i + 1)) (drop (i + 1) bs)) → t ≡ false
    → lines bs ≡ onto_front (take i bs) (lines (drop i bs)) → lines bs ≡ onto_front (take (i + 1) bs) (lines (drop (i + 1) bs))
lines_pass bs i t h e f so_far =
    let here : ends_line (get_or bs i 0) (drop (i + 1) bs) ≡ false = ap (ends_line (get_or bs i 0)) (sym (take_rest bs (i + 1))) ∙ sym e
    ∙ f in
    so_far
    ∙ ap (λ s. onto_front (take i bs) (lines s)) (drop_more bs i 0 h)
    ∙ ap (onto_front (take i bs)) (lines-cons (get_or bs i 0) (drop (i + 1) bs) ∙ rw here refl)
    ∙ sym (onto_front-push (take i bs) (get_or bs i 0) (lines (drop (i + 1) bs)))
    ∙ sym (ap (λ s. onto_front s (lines (drop (i + 1) bs))) (take_more bs i 0 h))

pub lines_end : (bs : List ℕ) (i : ℕ) (t : Bool) → i < length bs
    → t ≡ ends_line (get_or bs i 0) (take (length bs - (i + 1)) (drop (i + 1) bs)) → t ≡ true
    → lines bs ≡ onto_front (take i bs) (lines (drop i bs)) → lines bs ≡ take (i + 1) bs ∷ lines (drop (i + 1) bs)
lines_end bs i t h e f so_far =
    let here : ends_line (get_or bs i 0) (drop (i + 1) bs) ≡ true = ap (ends_line (get_or bs i 0)) (sym (take_rest bs (i + 1))) ∙ sym e
    ∙ f in
    so_far
    ∙ ap (λ s. onto_front (take i bs) (lines s)) (drop_more bs i 0 h)
    ∙ ap (onto_front (take i bs)) (lines-cons (get_or bs i 0) (drop (i + 1) bs) ∙ rw here refl)
    ∙ onto_front-cons (take i bs) (get_or bs i 0 ∷ []) (lines (drop (i + 1) bs))
    ∙ sym (ap (λ s. s ∷ lines (drop (i + 1) bs)) (take_more bs i 0 h))

-- bytes before no line are one line
pub onto_front_alone : (bs : List ℕ) → 0 < length bs → onto_front bs [] ≡ bs ∷ []
onto_front_alone [] h = absurd (omega arith)
onto_front_alone (b ∷ bs) h = onto_front-nil b bs

pub lines_last : (bs : List ℕ) (i n : ℕ) → 0 < length bs → length bs ≤ i → length bs ≤ n
    → lines bs ≡ onto_front (take i bs) (lines (drop i bs)) → lines bs ≡ take n bs ∷ lines (drop n bs)
unfolding lines
lines_last bs i n h l m so_far = so_far ∙ rw (take_all i bs l, drop_all i bs l, take_all n bs m, drop_all n bs m) (onto_front_alone bs h)

-- a text may be cut after a line
pub cut_after_line : (bs : List ℕ) (i : ℕ) (t : Bool) → IsUtf8 bs → i < length bs
    → t ≡ ends_line (get_or bs i 0) (take (length bs - (i + 1)) (drop (i + 1) bs)) → t ≡ true → IsCharBoundary bs (i + 1)
cut_after_line bs i t utf8 h e f = IsCharBoundary-after_ascii bs i utf8 h (grind (arith, nat_tests))

pub lines_empty : (bs : List ℕ) → length bs ≡ 0 → lines bs ≡ []
unfolding lines
lines_empty [] h = refl
lines_empty (b ∷ bs) h = absurd (omega arith)
