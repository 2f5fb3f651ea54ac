-- The paragraphs of a plain text, line by line.
use Rattle.std.proofs.Common.{◌≡◌, ℕ, List, [], ◌∷◌, ◌++◌, length, map, Bool, true, false, not, refl, ap, sym, ◌∙◌, arith, All, eqb, suc}
use Rattle.std.proofs.Common.{Bor}
use Rattle.std.specs.Prelude.{filter, Result, Ok, Err, OnOk}
use Rattle.std.specs.List.{slice_split, join_with_byte}
use Rattle.std.proofs.lemmas.Bool.Decides.{nat_tests}
use Rattle.std.proofs.lemmas.List.{append-nil, append_assoc}
use Rattle.std.proofs.lemmas.List.Splits.{slice_split_at, slice_split_none}
use Rattle.doc_page_parts.specs.declared.failure.Memory.{Memory}
use Rattle.doc_page_parts.specs.Pages.{is_empty}
use Rattle.doc_page.specs.ParagraphSteps.{lines_after}
use Rattle.doc_page.specs.Plain.{paragraphs}

is_empty_by_length : {X : Type 0} (xs : List X) (t : Bool) → t ≡ eqb (length xs) 0 → t ≡ is_empty xs
is_empty_by_length [] t e = e
is_empty_by_length (x ∷ xs) t e = e ∙ grind (arith, nat_tests)

-- the paragraphs of one run, of no line, and of a run that an empty line ends
pub one_paragraph : (run : List (List ℕ)) {n : ℕ} → length run ≡ suc n → All (λ l. is_empty l ≡ false) run
    → paragraphs run ≡ join_with_byte 10 run ∷ []
unfolding paragraphs
one_paragraph [] {n} h full = absurd (omega arith)
one_paragraph (x ∷ xs) {n} h full = ap (λ parts. map (join_with_byte 10) (filter (λ run. not (is_empty run)) parts))
    (slice_split_none is_empty (x ∷ xs) full)

pub no_paragraph : paragraphs [] ≡ []
unfolding paragraphs
no_paragraph = refl

keeps_run : (run : List (List ℕ)) (parts : List (List (List ℕ)))
    → map (join_with_byte 10) (filter (λ r. not (is_empty r)) (run ∷ parts))
    ≡ map (join_with_byte 10) (filter (λ r. not (is_empty r)) (run ∷ [])) ++ map (join_with_byte 10) (filter (λ r. not (is_empty r)) parts)
keeps_run [] parts = refl
keeps_run (x ∷ xs) parts = refl

pub paragraphs-end : (run rest : List (List ℕ)) (line : List ℕ) → All (λ l. is_empty l ≡ false) run → is_empty line ≡ true
    → paragraphs (run ++ line ∷ rest) ≡ paragraphs run ++ paragraphs rest
unfolding paragraphs
paragraphs-end run rest line full ends =
    ap (λ parts. map (join_with_byte 10) (filter (λ r. not (is_empty r)) parts)) (slice_split_at is_empty run line rest full ends)
    ∙ keeps_run run (slice_split is_empty rest)
    ∙ ap (λ parts. map (join_with_byte 10) (filter (λ r. not (is_empty r)) parts)
    ++ map (join_with_byte 10) (filter (λ r. not (is_empty r)) (slice_split is_empty rest))) (sym (slice_split_none is_empty run full))

-- joining is the first line, and each other line after a LF
pub joined_is : (x : List ℕ) (xs : List (List ℕ)) → join_with_byte 10 (x ∷ xs) ≡ x ++ lines_after xs
unfolding lines_after
joined_is x [] = sym (append-nil x)
joined_is x (y ∷ xs) = ap (λ r. x ++ 10 ∷ r) (joined_is y xs)

-- the paragraph of a run
pub paragraph_some : (run : List (Bor (List ℕ))) (first : Bor (List ℕ)) (others : List (Bor (List ℕ))) (out : List ℕ)
    → run ≡ first ∷ others → All (λ l. is_empty l ≡ false) (map (λ l. l.now) run)
    → out ≡ first.now ++ lines_after (map (λ l. l.now) others) → paragraphs (map (λ l. l.now) run) ≡ out ∷ []
paragraph_some run first others out e full added =
    one_paragraph (map (λ l. l.now) run) (ap (λ r. length (map (λ (l : Bor (List ℕ)). l.now) r)) e) full
    ∙ ap (λ r. r ∷ []) (rw e (joined_is first.now (map (λ l. l.now) others)) ∙ sym added)

pub paragraph_none : (run : List (Bor (List ℕ))) → length run ≡ 0 → paragraphs (map (λ l. l.now) run) ≡ []
paragraph_none [] e = no_paragraph
paragraph_none (x ∷ run) e = absurd (omega arith)

-- a line that ends the run
pub ends_run : {Y : Type 0} (r : Result Y Memory) (texts new : List (List ℕ)) (run : List (List ℕ)) (after : List (Bor (List ℕ)))
    (line : List ℕ) (t : Bool) → All (λ l. is_empty l ≡ false) run → t ≡ eqb (length line) 0 → t ≡ true → OnOk r (after ≡ [])
    → OnOk r (new ≡ texts ++ paragraphs run) → OnOk r ((rest : List (List ℕ))
    → new ++ paragraphs (map (λ l. l.now) after ++ rest) ≡ texts ++ paragraphs (run ++ line ∷ rest))
ends_run (Err e) texts new run after line t full was holds cleared told = tt
ends_run (Ok x) texts new run after line t full was holds cleared told =
    let ends : is_empty line ≡ true = sym (is_empty_by_length line t was) ∙ holds in
    λ rest. rw (told, cleared) (append_assoc texts (paragraphs run) (paragraphs rest)
    ∙ ap (λ r. texts ++ r) (sym (paragraphs-end run rest line full ends)))
