-- The parts of a line, from what a search for the end of the first one answers.
use Rattle.std.proofs.Common.{◌≡◌, ℕ, Bool, true, false, ◌==◌, List, [], ◌∷◌, ◌++◌, refl, ap, sym, ◌∙◌, Option, Some, None}
use Rattle.std.specs.Prelude.{not, ◌&&◌}
use Rattle.std.proofs.lemmas.List.{append_cancel_right}
use Rattle.doc_rules.specs.Characters.{Text}
use Rattle.doc_rules.specs.Parsers.{is}
use Rattle.doc_tables.specs.CellSteps.{end_of_part, parts_in}
use Rattle.doc_rules.specs.Tables.{parts_behind, parts}

-- ---- where the first part ends

ends_by : Bool → ℕ → Text → Text
ends_by b c rest = elim b [ true ↦ c ∷ rest | false ↦ end_of_part (c == 92) rest ]

pub ends_here : (escaped : Bool) (text rest : Text) (c : ℕ) → text ≡ c ∷ rest → ((c == 124) && not escaped) ≡ true
    → end_of_part escaped text ≡ text
unfolding end_of_part ends_by
ends_here escaped text rest c e f = ap (end_of_part escaped) e ∙ ap (λ (b : Bool). ends_by b c rest) f ∙ sym e

pub ends_later : (escaped : Bool) (text rest : Text) (c : ℕ) → text ≡ c ∷ rest → ((c == 124) && not escaped) ≡ false
    → end_of_part escaped text ≡ end_of_part (c == 92) rest
unfolding end_of_part ends_by
ends_later escaped text rest c e f = ap (end_of_part escaped) e ∙ ap (λ (b : Bool). ends_by b c rest) f

pub ends_empty : (escaped : Bool) (text : Text) → text ≡ [] → end_of_part escaped text ≡ text
unfolding end_of_part
ends_empty escaped text e = ap (end_of_part escaped) e ∙ sym e

-- ---- the parts

parts_by : Bool → ℕ → Text → Text × List Text
parts_by b c rest = elim b [
  | true ↦ ([], (parts_behind false rest).0 ∷ (parts_behind false rest).1)
  | false ↦ (c ∷ (parts_behind (c == 92) rest).0, (parts_behind (c == 92) rest).1)
]

joined : (escaped : Bool) (text : Text) → (parts_behind escaped text).0 ++ end_of_part escaped text ≡ text
unfolding parts_behind end_of_part parts_by ends_by
joined escaped [] = refl
joined escaped (c ∷ rest) = at ((c == 124) && not escaped) (joined (c == 92) rest)
  where
    at : (b : Bool) → (parts_behind (c == 92) rest).0 ++ end_of_part (c == 92) rest ≡ rest
        → (parts_by b c rest).0 ++ ends_by b c rest ≡ c ∷ rest
    at true e = refl
    at false e = ap (λ (t : Text). c ∷ t) e

and_first : (a b : Bool) → (a && b) ≡ true → a ≡ true
and_first true b e = refl
and_first false b e = e

found_by : Bool → Text → Option Text
found_by b rest = elim b [ true ↦ Some rest | false ↦ None ]

more : (escaped : Bool) (text : Text) → (parts_behind escaped text).1 ≡ parts_in (is 124 (end_of_part escaped text))
unfolding parts_behind end_of_part parts parts_by ends_by found_by
more escaped [] = refl
more escaped (c ∷ rest) = at ((c == 124) && not escaped) refl (more (c == 92) rest)
  where
    at : (b : Bool) → ((c == 124) && not escaped) ≡ b → (parts_behind (c == 92) rest).1 ≡ parts_in (is 124 (end_of_part (c == 92) rest))
        → (parts_by b c rest).1 ≡ parts_in (is 124 (ends_by b c rest))
    at true e f = sym (ap (λ (d : Bool). parts_in (found_by d rest)) (and_first (c == 124) (not escaped) e))
    at false e f = f

pub first_part_is : (text front end : Text) (rest : Option Text) → text ≡ front ++ end → end ≡ end_of_part false text → rest ≡ is 124 end
    → parts text ≡ front ∷ parts_in rest
unfolding parts
first_part_is text front end rest e f g =
    let same : (parts_behind false text).0 ≡ front =
    append_cancel_right (parts_behind false text).0 front end
    (ap (λ (t : Text). (parts_behind false text).0 ++ t) f ∙ joined false text ∙ e) in
    ap (λ (t : Text). t ∷ (parts_behind false text).1) same
    ∙ ap (λ (l : List Text). front ∷ l) (more false text ∙ sym (ap parts_in (g ∙ ap (is 124) f)))
