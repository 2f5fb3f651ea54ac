-- One step further in a destination without '<' and '>'.
use Rattle.std.proofs.Common.{◌≡◌, ℕ, zero, suc, ◌+◌, ◌-◌, ◌<◌, ◌≤◌, ◌∷◌, refl, ap, sym, ◌∙◌, subst, Option}
use Rattle.std.proofs.Common.{Some, None, arith}
use Rattle.std.specs.Prelude.{option_and_then}
use Rattle.doc_rules.specs.Characters.{Text}
use Rattle.doc_rules.specs.Parsers.{Parser, one, is, ◌then◌, ◌or◌}
use Rattle.doc_rules.specs.Destinations.{escaped, is_bare, balanced}
use Rattle.doc_rules.proofs.ParserLaws.{Takes, first_takes, or_takes, repeated_step, is_cons}
use Rattle.doc_rules.proofs.GrammarLaws.{is_leaves, is_takes, balanced_leaves}
use Rattle.doc_lines.proofs.Steps.{repeated_ends, repeated_goes_on}
use Rattle.doc_refs_parts.proofs.Escapes.{escaped_or_one_takes, run_ends, run_goes_on}
use Rattle.doc_refs_parts.specs.ParenthesisSteps.{finish, ends_at}

-- ---- a run

item : ℕ → Parser
item n = escaped or one is_bare or (is 40 then balanced n then is 41)

item_takes : (n : ℕ) → Takes (item n)
unfolding item
item_takes n =
    or_takes (escaped or one is_bare) (is 40 then balanced n then is 41) (escaped_or_one_takes is_bare)
    (first_takes (is 40 then balanced n) (is 41) (first_takes (is 40) (balanced n) (is_takes 40) (balanced_leaves n)) (is_leaves 41))

or_opened : ℕ → Text → Option Text → Option Text
or_opened n text found = elim found [ Some rest ↦ Some rest | None ↦ (is 40 then balanced n then is 41) text ]

run_over : (n : ℕ) (text rest : Text) → Some rest ≡ (escaped or one is_bare) text → balanced n text ≡ balanced n rest
unfolding balanced item or_opened
run_over zero text rest e = run_goes_on is_bare text rest e
run_over (suc n) text rest e = repeated_goes_on (item n) text rest (item_takes n) (ap (or_opened n text) e)

run_stops : (n : ℕ) (text : Text) → None ≡ (escaped or one is_bare) text → None ≡ is 40 text → Some text ≡ balanced n text
unfolding balanced item or_opened
run_stops zero text e f = run_ends is_bare text e
run_stops (suc n) text e f = repeated_ends (item n) text (item_takes n)
    (ap (λ found. option_and_then (is 41) (option_and_then (balanced n) found)) f ∙ ap (or_opened n text) e)

at_parenthesis : Option Text → Text → ℕ → Option Text
unfolding balanced
at_parenthesis found text n = elim found [ None ↦ Some text | Some rest ↦ balanced (suc n) rest ]

run_opens : (n : ℕ) (behind : Text) → balanced (suc n) (40 ∷ behind) ≡ at_parenthesis ((balanced n then is 41) behind) (40 ∷ behind) n
unfolding balanced item at_parenthesis
run_opens n behind = repeated_step (item n) (40 ∷ behind) (item_takes n)

-- ---- a run from a place on

after_close : ℕ → ℕ → Text → Option Text → Option Text
unfolding finish
after_close levels n outermost found = elim found [ None ↦ Some outermost | Some behind ↦ finish levels (suc n) outermost behind ]

pub goes_over : (levels n : ℕ) (outermost text rest : Text) → Some rest ≡ (escaped or one is_bare) text
    → finish levels n outermost rest ≡ finish levels n outermost text
unfolding finish after_close
goes_over zero n outermost text rest e = sym (run_over n text rest e)
goes_over (suc levels) n outermost text rest e = sym (ap (λ found. after_close levels n outermost (option_and_then (is 41) found))
    (run_over n text rest e))

goes_in : (levels n : ℕ) (outermost behind : Text) → finish levels (suc n) outermost (40 ∷ behind)
    ≡ finish (suc levels) n (ends_at levels outermost (40 ∷ behind)) behind
unfolding finish after_close at_parenthesis
goes_in zero n outermost behind = run_opens n behind
goes_in (suc levels) n outermost behind =
    ap (λ found. after_close levels (suc n) outermost (option_and_then (is 41) found)) (run_opens n behind)
    ∙ at ((balanced n then is 41) behind)
  where
    at : (found : Option Text) → after_close levels (suc n) outermost (option_and_then (is 41) (at_parenthesis found (40 ∷ behind) n))
        ≡ after_close (suc levels) n outermost found
    at None = refl
    at (Some rest) = refl

goes_out : (levels n : ℕ) (outermost behind : Text) → finish (suc levels) n outermost (41 ∷ behind) ≡ finish levels (suc n) outermost behind
unfolding finish after_close
goes_out levels n outermost behind = sym (ap (λ found. after_close levels n outermost (option_and_then (is 41) found))
    (run_stops n (41 ∷ behind) refl refl))

goes_no_further : (levels n : ℕ) (outermost text : Text) → Some text ≡ balanced n text → None ≡ is 41 text
    → Some (ends_at levels outermost text) ≡ finish levels n outermost text
unfolding finish after_close
goes_no_further zero n outermost text e f = e
goes_no_further (suc levels) n outermost text e f = ap (after_close levels n outermost) f
    ∙ ap (λ found. after_close levels n outermost (option_and_then (is 41) found)) e

-- ---- as a scanner finds it

-- an opening parenthesis, and a level is left
pub opens : (levels : ℕ) (start outermost text behind : Text) → levels < 32 → Some behind ≡ is 40 text
    → start ≡ ends_at levels outermost text →
    finish (levels + 1) (32 - (levels + 1)) start behind ≡ finish levels (32 - levels) outermost text
opens levels start outermost text behind h e f =
    let more : 32 - levels ≡ suc (32 - (levels + 1)) = omega arith in
    let deeper : suc levels ≡ levels + 1 = omega arith in
    let same : text ≡ 40 ∷ behind = is_cons 40 text behind e in
    ap (λ (t : Text). finish (levels + 1) (32 - (levels + 1)) t behind) f
    ∙ sym (ap (λ n. finish levels n outermost text) more ∙ (ap (finish levels (suc (32 - (levels + 1))) outermost) same
    ∙ (goes_in levels (32 - (levels + 1)) outermost behind
    ∙ (ap (λ d. finish d (32 - (levels + 1)) (ends_at levels outermost (40 ∷ behind)) behind) deeper
    ∙ ap (λ (t : Text). finish (levels + 1) (32 - (levels + 1)) (ends_at levels outermost t) behind) (sym same)))))

-- one, and none is left
pub ends_at_opening : (levels : ℕ) (outermost text behind : Text) → 32 ≤ levels → Some behind ≡ is 40 text
    → Some (ends_at levels outermost text) ≡ finish levels (32 - levels) outermost text
unfolding balanced
ends_at_opening levels outermost text behind h e =
    let none : 0 ≡ 32 - levels = omega arith in
    subst (λ (t : Text). Some (ends_at levels outermost t) ≡ finish levels (32 - levels) outermost t) (sym (is_cons 40 text behind e))
    (goes_no_further levels 0 outermost (40 ∷ behind) (run_ends is_bare (40 ∷ behind) refl) refl
    ∙ ap (λ n. finish levels n outermost (40 ∷ behind)) none)

-- a closing one, and one is open
pub closes : (levels : ℕ) (outermost text behind : Text) → levels ≤ 32 → 0 < levels → Some behind ≡ is 41 text →
    finish (levels - 1) (32 - (levels - 1)) outermost behind ≡ finish levels (32 - levels) outermost text
closes levels outermost text behind h e f =
    let more : ℕ = levels - 1 in
    let left : suc (32 - levels) ≡ 32 - more = omega arith in
    let deeper : levels ≡ suc more = omega arith in
    sym (ap (finish levels (32 - levels) outermost) (is_cons 41 text behind f)
    ∙ (ap (λ d. finish d (32 - levels) outermost (41 ∷ behind)) deeper
    ∙ (goes_out more (32 - levels) outermost behind ∙ ap (λ n. finish more n outermost behind) left)))

-- one, and none is open
outside : (n : ℕ) (outermost text behind : Text) → Some behind ≡ is 41 text
    → Some (ends_at zero outermost text) ≡ finish zero n outermost text
unfolding finish
outside n outermost text behind e = subst (λ (t : Text). Some t ≡ balanced n t) (sym (is_cons 41 text behind e))
    (run_stops n (41 ∷ behind) refl refl)

pub ends_at_closing : (levels n : ℕ) (outermost text behind : Text) → levels ≡ 0 → Some behind ≡ is 41 text
    → Some (ends_at levels outermost text) ≡ finish levels n outermost text
ends_at_closing levels n outermost text behind e f = subst (λ (l : ℕ). Some (ends_at l outermost text) ≡ finish l n outermost text) (sym e)
    (outside n outermost text behind f)

-- none of all these
pub ends_here : (levels n : ℕ) (outermost text : Text) → None ≡ (escaped or one is_bare) text → None ≡ is 40 text → None ≡ is 41 text →
    Some (ends_at levels outermost text) ≡ finish levels n outermost text
ends_here levels n outermost text e f g = goes_no_further levels n outermost text (run_stops n text e f) g
