-- Line breaks, and the spaces around them.
use Rattle.std.proofs.Common.{◌≡◌, Bool, true, false, ◌==◌, ℕ, zero, suc, ◌+◌, ◌-◌, ◌≤◌, List, [], ◌∷◌, ◌++◌, length, replicate, refl, ap}
use Rattle.std.proofs.Common.{ap₂, sym, ◌∙◌, subst, arith, Option, Some, None}
use Rattle.std.specs.Prelude.{not, ◌&&◌, nat_le, if◌then◌else◌}
use Rattle.std.specs.List.{list_all}
use Rattle.std.proofs.lemmas.Bool.{eqb-true, eq-eqb, ne_eqb, le-leb}
use Rattle.doc_rules.specs.Characters.{Text}
use Rattle.doc_rules.specs.Parsers.{before, many, is, run_length}
use Rattle.doc_rules.specs.Rules.{Rules}
use Rattle.doc_rules.specs.Definitions.{Definition}
use Rattle.doc_rules.specs.Inlines.{Inline, SoftBreak, HardBreak, onto}
use Rattle.doc_rules.specs.Reading.{read_item}
use Rattle.doc_rules.specs.Rests.{IsRest}
use Rattle.doc_rules.proofs.ParserLaws.{rest_is_shorter}
use Rattle.doc_inlines_marks.specs.declared.mark_ref.MarkRef.{MarkRef}
use Rattle.doc_inlines_marks.specs.declared.mark_ref.MarkRef.TheVariants as mark
use Rattle.doc_inlines_marks.specs.Slices.{slice_in, StandIn, IsCut}
use Rattle.doc_inlines_marks.specs.Views.{inlines_in}
use Rattle.doc_inlines.specs.ReadingSteps.{begins_by, is_plain, breaks}
use Rattle.doc_inlines.specs.PlainSteps.{IsPlainStop}
use Rattle.doc_inlines.specs.DraftSteps.{IsRunOf}
use Rattle.doc_inlines.specs.ReaderSteps.{MarkStands, IsPlainRun}
use Rattle.doc_inlines.proofs.PlainLaws.{break_item, spaces_item, quiet_before}
use Rattle.doc_inlines.proofs.PlainEndLaws.{run_goes_further}
use Rattle.doc_inlines.proofs.RunLaws.{behind_first, split_at_run, taken_by, run_taken}
use Rattle.doc_inlines.proofs.EscapeLaws.{spaces_taken}

-- ---- a mark without a slice

pub bare_stands : (m : MarkRef) (rest next : Text) → slice_in m ≡ [] → IsCut m → IsRest next rest → MarkStands m rest next
bare_stands m rest next e f g = record {
  behind = g;
  slices = subst (λ own. StandIn (before next rest) (own ++ [])) (sym e) tt;
  cut = f;
}

pub soft_stands : (rest next : Text) → IsRest next rest → MarkStands mark.Soft rest next
unfolding slice_in
soft_stands rest next g = record { behind = g; slices = tt; cut = tt }

pub soft_made : (made new : List Inline) → new ≡ onto (inlines_in mark.Soft) made → new ≡ SoftBreak ∷ made
unfolding inlines_in
soft_made made new e = e

pub break_made : (m : MarkRef) (x : Inline) (made new : List Inline) → inlines_in m ≡ x ∷ [] → new ≡ onto (inlines_in m) made
    → new ≡ x ∷ made
break_made m x made new e f = f ∙ ap (λ those. onto those made) e

-- ---- a line ending

pub soft_reads : (rules : Rules) (refs : List Definition) (last : ℕ) (made : List Inline) (more next : Text)
    → Some next ≡ many (λ d. 32 == d) more → read_item rules refs last made 10 more ≡ (SoftBreak ∷ made, length more - length next)
soft_reads rules refs last made more next e =
    let a : run_length 32 more ≡ length more - length next = spaces_taken more next e in
    let n : 0 + run_length 32 more ≡ length more - length next = omega arith in
    break_item rules refs last made more ∙ ap (λ k. (SoftBreak ∷ made, k)) n

-- ---- how many spaces

pub space_at_end : (text : Text) → text ≡ [] → false ≡ nat_le 2 (suc (run_length 32 text))
unfolding run_length
space_at_end text e = sym (ap (λ t. nat_le 2 (suc (run_length 32 t))) e)

counted : Text → Bool → ℕ
unfolding run_length
counted rest b = elim b [ true ↦ suc (run_length 32 rest) | false ↦ 0 ]

true_is_false : true ≡ false → ⊥
true_is_false h = absurd cc

pub two_spaces : (c : ℕ) (rest text : Text) (b : Bool) → text ≡ c ∷ rest → b ≡ (c == 32) → b ≡ nat_le 2 (suc (run_length 32 text))
unfolding run_length counted
two_spaces c rest text b e f = at (c == 32) refl
  where
    at : (d : Bool) → (c == 32) ≡ d → b ≡ nat_le 2 (suc (run_length 32 text))
    at true g =
        let same : (32 == c) ≡ true = eq-eqb 32 c (sym (eqb-true c 32 g)) in
        let l : 2 ≤ suc (suc (run_length 32 rest)) = omega arith in
        f ∙ (g ∙ sym (ap (λ t. nat_le 2 (suc (run_length 32 t))) e
        ∙ (ap (λ d. nat_le 2 (suc (counted rest d))) same ∙ le-leb 2 (suc (suc (run_length 32 rest))) l)))
    at false g =
        let differ : (32 == c) ≡ false = ne_eqb 32 c (λ h. true_is_false (sym (eq-eqb c 32 (sym h)) ∙ g)) in
        f ∙ (g ∙ sym (ap (λ t. nat_le 2 (suc (run_length 32 t))) e ∙ ap (λ d. nat_le 2 (suc (counted rest d))) differ))

-- ---- spaces before a line ending

pub is_first : (c : ℕ) (text rest : Text) → Some rest ≡ is c text → text ≡ c ∷ rest
is_first c [] rest e = absurd cc
is_first c (d ∷ more) rest e = at (d == c) refl e
  where
    at : (b : Bool) → (d == c) ≡ b → Some rest ≡ (elim b [ true ↦ Some more | false ↦ None ]) → (d ∷ more) ≡ c ∷ rest
    at true f g = let same : rest ≡ more = cc in ap₂ (λ x xs. x ∷ xs) (eqb-true d c f) (sym same)
    at false f g = absurd cc

pub spaces_reads : (rules : Rules) (refs : List Definition) (last : ℕ) (made : List Inline) (hard : Bool) (more rest after next : Text)
    → Some rest ≡ many (λ d. 32 == d) more → IsRest rest more → rest ≡ 10 ∷ after →
    Some next ≡ many (λ d. 32 == d) after → IsRest next after → hard ≡ nat_le 2 (suc (run_length 32 more)) →
    read_item rules refs last made 32 more ≡ ((if hard then HardBreak else SoftBreak) ∷ made, length more - length next)
spaces_reads rules refs last made hard more rest after next e r f g s h =
    let n : ℕ = run_length 32 more in
    let split : more ≡ replicate n 32 ++ (10 ∷ after) = split_at_run 32 more rest e ∙ ap (λ t. replicate n 32 ++ t) f in
    let a : run_length 32 more ≡ length more - length rest = taken_by 32 n more rest (split_at_run 32 more rest e) in
    let b : run_length 32 after ≡ length after - length next = spaces_taken after next g in
    let l : length next ≤ length after = rest_is_shorter next after s in
    let k : length rest ≤ length more = rest_is_shorter rest more r in
    let m : length rest ≡ length (10 ∷ after) = ap length f in
    let all : suc (run_length 32 more) + run_length 32 after ≡ length more - length next = omega arith in
    ap (read_item rules refs last made 32) split
    ∙ (spaces_item rules refs last made n after ∙ ap₂ (λ b k. ((if b then HardBreak else SoftBreak) ∷ made, k)) (sym h) all)

-- ---- spaces that are text

abbrev at_stop : (ℕ → Bool) → Text → Type 0
at_stop class [] = Unit {0}
at_stop class (c ∷ rest) = class c ≡ false

pub many_stops : (class : ℕ → Bool) (text rest : Text) → Some rest ≡ many class text → at_stop class rest
unfolding many
many_stops class [] rest e = let same : rest ≡ [] = cc in subst (λ t. at_stop class t) (sym same) tt
many_stops class (c ∷ text) rest e = at (λ f. many_stops class text rest f) (class c) refl e
  where
    at : (Some rest ≡ many class text → at_stop class rest) → (b : Bool) → class c ≡ b
        → Some rest ≡ (elim b [ true ↦ many class text | false ↦ Some (c ∷ text) ]) → at_stop class rest
    at go true f g = go g
    at go false f g = let same : rest ≡ c ∷ text = cc in subst (λ t. at_stop class t) (sym same) f

no_break : (rest : Text) → at_stop (λ d. 32 == d) rest → None ≡ is 10 rest → breaks rest ≡ false
unfolding breaks
no_break [] h e = refl
no_break (d ∷ rest) h e = ap (λ b. elim b [ true ↦ breaks rest | false ↦ d == 10 ]) h ∙ at (d == 10) e
  where
    at : (b : Bool) → ◌≡◌ {A = Option Text} None (elim b [ true ↦ Some rest | false ↦ None ]) → b ≡ false
    at true f = absurd cc
    at false f = refl

space_is_plain : (strikes links : Bool) → begins_by strikes links 32 ≡ false
space_is_plain true true = refl
space_is_plain true false = refl
space_is_plain false true = refl
space_is_plain false false = refl

spaces_plain : (rules : Rules) (n : ℕ) → list_all (is_plain rules) (replicate n 32) ≡ true
spaces_plain rules zero = refl
spaces_plain rules (suc n) =
    ap (λ b. not b && list_all (is_plain rules) (replicate n 32)) (space_is_plain rules.strikethrough rules.bare_links)
    ∙ spaces_plain rules n

pub no_break_there : (more rest : Text) → Some rest ≡ many (λ d. 32 == d) more → None ≡ is 10 rest → breaks rest ≡ false
no_break_there more rest f g = no_break rest (many_stops (λ d. 32 == d) more rest f) g

spaces_run : (rules : Rules) (whole more rest : Text) → whole ≡ 32 ∷ more → Some rest ≡ many (λ d. 32 == d) more → IsRest rest more → None ≡ is 10 rest
    → IsPlainRun rules whole rest
spaces_run rules whole more rest e f r g =
    let run : IsRunOf (run_length 32 more) 32 (before rest whole) = run_taken 32 whole more rest (before rest whole) e f refl in
    let plain : list_all (is_plain rules) (before rest whole) ≡ true = ap (list_all (is_plain rules)) run.same
    ∙ spaces_plain rules (suc (run_length 32 more)) in
    let l : length rest ≤ length more = rest_is_shorter rest more r in
    let k : length whole ≡ length (32 ∷ more) = ap length e in
    record {
      behind = behind_first 32 more whole rest e r;
      plain = plain;
      quiet = quiet_before rules (before rest whole) rest plain (no_break_there more rest f g);
      shorter = omega arith;
    }

pub spaces_and_words : (rules : Rules) (whole more rest end : Text) → whole ≡ 32 ∷ more → Some rest ≡ many (λ d. 32 == d) more → IsRest rest more
    → None ≡ is 10 rest → IsPlainStop rules rest end → IsPlainRun rules whole end
spaces_and_words rules whole more rest end e f r g u = run_goes_further rules whole rest end (spaces_run rules whole more rest e f r g)
    (no_break_there more rest f g) u
