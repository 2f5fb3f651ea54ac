-- Runs of delimiters: what they take of a text, and what a reader makes of them.
use Rattle.std.proofs.Common.{◌≡◌, Bool, true, false, ◌==◌, ℕ, suc, ◌+◌, ◌-◌, List, [], ◌∷◌, ◌++◌, replicate, length, drop, map, refl}
use Rattle.std.proofs.Common.{ap, ap₂, sym, ◌∙◌, subst, Some, arith, eqb-true, length-append}
use Rattle.std.proofs.lemmas.List.{length-replicate}
use Rattle.doc_rules.specs.Characters.{Text, first_or, last_or}
use Rattle.doc_rules.specs.Parsers.{many, before, run_length}
use Rattle.doc_rules.specs.Rules.{Rules}
use Rattle.doc_rules.specs.Definitions.{Definition}
use Rattle.doc_rules.specs.Inlines.{Inline, Run, Delimiters}
use Rattle.doc_rules.specs.Emphasis.{run_between}
use Rattle.doc_rules.specs.Reading.{Step, delimiters, kinds, kind_in, item_of_kind, read_item}
use Rattle.doc_rules.specs.Rests.{IsRest}
use Rattle.doc_rules.proofs.ParserLaws.{is_rest_again}
use Rattle.doc_inlines_marks.specs.declared.mark_ref.MarkRef.{MarkRef}
use Rattle.doc_inlines_marks.specs.Slices.{StandIn, AreSlices, AreCut}
use Rattle.doc_inlines_emphasis.specs.Texts.{IsRunText, AddsEach}
use Rattle.doc_inlines_emphasis.proofs.MarkLaws.{each_slices, each_cut}
use Rattle.doc_inlines_emphasis.specs.declared.delimiter.Delimiter.{Delimiter}
use Rattle.doc_inlines_emphasis.specs.declared.delimiter.Delimiter.TheVariants.{Star, Underscore}
use Rattle.doc_inlines.specs.DraftSteps.{IsRunOf}
use Rattle.doc_inlines.specs.TildeSteps.{BeginsRun, IsRead}
use Rattle.doc_inlines.specs.ReaderSteps.{made_before}
use Rattle.doc_inlines.proofs.ReadingLaws.{before_is}
use Rattle.doc_inlines.proofs.ReaderLaws.{before_both, nothing_pending}
use Rattle.doc_inlines.proofs.SliceLaws.{slices_both, cut_both}
use Rattle.doc_inlines.proofs.ItemLaws.{first_behind}

-- ---- the last character

pub last_behind : (c : ℕ) (front text : Text) (d : ℕ) → text ≡ front ++ (d ∷ []) → d ≡ last_or c text
unfolding last_or
last_behind c front text d e = sym (ap (last_or c) e ∙ at c front)
  where
    at : (c : ℕ) (front : Text) → last_or c (front ++ (d ∷ [])) ≡ d
    at c [] = refl
    at c (x ∷ more) = at x more

pub last_of_none : (c : ℕ) (text : Text) → text ≡ [] → c ≡ last_or c text
unfolding last_or
last_of_none c text e = sym (ap (last_or c) e)

-- ---- what a run takes

counted : ℕ → Text → Bool → ℕ
unfolding run_length
counted c rest b = elim b [ true ↦ suc (run_length c rest) | false ↦ 0 ]

many_run : (c : ℕ) (text : Text) → many (λ d. c == d) text ≡ Some (drop (run_length c text) text)
unfolding many run_length counted
many_run c [] = refl
many_run c (d ∷ rest) = at (many_run c rest) (c == d)
  where
    at : many (λ e. c == e) rest ≡ Some (drop (run_length c rest) rest) → (b : Bool)
        → (elim b [ true ↦ many (λ e. c == e) rest | false ↦ Some (d ∷ rest) ]) ≡ Some (drop (counted c rest b) (d ∷ rest))
    at again true = again
    at again false = refl

run_split : (c : ℕ) (text : Text) → text ≡ replicate (run_length c text) c ++ drop (run_length c text) text
unfolding run_length counted
run_split c [] = refl
run_split c (d ∷ rest) = at (run_split c rest) (c == d) refl
  where
    at : rest ≡ replicate (run_length c rest) c ++ drop (run_length c rest) rest → (b : Bool) → (c == d) ≡ b
        → (d ∷ rest) ≡ replicate (counted c rest b) c ++ drop (counted c rest b) (d ∷ rest)
    at again true e = ap (λ x. x ∷ rest) (sym (eqb-true c d e)) ∙ ap (λ more. c ∷ more) again
    at again false e = refl

behind_run : (c : ℕ) (text rest : Text) → Some rest ≡ many (λ d. c == d) text → rest ≡ drop (run_length c text) text
behind_run c text rest e = let f : Some rest ≡ Some (drop (run_length c text) text) = e ∙ many_run c text in cc

pub split_at_run : (c : ℕ) (text rest : Text) → Some rest ≡ many (λ d. c == d) text → text ≡ replicate (run_length c text) c ++ rest
split_at_run c text rest e = run_split c text ∙ ap (λ more. replicate (run_length c text) c ++ more) (sym (behind_run c text rest e))

pub behind_first : (c : ℕ) (more rest next : Text) → rest ≡ c ∷ more → IsRest next more → IsRest next rest
behind_first c more rest next e g = is_rest_again rest more next g (first_behind c more rest e)

pub run_taken : (c : ℕ) (rest more next run : Text) → rest ≡ c ∷ more → Some next ≡ many (λ d. c == d) more → run ≡ before next rest
    → IsRunOf (run_length c more) c run
run_taken c rest more next run e f g =
    let n : ℕ = run_length c more in
    let split : rest ≡ replicate (suc n) c ++ next = e ∙ ap (λ those. c ∷ those) (split_at_run c more next f) in
    record { same = g ∙ (ap (before next) split ∙ before_is (replicate (suc n) c) next) }

pub run_text : (c : ℕ) (own : Delimiter) (more run : Text) → BeginsRun c own more → IsRunOf (run_length c more) c run → IsRunText own run
run_text c own more run b r = record {
  more = run_length c more;
  is = r.same ∙ ap (replicate (suc (run_length c more))) (sym b.same);
  fits = b.fits;
}

-- ---- what the rules make of a run

pub star_is_read : (rules : Rules) (more : Text) → IsRead rules 42 more
unfolding read_item kind_in kinds item_of_kind
star_is_read rules more refs last made = refl

pub underscore_is_read : (rules : Rules) (more : Text) → IsRead rules 95 more
unfolding read_item kind_in kinds item_of_kind
underscore_is_read rules more refs last made = refl

pub star_begins : (more : Text) → BeginsRun 42 Star more
star_begins more = record { same = refl; fits = refl }

pub underscore_begins : (more : Text) → BeginsRun 95 Underscore more
underscore_begins more = record { same = refl; fits = refl }

abbrev own_run : ℕ → ℕ → Bool → Bool → Run
own_run c n opens closes = record { char = c; left = n; length = n; opens = opens; closes = closes }

abbrev run_step : List Inline → Run → ℕ → Step
run_step made run n = (Delimiters run ∷ made, n)

run_is : (c n last next : ℕ) (opens closes : Bool) → opens ≡ (run_between c n last next).opens
    → closes ≡ (run_between c n last next).closes →
    run_between c n last next ≡ own_run c n opens closes
unfolding run_between
run_is c n last next opens closes e f = ap₂ (own_run c n) (sym e) (sym f)

pub taken_by : (c n : ℕ) (text rest : Text) → text ≡ replicate n c ++ rest → n ≡ length text - length rest
taken_by c n text rest e =
    let l : length text ≡ length (replicate n c ++ rest) = ap length e in
    let m : length (replicate n c ++ rest) ≡ length (replicate n c) + length rest = length-append (replicate n c) rest in
    let k : length (replicate n c) ≡ n = length-replicate n c in
    omega arith

pub run_reads : (rules : Rules) (refs : List Definition) (c last first : ℕ) (opens closes : Bool) (front more next : Text)
    (made : List Inline) → IsRead rules c more →
    Some next ≡ many (λ d. c == d) more → last ≡ last_or 10 front → first ≡ first_or 10 next
    → ((n : ℕ) → opens ≡ (run_between c n last first).opens) → ((n : ℕ) → closes ≡ (run_between c n last first).closes) →
    read_item rules refs (last_or 10 front) made c more
    ≡ (
      Delimiters (record {
        char = c;
        left = suc (run_length c more);
        length = suc (run_length c more);
        opens = opens;
        closes = closes;
      }) ∷ made,
      length more - length next,
    )
unfolding delimiters
run_reads rules refs c last first opens closes front more next made e f g h o k =
    let n : ℕ = run_length c more in
    e refs (last_or 10 front) made
    ∙ (ap₂ (λ a b. run_step made (run_between c (suc n) a b) n) (sym g) (ap (first_or 10) (sym (behind_run c more next f)) ∙ sym h)
    ∙ (ap (λ run. run_step made run n) (run_is c (suc n) last first opens closes (o (suc n)) (k (suc n)))
    ∙ ap (run_step made (own_run c (suc n) opens closes)) (taken_by c n more next (split_at_run c more next f))))

-- ---- a run between two rests

pub run_put : (made new before_it : List Inline) (x : Inline) (plain rest next : Text) → plain ≡ rest → new ≡ x ∷ made
    → made_before made plain rest ≡ before_it → made_before new next next ≡ x ∷ before_it
run_put made new before_it x plain rest next e f g =
    nothing_pending new next ∙ (f ∙ ap (λ those. x ∷ those) (sym (nothing_pending made rest)
    ∙ (ap (λ t. made_before made t rest) (sym e) ∙ g)))

stand_each : (text : Text) → StandIn text (map (λ c. c ∷ []) text)
stand_each [] = tt
stand_each (c ∷ rest) = ([], rest, (refl, stand_each rest))

pub run_slices : (whole plain rest next run : Text) (items those : List MarkRef) → IsRest plain whole → plain ≡ rest → IsRest next rest
    → run ≡ before next rest → AddsEach items those run → AreSlices (before plain whole) items →
    AreSlices (before next whole) those
run_slices whole plain rest next run items those h e g f a s =
    let own : AreSlices run a.added = subst (λ slices. StandIn run slices) (sym (each_slices a.added run a.each)) (stand_each run) in
    subst (λ x. AreSlices (before next whole) x) (sym a.behind)
    (subst (λ t. AreSlices t (items ++ a.added)) (sym (before_both whole rest next (subst (λ t. IsRest t whole) e h) g))
    (slices_both (before rest whole) (before next rest) items a.added (subst (λ t. AreSlices (before t whole) items) e s)
    (subst (λ t. AreSlices t a.added) f own)))

pub run_cut : (run : Text) (items those : List MarkRef) → AddsEach items those run → AreCut items → AreCut those
run_cut run items those a h = subst AreCut (sym a.behind) (cut_both items a.added h (each_cut a.added run a.each))
