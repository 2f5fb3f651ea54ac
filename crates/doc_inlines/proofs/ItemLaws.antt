-- One item is read.
use Rattle.std.proofs.Common.{◌≡◌, true, ◌||◌, ◌==◌, chars, ℕ, ◌-◌, ◌≤◌, ◌<◌, List, [], ◌∷◌, ◌++◌, length, refl, ap}
use Rattle.std.proofs.Common.{ap₂, sym, ◌∙◌, subst, arith}
use denote.Ref.{Bor}
use Rattle.std.specs.List.{list_all}
use Rattle.doc_rules.specs.Characters.{Text, last_or}
use Rattle.doc_rules.specs.Parsers.{before}
use Rattle.doc_rules.specs.Rules.{Rules}
use Rattle.doc_rules.specs.Inlines.{Inline, Literal, literals, onto}
use Rattle.doc_rules.specs.Reading.{Other, kinds, kind_in, read}
use Rattle.doc_rules.specs.Rests.{IsRest}
use Rattle.doc_rules.proofs.ParserLaws.{before_rest, is_rest_again, rest_is_shorter}
use Rattle.doc_refs_parts.specs.Targets.{Targets}
use Rattle.doc_inlines_marks.specs.declared.mark_ref.MarkRef.TheVariants as mark
use Rattle.doc_inlines_marks.specs.Slices.{AreSlices, is_cut}
use Rattle.doc_inlines_marks.specs.Views.{inlines_in}
use Rattle.doc_inlines.specs.declared.reader.Reader.{Reader}
use Rattle.doc_inlines.specs.ReadingSteps.{begins_always, reading, is_plain}
use Rattle.doc_inlines.specs.PlainSteps.{IsPlainStop}
use Rattle.doc_inlines.specs.ReaderSteps.{is_uncut, state_made, outcome, IsReader, GoesOn, ReadsOn, MarkStands, IsPlainRun, ReadsAs}
use Rattle.doc_inlines.proofs.ReadingLaws.{before_is, item_taken}
use Rattle.doc_inlines.proofs.PlainLaws.{plain_reads, other_item}
use Rattle.doc_inlines.proofs.ReaderLaws.{before_both, own_slice}
use Rattle.std.proofs.lemmas.Bool.{not_from_false, not-true, or_parts, or_from, and_parts, and_from}

-- an item goes on where the new state has what it makes, and its rest
pub goes_on : (rules : Rules) (targets : Targets) (old new : Reader) (c : ℕ) (more next : Text) (made : List Inline) → IsReader old
    → IsReader new → new.text ≡ old.text → chars new.rest.now ≡ next →
    chars old.rest.now ≡ c ∷ more → IsRest next more → ReadsAs rules targets old c more made (length more - length next)
    → state_made new ≡ made → GoesOn rules targets old new
unfolding outcome
goes_on rules targets old new c more next made o n t r e g reads m =
    let whole : Text = chars old.text.now in
    let rest : IsRest (chars old.rest.now) (chars old.text.now) = is_rest_again (chars old.text.now) (chars old.plain.now)
    (chars old.rest.now) o.rest o.plain in
    let l : length next ≤ length more = rest_is_shorter next more g in
    let a : length (chars new.rest.now) ≡ length next = ap length r in
    let b : length (chars old.rest.now) ≡ length (c ∷ more) = ap length e in
    record {
      sound = n;
      text = t;
      reads = λ definitions f.
          ap₂ (λ x y. reading rules definitions (before (chars new.rest.now) (chars x.now)) y (chars new.rest.now)) t m
          ∙ (ap (λ x. reading rules definitions (before x (chars old.text.now)) made x) r
          ∙ sym (item_taken rules definitions (chars old.text.now) (chars old.rest.now) more next (state_made old) made c rest e g
          (reads definitions f)));
      shorter = omega arith;
    }

-- ---- one character alone

pub first_before : (c : ℕ) (more rest : Text) → rest ≡ c ∷ more → before more rest ≡ c ∷ []
first_before c more rest e = ap (before more) e ∙ before_is (c ∷ []) more

pub first_behind : (c : ℕ) (more rest : Text) → rest ≡ c ∷ more → IsRest more rest
first_behind c more rest e = record { front = c ∷ []; split = e }

pub alone_stands : (c : ℕ) (more rest : Text) (text : Bor Text) → rest ≡ c ∷ more → chars text.now ≡ before more rest
    → MarkStands (mark.Text text) rest more
unfolding is_cut
alone_stands c more rest text e f = record {
  behind = first_behind c more rest e;
  slices = subst (λ t. AreSlices t (mark.Text text ∷ [])) f (own_slice text);
  cut = ap (λ t. (length t == 1) || list_all is_uncut t) (f ∙ first_before c more rest e);
}

pub alone_made : (c : ℕ) (more rest : Text) (text : Bor Text) (made new : List Inline) → rest ≡ c ∷ more
    → chars text.now ≡ before more rest → new ≡ onto (inlines_in (mark.Text text)) made → new ≡ Literal c ∷ made
unfolding inlines_in
alone_made c more rest text made new e f g = g ∙ ap (λ t. onto (literals t) made) (f ∙ first_before c more rest e)

pub nothing_taken : (more : Text) → length more - length more ≡ 0
nothing_taken more = omega arith

pub all_behind : (more : Text) → IsRest more more
all_behind more = record { front = []; split = refl }

-- ---- plain characters

last_of_append : (c : ℕ) (xs ys : Text) → last_or c (xs ++ ys) ≡ last_or (last_or c xs) ys
unfolding last_or
last_of_append c [] ys = refl
last_of_append c (x ∷ xs) ys = last_of_append x xs ys

pub stop_reads_on : (rules : Rules) (targets : Targets) (old new : Reader) (next : Text) → IsReader old → IsReader new
    → new.text ≡ old.text → chars new.rest.now ≡ next → IsPlainStop rules (chars old.rest.now) next →
    state_made new ≡ onto (literals (before next (chars old.rest.now))) (state_made old) → ReadsOn rules targets old new
unfolding outcome
stop_reads_on rules targets old new next o n t r p m =
    let rest : IsRest (chars old.rest.now) (chars old.text.now) = is_rest_again (chars old.text.now) (chars old.plain.now)
    (chars old.rest.now) o.rest o.plain in
    let b : Text = before (chars old.rest.now) (chars old.text.now) in
    let run : Text = before next (chars old.rest.now) in
    let made : List Inline = onto (literals (before next (chars old.rest.now))) (state_made old) in
    let a : length (chars new.rest.now) ≡ length next = ap length r in
    let l : length next ≤ length (chars old.rest.now) = rest_is_shorter next (chars old.rest.now) p.behind in
    record {
      sound = n;
      text = t;
      reads = λ definitions f.
          ap₂ (λ x y. reading rules definitions (before (chars new.rest.now) (chars x.now)) y (chars new.rest.now)) t m
          ∙ (ap (λ x. reading rules definitions (before x (chars old.text.now)) made x) r
          ∙ (ap (λ front. read rules definitions (last_or 10 front) made 0 next)
          (before_both (chars old.text.now) (chars old.rest.now) next rest p.behind)
          ∙ (ap (λ last. read rules definitions last made 0 next) (last_of_append 10 b run)
          ∙ (sym (plain_reads rules definitions (last_or 10 b) (state_made old) run next p.plain p.quiet)
          ∙ ap (λ x. read rules definitions (last_or 10 b) (state_made old) 0 x) (sym (before_rest next (chars old.rest.now) p.behind))))));
      no_longer = omega arith;
    }

pub no_longer_then_shorter : (a b c : ℕ) → a ≤ b → b < c → a < c
no_longer_then_shorter a b c h g = omega arith

pub run_goes_on : (rules : Rules) (targets : Targets) (old new : Reader) (next : Text) → IsReader old → IsReader new → new.text ≡ old.text
    → chars new.rest.now ≡ next → IsPlainRun rules (chars old.rest.now) next →
    state_made new ≡ onto (literals (before next (chars old.rest.now))) (state_made old) → GoesOn rules targets old new
run_goes_on rules targets old new next o n t r p m =
    let on = stop_reads_on rules targets old new next o n t r (record { behind = p.behind; plain = p.plain; quiet = p.quiet }) m in
    let a : length (chars new.rest.now) ≡ length next = ap length r in
    record { sound = n; text = t; reads = on.reads; shorter = omega (arith, p.shorter) }

-- plain characters stay as they are in HTML
plain_uncut : (rules : Rules) (c : ℕ) → is_plain rules c ≡ true → is_uncut c ≡ true
plain_uncut rules c h =
    let p0 = or_parts (c == 10) _ (or_parts (begins_always c) _ (not-true _ h)).0 in
    let p1 = or_parts (c == 42) _ p0.1 in
    let p2 = or_parts (c == 95) _ p1.1 in
    let p3 = or_parts (c == 91) _ p2.1 in
    let p4 = or_parts (c == 93) _ p3.1 in
    let p5 = or_parts (c == 96) _ p4.1 in
    let p6 = or_parts (c == 60) _ p5.1 in
    let p7 = or_parts (c == 38) _ p6.1 in
    let p8 = or_parts (c == 92) _ p7.1 in
    let p9 = or_parts (c == 33) _ p8.1 in
    let pa = or_parts (c == 62) _ p9.1 in
    not_from_false _ (or_from (c == 38) _ p7.0 (or_from (c == 60) _ p6.0 (or_from (c == 62) _ pa.0 pa.1)))

pub run_uncut : (rules : Rules) (run : Text) → list_all (is_plain rules) run ≡ true → list_all is_uncut run ≡ true
run_uncut rules [] h = refl
run_uncut rules (c ∷ run) h =
    let p = and_parts (is_plain rules c) (list_all (is_plain rules) run) h in
    and_from (is_uncut c) (list_all is_uncut run) (plain_uncut rules c p.0) (run_uncut rules run p.1)

-- ---- characters that begin nothing

pub other_reads : (rules : Rules) (targets : Targets) (old : Reader) (c : ℕ) (more : Text) → kind_in kinds c ≡ Other
    → ReadsAs rules targets old c more (Literal c ∷ state_made old) 0
other_reads rules targets old c more e = λ definitions f. other_item rules definitions
    (last_or 10 (before (chars old.rest.now) (chars old.text.now))) (state_made old) c more e

pub greater_is_other : kind_in kinds 62 ≡ Other
unfolding kinds kind_in
greater_is_other = refl

pub quote_is_other : kind_in kinds 34 ≡ Other
unfolding kinds kind_in
quote_is_other = refl
