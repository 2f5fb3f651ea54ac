-- When all of a text is read.
use Rattle.std.proofs.Common.{◌≡◌, chars, List, [], ◌++◌, reverse, ap, ap₂, sym, ◌∙◌, subst, append-nil}
use Rattle.doc_rules.specs.Characters.{Text, last_or}
use Rattle.doc_rules.specs.Parsers.{before}
use Rattle.doc_rules.specs.Rules.{Rules}
use Rattle.doc_rules.specs.Definitions.{Definition}
use Rattle.doc_rules.specs.Inlines.{Inline}
use Rattle.doc_rules.specs.Emphasis.{emphasis_of}
use Rattle.doc_rules.specs.Reading.{read, inlines_of}
use Rattle.doc_rules.specs.Rests.{IsRest}
use Rattle.doc_rules.proofs.ParserLaws.{before_rest}
use Rattle.doc_inlines_marks.specs.declared.mark_ref.MarkRef.{MarkRef}
use Rattle.doc_inlines_marks.specs.Slices.{AreSlices}
use Rattle.doc_inlines.specs.declared.reader.Reader.{Reader}
use Rattle.doc_inlines.specs.ReadingSteps.{reading}
use Rattle.doc_inlines.specs.DraftSteps.{made_of}
use Rattle.doc_inlines.specs.ReaderSteps.{state_made, made_before, outcome}
use Rattle.doc_inlines.proofs.ReaderLaws.{before_all, nothing_pending}
use Rattle.doc_inlines.proofs.SliceLaws.{slices_both}

reading_nothing : (rules : Rules) (refs : List Definition) (behind : Text) (made : List Inline) (rest : Text) → rest ≡ []
    → reading rules refs behind made rest ≡ made
unfolding read
reading_nothing rules refs behind made rest e = ap (reading rules refs behind made) e

ends_at : (rules : Rules) (refs : List Definition) (r : Reader) → chars r.rest.now ≡ [] → outcome rules refs r ≡ state_made r
unfolding outcome
ends_at rules refs r e = reading_nothing rules refs (before (chars r.rest.now) (chars r.text.now)) (state_made r) (chars r.rest.now) e

begins_at : (rules : Rules) (refs : List Definition) (text : Text) (b : Reader) → chars b.text.now ≡ text → chars b.rest.now ≡ text
    → state_made b ≡ [] → outcome rules refs b ≡ read rules refs 10 [] 0 text
unfolding outcome last_or
begins_at rules refs text b e f g =
    ap₂ (λ t made. reading rules refs (before (chars b.rest.now) t) made (chars b.rest.now)) e g
    ∙ (ap (λ t. reading rules refs (before t text) [] t) f ∙ ap (λ behind. reading rules refs behind [] text) (before_all text))

-- the emphasis of what was made then is that of the rules
pub read_whole : (rules : Rules) (refs : List Definition) (text : Text) (b r f : Reader) (shown : List Inline) → chars b.text.now ≡ text
    → chars b.rest.now ≡ text → state_made b ≡ [] →
    chars r.rest.now ≡ [] → outcome rules refs r ≡ outcome rules refs b → chars f.plain.now ≡ chars f.rest.now
    → state_made f ≡ state_made r → shown ≡ emphasis_of (reverse (made_of f.draft)) →
    shown ≡ inlines_of rules refs text
unfolding inlines_of
read_whole rules refs text b r f shown e g m n o p q s =
    let own : made_of f.draft ≡ read rules refs 10 [] 0 text =
    sym (nothing_pending (made_of f.draft) (chars f.rest.now))
    ∙ (ap (λ t. made_before (made_of f.draft) t (chars f.rest.now)) (sym p)
    ∙ (q ∙ (sym (ends_at rules refs r n) ∙ (o ∙ begins_at rules refs text b e g m)))) in
    s ∙ ap (λ made. emphasis_of (reverse made)) own

slices_in_front : (front rest : Text) (items : List MarkRef) → AreSlices front items → AreSlices (front ++ rest) items
slices_in_front front rest items h = subst (λ those. AreSlices (front ++ rest) those) (append-nil items)
    (slices_both front rest items [] h tt)

pub whole_slices : (whole plain text : Text) (items : List MarkRef) → whole ≡ text → IsRest plain whole
    → AreSlices (before plain whole) items
    → AreSlices text items
whole_slices whole plain text items e h s =
    subst (λ t. AreSlices t items) e (subst (λ t. AreSlices t items) (sym (before_rest plain whole h))
    (slices_in_front (before plain whole) plain items s))
