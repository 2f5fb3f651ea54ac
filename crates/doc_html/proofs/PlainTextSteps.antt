-- Plain texts of marks, one after another.
use Rattle.std.proofs.Common.{◌≡◌, ℕ, ◌+◌, ◌<◌, List, [], ◌∷◌, ◌++◌, take, length, get_or, refl, ap, sym, ◌∙◌, append_assoc, append-nil}
use Rattle.std.specs.Prelude.{encode_utf8_all}
use Rattle.std.specs.Str.{chars, IsUtf8}
use Rattle.std.proofs.lemmas.List.Concat.{flat_map-append}
use Rattle.std.proofs.lemmas.Str.{encodes-append, encodes-chars}
use Rattle.doc_rules.specs.Characters as rules
use Rattle.doc_rules.specs.CodeSpans.{spaced}
use Rattle.doc_rules.specs.Inlines.{literals}
use Rattle.doc_rules.specs.PlainTexts.{plain, plain_text}
use Rattle.doc_inlines_marks.specs.Views.{inlines_in, inlines_shown}
use Rattle.doc_inlines_marks.specs.declared.mark_ref.MarkRef.{MarkRef}
use Rattle.doc_inlines_marks.specs.declared.mark_ref.MarkRef.TheVariants.{Text, Code, Soft, Hard, Raw, Reference, Start, End}
use Rattle.doc_html.specs.InlineSteps.{mark_plain}
use Rattle.doc_html.proofs.InlineLaws.{shown_more}

plain_literals : (text : rules.Text) → plain_text (literals text) ≡ text
unfolding plain_text plain
plain_literals [] = refl
plain_literals (c ∷ rest) = ap (λ t. c ∷ t) (plain_literals rest)

plain_of : (mark : MarkRef) → plain_text (inlines_in mark) ≡ mark_plain mark
unfolding inlines_in plain_text plain
plain_of (Text text) = plain_literals (chars text.now)
plain_of (Code text) = append-nil _
plain_of Soft = refl
plain_of Hard = refl
plain_of (Raw text) = refl
plain_of (Reference reference) = append-nil _
plain_of (Start span) = refl
plain_of (End span) = refl

plain_append : (xs ys : List _) → plain_text (xs ++ ys) ≡ plain_text xs ++ plain_text ys
unfolding plain_text
plain_append xs ys = flat_map-append plain xs ys

plain_more : (marks : List MarkRef) (i : ℕ) (mark : MarkRef) → i < length marks → mark ≡ get_or marks i mark →
    plain_text (inlines_shown (take (i + 1) marks)) ≡ plain_text (inlines_shown (take i marks)) ++ mark_plain mark
plain_more marks i mark h e =
    ap plain_text (shown_more marks i mark h)
    ∙ (plain_append (inlines_shown (take i marks)) (inlines_in (get_or marks i mark))
    ∙ ap (λ t. plain_text (inlines_shown (take i marks)) ++ t) (ap (λ m. plain_text (inlines_in m)) (sym e) ∙ plain_of mark))

pub plain_begins : (bytes : List ℕ) → bytes ≡ [] → bytes ≡ encode_utf8_all (plain_text [])
unfolding plain_text
plain_begins bytes e = e

pub plain_goes_on : (marks : List MarkRef) (i : ℕ) (mark : MarkRef) (old new : List ℕ) → i < length marks → mark ≡ get_or marks i mark →
    old ≡ encode_utf8_all (plain_text (inlines_shown (take i marks))) → new ≡ old ++ encode_utf8_all (mark_plain mark) →
    new ≡ encode_utf8_all (plain_text (inlines_shown (take (i + 1) marks)))
plain_goes_on marks i mark old new h e f g =
    g ∙ (ap (λ t. t ++ encode_utf8_all (mark_plain mark)) f
    ∙ (sym (encodes-append (plain_text (inlines_shown (take i marks))) (mark_plain mark))
    ∙ ap encode_utf8_all (sym (plain_more marks i mark h e))))

pub text_pushed : (old new text : List ℕ) → IsUtf8 text → new ≡ old ++ text → new ≡ old ++ encode_utf8_all (chars text)
text_pushed old new text u e = e ∙ ap (λ t. old ++ t) (sym (encodes-chars text u))

pub both_pushed : (old new : List ℕ) (those : rules.Text) → IsUtf8 old → IsUtf8 new → chars new ≡ chars old ++ those
    → new ≡ old ++ encode_utf8_all those
both_pushed old new those u v e =
    sym (encodes-chars new v)
    ∙ (ap encode_utf8_all e ∙ (encodes-append (chars old) those ∙ ap (λ b. b ++ encode_utf8_all those) (encodes-chars old u)))

-- ---- code

pub line_pushed : (start old a b : List ℕ) (all text line behind : rules.Text)
    → old ++ encode_utf8_all (spaced text) ≡ start ++ encode_utf8_all (spaced all) →
    spaced text ≡ line ++ 32 ∷ spaced behind → a ≡ old ++ encode_utf8_all line → b ≡ a ++ encode_utf8_all (32 ∷ []) →
    b ++ encode_utf8_all (spaced behind) ≡ start ++ encode_utf8_all (spaced all)
line_pushed start old a b all text line behind h e f g =
    ap (λ t. t ++ encode_utf8_all (spaced behind)) (g ∙ ap (λ t. t ++ encode_utf8_all (32 ∷ [])) f)
    ∙ (append_assoc (old ++ encode_utf8_all line) (encode_utf8_all (32 ∷ [])) (encode_utf8_all (spaced behind))
    ∙ (ap (λ t. (old ++ encode_utf8_all line) ++ t) (sym (encodes-append (32 ∷ []) (spaced behind)))
    ∙ (append_assoc old (encode_utf8_all line) (encode_utf8_all (32 ∷ spaced behind))
    ∙ (ap (λ t. old ++ t) (sym (encodes-append line (32 ∷ spaced behind)))
    ∙ (ap (λ t. old ++ encode_utf8_all t) (sym e) ∙ h)))))

pub rest_pushed : (start old new : List ℕ) (all rest : rules.Text)
    → old ++ encode_utf8_all (spaced rest) ≡ start ++ encode_utf8_all (spaced all) → spaced rest ≡ rest →
    new ≡ old ++ encode_utf8_all rest → new ≡ start ++ encode_utf8_all (spaced all)
rest_pushed start old new all rest h e f = f ∙ (ap (λ t. old ++ encode_utf8_all t) (sym e) ∙ h)
