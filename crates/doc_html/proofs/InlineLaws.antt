-- Marks as HTML, one after another.
use Rattle.std.proofs.Common.{◌≡◌, ℕ, zero, suc, ◌+◌, ◌<◌, ◌≤◌, List, [], ◌∷◌, ◌++◌, take, length, get_or, refl, ap, sym, ◌∙◌, subst}
use Rattle.std.proofs.Common.{append_assoc, append-nil, arith, chars}
use Rattle.std.proofs.lemmas.List.{take_more}
use Rattle.std.proofs.lemmas.List.Concat.{flat_map-append}
use Rattle.doc_rules.specs.Characters as rules
use Rattle.doc_rules.specs.Escaping.{escaped_char, html_escape}
use Rattle.doc_rules.specs.Inlines.{Inline, literals}
use Rattle.doc_rules.specs.Html.{characters, inline_html, images_after, html_among, inlines_html}
use Rattle.doc_rules.specs.PlainTexts.{plain}
use Rattle.doc_inlines_marks.specs.Views.{span_shown, inlines_in, inlines_shown}
use Rattle.doc_inlines_marks.specs.declared.mark_ref.SpanRef.TheVariants as span
use Rattle.doc_inlines_marks.specs.declared.mark_ref.MarkRef.{MarkRef}
use Rattle.doc_inlines_marks.specs.declared.mark_ref.MarkRef.TheVariants.{Text, Code, Soft, Hard, Raw, Reference, Start, End}
use Rattle.doc_html.specs.InlineSteps.{images_along, images_behind, mark_html, mark_plain}
use Rattle.doc_html.proofs.WriterSteps.{characters_append}

-- ---- literals

one_more : (c : ℕ) (rest : rules.Text) → characters (html_escape (c ∷ [])) ++ characters (html_escape rest)
    ≡ characters (html_escape (c ∷ rest))
unfolding html_escape
one_more c rest = sym (characters_append (html_escape (c ∷ [])) (html_escape rest))
    ∙ ap (λ t. characters (t ++ html_escape rest)) (append-nil (escaped_char c))

literals_html : (text : rules.Text) → inlines_html 0 (literals text) ≡ characters (html_escape text)
unfolding inlines_html html_among images_after inline_html html_escape characters
literals_html [] = refl
literals_html (c ∷ rest) = ap (λ t. characters (html_escape (c ∷ [])) ++ t) (literals_html rest) ∙ one_more c rest

literals_inside : (n : ℕ) (text : rules.Text) → inlines_html (suc n) (literals text) ≡ characters (html_escape text)
unfolding inlines_html html_among images_after plain html_escape characters
literals_inside n [] = refl
literals_inside n (c ∷ rest) = ap (λ t. characters (html_escape (c ∷ [])) ++ t) (literals_inside n rest) ∙ one_more c rest

literals_along : (n : ℕ) (text : rules.Text) → images_along n (literals text) ≡ n
unfolding images_along images_after
literals_along n [] = refl
literals_along zero (c ∷ rest) = literals_along zero rest
literals_along (suc n) (c ∷ rest) = literals_along (suc n) rest

-- ---- one mark

outside_0 : (mark : MarkRef) → inlines_html 0 (inlines_in mark) ≡ mark_html mark
unfolding inlines_in inlines_html html_among images_after inline_html span_shown
outside_0 (Text text) = literals_html (chars text.now)
outside_0 (Code text) = append-nil _
outside_0 Soft = append-nil _
outside_0 Hard = append-nil _
outside_0 (Raw text) = append-nil _
outside_0 (Reference reference) = append-nil _
outside_0 (Start span.Emphasis) = append-nil _
outside_0 (Start span.Strong) = append-nil _
outside_0 (Start span.Strike) = append-nil _
outside_0 (Start (span.Link target)) = append-nil _
outside_0 (Start (span.Image target)) = append-nil _
outside_0 (End span.Emphasis) = append-nil _
outside_0 (End span.Strong) = append-nil _
outside_0 (End span.Strike) = append-nil _
outside_0 (End (span.Link target)) = append-nil _
outside_0 (End (span.Image target)) = append-nil _

inside : (n : ℕ) (mark : MarkRef) → 0 < images_behind (suc n) mark
    → inlines_html (suc n) (inlines_in mark) ≡ characters (html_escape (mark_plain mark))
unfolding inlines_in inlines_html html_among images_after plain span_shown html_escape characters
inside n (Text text) h = literals_inside n (chars text.now)
inside n (Code text) h = append-nil _
inside n Soft h = append-nil _
inside n Hard h = append-nil _
inside n (Raw text) h = refl
inside n (Reference reference) h = append-nil _
inside n (Start span.Emphasis) h = refl
inside n (Start span.Strong) h = refl
inside n (Start span.Strike) h = refl
inside n (Start (span.Link target)) h = refl
inside n (Start (span.Image target)) h = refl
inside n (End span.Emphasis) h = refl
inside n (End span.Strong) h = refl
inside n (End span.Strike) h = refl
inside n (End (span.Link target)) h = refl
inside zero (End (span.Image target)) h = absurd (omega arith)
inside (suc n) (End (span.Image target)) h = refl

last : (n : ℕ) (mark : MarkRef) → images_behind (suc n) mark ≡ 0 → inlines_html (suc n) (inlines_in mark) ≡ mark_html mark
unfolding inlines_in inlines_html html_among images_after inline_html span_shown
last n (Text text) h = absurd (omega arith)
last n (Code text) h = absurd (omega arith)
last n Soft h = absurd (omega arith)
last n Hard h = absurd (omega arith)
last n (Raw text) h = absurd (omega arith)
last n (Reference reference) h = absurd (omega arith)
last n (Start span.Emphasis) h = absurd (omega arith)
last n (Start span.Strong) h = absurd (omega arith)
last n (Start span.Strike) h = absurd (omega arith)
last n (Start (span.Link target)) h = absurd (omega arith)
last n (Start (span.Image target)) h = absurd (omega arith)
last n (End span.Emphasis) h = absurd (omega arith)
last n (End span.Strong) h = absurd (omega arith)
last n (End span.Strike) h = absurd (omega arith)
last n (End (span.Link target)) h = absurd (omega arith)
last zero (End (span.Image target)) h = append-nil _
last (suc n) (End (span.Image target)) h = absurd (omega arith)

pub is_inside : (n after : ℕ) (mark : MarkRef) → after ≡ images_behind n mark → 0 < n → 0 < after
    → characters (html_escape (mark_plain mark)) ≡ inlines_html n (inlines_in mark)
is_inside zero after mark e h g = absurd (omega arith)
is_inside (suc n) after mark e h g = sym (inside n mark (subst (λ k. 0 < k) e g))

pub is_outside : (n after : ℕ) (mark : MarkRef) → after ≡ images_behind n mark → (0 < n → after ≡ 0)
    → mark_html mark ≡ inlines_html n (inlines_in mark)
is_outside zero after mark e h = sym (outside_0 mark)
is_outside (suc n) after mark e h = sym (last n mark (sym e ∙ h (omega arith)))

along : (n : ℕ) (mark : MarkRef) → images_along n (inlines_in mark) ≡ images_behind n mark
unfolding inlines_in images_along images_after span_shown
along n (Text text) = literals_along n (chars text.now)
along zero (Code text) = refl
along (suc n) (Code text) = refl
along zero Soft = refl
along (suc n) Soft = refl
along zero Hard = refl
along (suc n) Hard = refl
along zero (Raw text) = refl
along (suc n) (Raw text) = refl
along zero (Reference reference) = refl
along (suc n) (Reference reference) = refl
along zero (Start span.Emphasis) = refl
along (suc n) (Start span.Emphasis) = refl
along zero (Start span.Strong) = refl
along zero (Start span.Strike) = refl
along (suc n) (Start span.Strong) = refl
along (suc n) (Start span.Strike) = refl
along zero (Start (span.Link target)) = refl
along (suc n) (Start (span.Link target)) = refl
along n (Start (span.Image target)) = omega arith
along zero (End span.Emphasis) = refl
along (suc n) (End span.Emphasis) = refl
along zero (End span.Strong) = refl
along zero (End span.Strike) = refl
along (suc n) (End span.Strong) = refl
along (suc n) (End span.Strike) = refl
along zero (End (span.Link target)) = refl
along (suc n) (End (span.Link target)) = refl
along zero (End (span.Image target)) = omega arith
along (suc n) (End (span.Image target)) = omega arith

-- ---- several marks

html_append : (n : ℕ) (xs ys : List Inline) → inlines_html n (xs ++ ys) ≡ inlines_html n xs ++ inlines_html (images_along n xs) ys
unfolding inlines_html images_along
html_append n [] ys = refl
html_append n (x ∷ xs) ys =
    ap (λ t. html_among n (images_after n x) x ++ t) (html_append (images_after n x) xs ys)
    ∙ sym (append_assoc (html_among n (images_after n x) x) (inlines_html (images_after n x) xs)
    (inlines_html (images_along (images_after n x) xs) ys))

along_append : (n : ℕ) (xs ys : List Inline) → images_along n (xs ++ ys) ≡ images_along (images_along n xs) ys
unfolding images_along
along_append n [] ys = refl
along_append n (x ∷ xs) ys = along_append (images_after n x) xs ys

pub shown_more : (marks : List MarkRef) (i : ℕ) (d : MarkRef) → i < length marks
    → inlines_shown (take (i + 1) marks) ≡ inlines_shown (take i marks) ++ inlines_in (get_or marks i d)
shown_more marks i d h =
    ap inlines_shown (take_more marks i d h)
    ∙ (flat_map-append inlines_in (take i marks) (get_or marks i d ∷ [])
    ∙ ap (λ t. inlines_shown (take i marks) ++ t) (append-nil (inlines_in (get_or marks i d))))

pub along_more : (marks : List MarkRef) (i : ℕ) (mark : MarkRef) (n m : ℕ) → i < length marks → mark ≡ get_or marks i mark
    → n ≡ images_along 0 (inlines_shown (take i marks)) →
    m ≡ images_behind n mark → m ≡ images_along 0 (inlines_shown (take (i + 1) marks))
along_more marks i mark n m h e f g =
    g ∙ (sym (along n mark) ∙ (ap (λ k. images_along k (inlines_in mark)) f
    ∙ (sym (along_append 0 (inlines_shown (take i marks)) (inlines_in mark))
    ∙ ap (images_along 0) (ap (λ x. inlines_shown (take i marks) ++ inlines_in x) e ∙ sym (shown_more marks i mark h)))))

pub html_more : (marks : List MarkRef) (i : ℕ) (mark : MarkRef) (n : ℕ) → i < length marks → mark ≡ get_or marks i mark
    → n ≡ images_along 0 (inlines_shown (take i marks)) →
    inlines_html 0 (inlines_shown (take i marks)) ++ inlines_html n (inlines_in mark) ≡ inlines_html 0 (inlines_shown (take (i + 1) marks))
html_more marks i mark n h e f =
    ap (λ k. inlines_html 0 (inlines_shown (take i marks)) ++ inlines_html k (inlines_in mark)) f
    ∙ (sym (html_append 0 (inlines_shown (take i marks)) (inlines_in mark))
    ∙ ap (inlines_html 0) (ap (λ x. inlines_shown (take i marks) ++ inlines_in x) e ∙ sym (shown_more marks i mark h)))

-- one image more at most
pub few_more : (n : ℕ) (mark : MarkRef) → images_behind n mark ≤ n + 1
few_more n (Text text) = omega arith
few_more n (Code text) = omega arith
few_more n Soft = omega arith
few_more n Hard = omega arith
few_more n (Raw text) = omega arith
few_more n (Reference reference) = omega arith
few_more n (Start span.Emphasis) = omega arith
few_more n (Start span.Strong) = omega arith
few_more n (Start span.Strike) = omega arith
few_more n (Start (span.Link target)) = omega arith
few_more n (Start (span.Image target)) = omega arith
few_more n (End span.Emphasis) = omega arith
few_more n (End span.Strong) = omega arith
few_more n (End span.Strike) = omega arith
few_more n (End (span.Link target)) = omega arith
few_more n (End (span.Image target)) = omega arith

pub html_begins : inlines_html 0 [] ≡ []
unfolding inlines_html
html_begins = refl

pub along_begins : 0 ≡ images_along 0 []
unfolding images_along
along_begins = refl
