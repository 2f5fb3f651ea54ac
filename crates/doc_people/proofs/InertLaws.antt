-- Laws of inert HTML.
use Rattle.std.proofs.Common.{◌≡◌, ℕ, List, [], ◌∷◌, ◌++◌, Bool, true, false, not, ◌&&◌, append-nil, codes, refl, ap, sym, ◌∙◌}
use Rattle.std.specs.Char.{eq_ignore_ascii_case}
use Rattle.std.specs.List.{list_all}
use Rattle.std.proofs.lemmas.Bool.{and_from, and_left, and_parts, cond_both, false_from_ne_true, or_from, or_parts}
use Rattle.std.proofs.lemmas.Bool.{cond-false, not-true, true≢false}
use Rattle.doc_people.specs.Inert.{begins_in_any_case, begins_form_or_frame, disarmed, ending_line, has_apostrophe}
use Rattle.doc_people.specs.Laws.{InertHtmlHasNoForms, InertHtmlHasNoFrames, InertHtmlStays, holds_in_any_case}

-- a byte of a tag's name: neither `<` nor `&`
abbrev is_plain : ℕ → Bool
is_plain w = not (eq_ignore_ascii_case 60 w) && not (eq_ignore_ascii_case 38 w)

-- a name never begins in a text with this front
abbrev Bars : List ℕ → Type 0
Bars tail = (w : ℕ) (word : List ℕ) → is_plain w ≡ true → begins_in_any_case (w ∷ word) tail ≡ false

bars_nothing : Bars []
bars_nothing w word plain = refl

bars_line : Bars ending_line
bars_line w word plain =
    let parts = and_parts (not (eq_ignore_ascii_case 60 w)) (not (eq_ignore_ascii_case 38 w)) plain in
    and_left (eq_ignore_ascii_case 60 w) _ (not-true (eq_ignore_ascii_case 60 w) parts.0)

-- ---- what stands at the front of disarmed text

module _ (tail : List ℕ) (bars : Bars tail) where
  -- a name at the front of what is disarmed stands at the front of the text
  stands : (word html : List ℕ) → list_all is_plain word ≡ true
      → begins_in_any_case word (disarmed html ++ tail) ≡ true → begins_in_any_case word html ≡ true
  unfolding disarmed
  stands [] html plain begins = refl
  stands (w ∷ word) [] plain begins =
      absurd (true≢false (sym begins ∙ bars w word (and_parts (is_plain w) (list_all is_plain word) plain).0))
  stands (w ∷ word) (b ∷ rest) plain begins =
      let parts = and_parts (is_plain w) (list_all is_plain word) plain in
      cond_both (begins_form_or_frame (b ∷ rest)) (codes "&lt;") (b ∷ [])
      (λ front. begins_in_any_case (w ∷ word) ((front ++ disarmed rest) ++ tail) ≡ true → begins_in_any_case (w ∷ word) (b ∷ rest) ≡ true)
      (λ starts at_front.
      let ampersand = not-true (eq_ignore_ascii_case 38 w)
      (and_parts (not (eq_ignore_ascii_case 60 w)) (not (eq_ignore_ascii_case 38 w)) parts.0).1 in
      absurd (true≢false (sym at_front ∙ and_left (eq_ignore_ascii_case 38 w) _ ampersand)))
      (λ starts at_front.
      let both = and_parts (eq_ignore_ascii_case b w) (begins_in_any_case word (disarmed rest ++ tail)) at_front in
      and_from (eq_ignore_ascii_case b w) (begins_in_any_case word rest) both.0 (stands word rest parts.1 both.1))
      begins

  -- a tag that never stands in such a tail, and that begins a form or a frame, doesn't stand in disarmed text
  module _ (word : List ℕ) (plain : list_all is_plain word ≡ true) (none : holds_in_any_case (60 ∷ word) tail ≡ false) where
    absent : ((text : List ℕ) → begins_form_or_frame text ≡ false → begins_in_any_case (60 ∷ word) text ≡ false)
        → (html : List ℕ) → holds_in_any_case (60 ∷ word) (disarmed html ++ tail) ≡ false
    unfolding disarmed
    absent starts [] = none
    absent starts (b ∷ rest) =
        cond_both (begins_form_or_frame (b ∷ rest)) (codes "&lt;") (b ∷ [])
        (λ front. holds_in_any_case (60 ∷ word) ((front ++ disarmed rest) ++ tail) ≡ false)
        (λ _. absent starts rest)
        (λ isnt_start.
        or_from (begins_in_any_case (60 ∷ word) (b ∷ disarmed rest ++ tail)) (holds_in_any_case (60 ∷ word) (disarmed rest ++ tail))
        (false_from_ne_true (begins_in_any_case (60 ∷ word) (b ∷ disarmed rest ++ tail)) (λ begins.
        let both = and_parts (eq_ignore_ascii_case b 60) (begins_in_any_case word (disarmed rest ++ tail)) begins in
        true≢false
        (sym (and_from (eq_ignore_ascii_case b 60) (begins_in_any_case word rest) both.0 (stands word rest plain both.1))
        ∙ starts (b ∷ rest) isnt_start)))
        (absent starts rest))

  without_form : holds_in_any_case (codes "<form") tail ≡ false → (html : List ℕ)
      → holds_in_any_case (codes "<form") (disarmed html ++ tail) ≡ false
  without_form none =
      absent (codes "form") refl none
      (λ text e. (or_parts (begins_in_any_case (codes "<form") text) (begins_in_any_case (codes "<iframe") text) e).0)

  without_frame : holds_in_any_case (codes "<iframe") tail ≡ false → (html : List ℕ)
      → holds_in_any_case (codes "<iframe") (disarmed html ++ tail) ≡ false
  without_frame none =
      absent (codes "iframe") refl none
      (λ text e. (or_parts (begins_in_any_case (codes "<form") text) (begins_in_any_case (codes "<iframe") text) e).1)

pub inert_html_has_no_forms : InertHtmlHasNoForms
inert_html_has_no_forms html =
    cond_both (has_apostrophe html) ending_line [] (λ tail. holds_in_any_case (codes "<form") (disarmed html ++ tail) ≡ false)
    (λ _. without_form ending_line bars_line refl html) (λ _. without_form [] bars_nothing refl html)

pub inert_html_has_no_frames : InertHtmlHasNoFrames
inert_html_has_no_frames html =
    cond_both (has_apostrophe html) ending_line [] (λ tail. holds_in_any_case (codes "<iframe") (disarmed html ++ tail) ≡ false)
    (λ _. without_frame ending_line bars_line refl html) (λ _. without_frame [] bars_nothing refl html)

-- ---- text that begins no form and no frame

stays : (html : List ℕ) → holds_in_any_case (codes "<form") html ≡ false → holds_in_any_case (codes "<iframe") html ≡ false
    → disarmed html ≡ html
unfolding disarmed
stays [] no_form no_frame = refl
stays (b ∷ rest) no_form no_frame =
    let form = or_parts (begins_in_any_case (codes "<form") (b ∷ rest)) (holds_in_any_case (codes "<form") rest) no_form in
    let frame = or_parts (begins_in_any_case (codes "<iframe") (b ∷ rest)) (holds_in_any_case (codes "<iframe") rest) no_frame in
    let none = or_from (begins_in_any_case (codes "<form") (b ∷ rest)) (begins_in_any_case (codes "<iframe") (b ∷ rest)) form.0 frame.0 in
    ap (λ front. front ++ disarmed rest) (cond-false (begins_form_or_frame (b ∷ rest)) (codes "&lt;") (b ∷ []) none)
    ∙ ap (λ more. b ∷ more) (stays rest form.1 frame.1)

pub inert_html_stays : InertHtmlStays
inert_html_stays html no_form no_frame no_apostrophe =
    ap (λ tail. disarmed html ++ tail) (cond-false (has_apostrophe html) ending_line [] no_apostrophe)
    ∙ append-nil (disarmed html) ∙ stays html no_form no_frame
