-- What the first line of a text tells of its front.
use Rattle.std.proofs.Common.{◌≡◌, ℕ, ◌<◌, ◌==◌, length, chars, arith, eq-eqb, Bool, true, false, List}
use Rattle.std.proofs.Common.{[], ap, sym, ◌∙◌, Option, Some, None}
use Rattle.std.specs.Prelude.{◌||◌, ◌&&◌}
use Rattle.std.specs.Str.{IsUtf8}
use Rattle.std.proofs.lemmas.Bool.{both_ways}
use Rattle.std.proofs.lemmas.Bool.Decides.{nat_tests}
use Rattle.doc_page_parts.proofs.Texts.{chars_not_empty}
use Rattle.doc_lines.proofs.Ends.{empty_chars}
use Rattle.doc_rules.specs.Characters.{Text, is_blank_text}
use Rattle.doc_rules.specs.Lines.{lines_of, without_ending}
use Rattle.doc_blocks.specs.ContentSteps.{IsFirstLine}
use Rattle.doc_front.specs.Front.{is_fence, shows_front, is_shown, opened, closed, title_on, title_in, is_first_heading, is_underline}
use Rattle.doc_front.specs.Front.{is_underlined, has_heading}

-- a text without characters has no lines
pub no_lines : (text : Text) → text ≡ [] → lines_of text ≡ []
unfolding lines_of
no_lines text e = ap lines_of e

-- a text without bytes has no characters, and one with bytes has some
pub none_in : (text : List ℕ) (b : Bool) → b ≡ (length text == 0) → b ≡ true → chars text ≡ []
none_in text b e h =
    let test : (length text == 0) ≡ true = sym e ∙ h in
    let none : length text ≡ 0 = grind (arith, nat_tests) in
    empty_chars text none

pub some_in : (text : List ℕ) (b : Bool) → IsUtf8 text → b ≡ (length text == 0) → b ≡ false → 0 < length (chars text)
some_in text b u e h =
    let other : ¬ (length text ≡ 0) = λ k. both_ways (length text == 0) (sym e ∙ h) (eq-eqb (length text) 0 k) in
    chars_not_empty text u (omega arith)

-- what a test answers of the first line
tells : (test : Text → Bool) (text line rest : Text) (b : Bool) → (h : IsFirstLine text line rest) → b ≡ test line
    → test (without_ending h.whole) ≡ b
tells test text line rest b h e = ap test (sym h.content) ∙ sym e

-- ---- where front matter begins

pub shown_first : (text line rest : Text) (b : Bool) → IsFirstLine text line rest → b ≡ shows_front line → b ≡ is_shown (lines_of text)
unfolding is_shown
shown_first text line rest b h e = sym (ap is_shown h.first ∙ tells shows_front text line rest b h e)

pub shown_none : (text : Text) → text ≡ [] → false ≡ is_shown (lines_of text)
unfolding is_shown
shown_none text e = sym (ap is_shown (no_lines text e))

abbrev opened_by : Bool → List Text → Option (List Text)
opened_by begins more = elim begins [ true ↦ Some more | false ↦ None ]

pub opened_first : (text line rest : Text) (a b : Bool) → IsFirstLine text line rest → a ≡ is_fence line → b ≡ is_shown (lines_of rest)
    → opened (lines_of text) ≡ opened_by (a && b) (lines_of rest)
unfolding opened
opened_first text line rest a b h e f =
    ap opened h.first
    ∙ ap (λ (x : Bool). opened_by (x && is_shown (lines_of rest)) (lines_of rest)) (tells is_fence text line rest a h e)
    ∙ ap (λ (x : Bool). opened_by (a && x) (lines_of rest)) (sym f)

pub opened_not : (text line rest : Text) → IsFirstLine text line rest → false ≡ is_fence line → None ≡ opened (lines_of text)
unfolding opened
opened_not text line rest h e =
    sym (ap opened h.first ∙ ap (λ (x : Bool). opened_by (x && is_shown (lines_of rest)) (lines_of rest)) (tells is_fence text line rest
    false h e))

pub opened_none : (text : Text) → text ≡ [] → None ≡ opened (lines_of text)
unfolding opened
opened_none text e = sym (ap opened (no_lines text e))

-- ---- where it ends

abbrev closed_by : Bool → List Text → Option (List Text)
closed_by fence more = elim fence [ true ↦ Some more | false ↦ closed more ]

closed_first : (text line rest : Text) (b : Bool) → IsFirstLine text line rest → b ≡ is_fence line
    → closed (lines_of text) ≡ closed_by b (lines_of rest)
unfolding closed
closed_first text line rest b h e = ap closed h.first ∙ ap (λ (x : Bool). closed_by x (lines_of rest)) (tells is_fence text line rest b h e)

pub closed_here : (whole : Option (List Text)) (text line rest : Text) → whole ≡ closed (lines_of text) → IsFirstLine text line rest
    → true ≡ is_fence line → Some (lines_of rest) ≡ whole
closed_here whole text line rest same h e = sym (same ∙ closed_first text line rest true h e)

pub closed_on : (whole : Option (List Text)) (text line rest : Text) → whole ≡ closed (lines_of text) → IsFirstLine text line rest
    → false ≡ is_fence line → whole ≡ closed (lines_of rest)
closed_on whole text line rest same h e = same ∙ closed_first text line rest false h e

pub closed_never : (whole : Option (List Text)) (text : Text) → whole ≡ closed (lines_of text) → text ≡ [] → None ≡ whole
unfolding closed
closed_never whole text same e = sym (same ∙ ap closed (no_lines text e))

-- ---- its title

abbrev title_by : Bool → Option Text → List Text → Option Text
title_by fence found more = elim fence [ true ↦ None | false ↦ elim found [ Some title ↦ Some title | None ↦ title_in more ] ]

title_first : (text line rest : Text) (b : Bool) → IsFirstLine text line rest → b ≡ is_fence line
    → title_in (lines_of text) ≡ title_by b (title_on line) (lines_of rest)
unfolding title_in
title_first text line rest b h e =
    ap title_in h.first
    ∙ ap (λ (x : Bool). title_by x (title_on (without_ending h.whole)) (lines_of rest)) (tells is_fence text line rest b h e)
    ∙ ap (λ (x : Text). title_by b (title_on x) (lines_of rest)) (sym h.content)

pub title_ends : (whole : Option Text) (text line rest : Text) → whole ≡ title_in (lines_of text) → IsFirstLine text line rest
    → true ≡ is_fence line → None ≡ whole
title_ends whole text line rest same h e = sym (same ∙ title_first text line rest true h e)

pub title_here : (whole : Option Text) (text line rest title : Text) → whole ≡ title_in (lines_of text) → IsFirstLine text line rest
    → false ≡ is_fence line → Some title ≡ title_on line → Some title ≡ whole
title_here whole text line rest title same h e f =
    sym (same ∙ title_first text line rest false h e ∙ ap (λ (o : Option Text). title_by false o (lines_of rest)) (sym f))

pub title_on_next : (whole : Option Text) (text line rest : Text) → whole ≡ title_in (lines_of text) → IsFirstLine text line rest
    → false ≡ is_fence line → None ≡ title_on line → whole ≡ title_in (lines_of rest)
title_on_next whole text line rest same h e f =
    same ∙ title_first text line rest false h e ∙ ap (λ (o : Option Text). title_by false o (lines_of rest)) (sym f)

pub title_never : (whole : Option Text) (text : Text) → whole ≡ title_in (lines_of text) → text ≡ [] → None ≡ whole
unfolding title_in
title_never whole text same e = sym (same ∙ ap title_in (no_lines text e))

-- ---- the heading behind it

pub underlined_first : (text line rest : Text) (b : Bool) → IsFirstLine text line rest → b ≡ is_underline line
    → b ≡ is_underlined (lines_of text)
unfolding is_underlined
underlined_first text line rest b h e = sym (ap is_underlined h.first ∙ tells is_underline text line rest b h e)

pub underlined_none : (text : Text) → text ≡ [] → false ≡ is_underlined (lines_of text)
unfolding is_underlined
underlined_none text e = sym (ap is_underlined (no_lines text e))

abbrev heading_by : Bool → Text → List Text → Bool
heading_by blank line more = elim blank [ true ↦ has_heading more | false ↦ is_first_heading line || is_underlined more ]

heading_first : (text line rest : Text) (b : Bool) → IsFirstLine text line rest → b ≡ is_blank_text line
    → has_heading (lines_of text) ≡ heading_by b line (lines_of rest)
unfolding has_heading
heading_first text line rest b h e =
    ap has_heading h.first
    ∙ ap (λ (x : Bool). heading_by x (without_ending h.whole) (lines_of rest)) (tells is_blank_text text line rest b h e)
    ∙ ap (λ (x : Text). heading_by b x (lines_of rest)) (sym h.content)

pub heading_here : (whole b : Bool) (text line rest : Text) → whole ≡ has_heading (lines_of text) → IsFirstLine text line rest
    → false ≡ is_blank_text line → b ≡ (is_first_heading line || is_underlined (lines_of rest)) → b ≡ whole
heading_here whole b text line rest same h e f = f ∙ sym (same ∙ heading_first text line rest false h e)

pub heading_on : (whole : Bool) (text line rest : Text) → whole ≡ has_heading (lines_of text) → IsFirstLine text line rest
    → true ≡ is_blank_text line → whole ≡ has_heading (lines_of rest)
heading_on whole text line rest same h e = same ∙ heading_first text line rest true h e

pub heading_never : (whole : Bool) (text : Text) → whole ≡ has_heading (lines_of text) → text ≡ [] → false ≡ whole
unfolding has_heading
heading_never whole text same e = sym (same ∙ ap has_heading (no_lines text e))
