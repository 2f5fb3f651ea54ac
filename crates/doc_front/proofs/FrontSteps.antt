-- What front matter and its title make of a text.
use Rattle.std.proofs.Common.{◌≡◌, Bool, true, false, List, [], ◌++◌, refl, ap, sym, ◌∙◌, Option, Some, None}
use Rattle.std.specs.Prelude.{option_and_then, codes, flat_map}
use Rattle.std.specs.List.{concat}
use Rattle.std.specs.Str.{chars}
use Rattle.doc_rules.specs.Characters.{Text}
use Rattle.doc_rules.specs.Lines.{lines_of}
use Rattle.doc_rules.proofs.LineLaws.{lines_join}
use Rattle.doc_front.specs.Titles.{simple_value}
use Rattle.doc_front.specs.Front.{front_in, title_in, has_heading, escaped_char, headed, titled, skipped, with_title}

abbrev Found : Type 0
Found = Option (List Text × List Text)

-- ---- a text without its front matter

skipped_by : Text → Found → Text
skipped_by text found = elim found [ None ↦ text | Some front ↦ concat front.1 ]

pub skipped_is : (text behind : Text) (inside : List Text) → Some (inside, lines_of behind) ≡ front_in (lines_of text)
    → behind ≡ skipped text
unfolding skipped skipped_by
skipped_is text behind inside e = sym (lines_join behind) ∙ ap (skipped_by text) e

pub stays : (text : Text) → None ≡ front_in (lines_of text) → text ≡ skipped text
unfolding skipped skipped_by
stays text e = ap (skipped_by text) e

-- ---- with its title

titled_by : Text → Found → Text
titled_by text found = elim found [ None ↦ text | Some front ↦ titled (option_and_then simple_value (title_in front.0)) front.1 ]

pub with_title_is : (text : Text) (inside behind : List Text) → Some (inside, behind) ≡ front_in (lines_of text)
    → titled (option_and_then simple_value (title_in inside)) behind ≡ with_title text
unfolding with_title titled_by
with_title_is text inside behind e = ap (titled_by text) e

pub with_title_stays : (text : Text) → None ≡ front_in (lines_of text) → text ≡ with_title text
unfolding with_title titled_by
with_title_stays text e = ap (titled_by text) e

heading_by : Text → Text → Bool → Text
heading_by title behind has = elim has [ true ↦ behind | false ↦ headed title behind ]

pub has_one : (title : Option Text) (behind : Text) → true ≡ has_heading (lines_of behind) → behind ≡ titled title (lines_of behind)
unfolding titled heading_by
has_one None behind e = sym (lines_join behind)
has_one (Some title) behind e = sym (lines_join behind) ∙ ap (heading_by title (concat (lines_of behind))) e

pub no_title : (inside : List Text) (behind : Text) → None ≡ title_in inside
    → behind ≡ titled (option_and_then simple_value (title_in inside)) (lines_of behind)
unfolding titled
no_title inside behind e =
    sym (lines_join behind) ∙ ap (λ (o : Option Text). titled (option_and_then simple_value o) (lines_of behind)) e

pub no_value : (inside : List Text) (behind written : Text) → Some written ≡ title_in inside → None ≡ simple_value written
    → behind ≡ titled (option_and_then simple_value (title_in inside)) (lines_of behind)
unfolding titled
no_value inside behind written e f =
    sym (lines_join behind) ∙ ap (λ (o : Option Text). titled o (lines_of behind)) f
    ∙ ap (λ (o : Option Text). titled (option_and_then simple_value o) (lines_of behind)) e

pub title_stands : (inside : List Text) (behind written title text : Text) → Some written ≡ title_in inside
    → Some title ≡ simple_value written → false ≡ has_heading (lines_of behind) → text ≡ headed title behind
    → text ≡ titled (option_and_then simple_value (title_in inside)) (lines_of behind)
unfolding titled heading_by
title_stands inside behind written title text e f g h =
    h
    ∙ ap (headed title) (sym (lines_join behind))
    ∙ ap (heading_by title (concat (lines_of behind))) g
    ∙ ap (λ (o : Option Text). titled o (lines_of behind)) f
    ∙ ap (λ (o : Option Text). titled (option_and_then simple_value o) (lines_of behind)) e

-- ---- a title as a heading

mark : chars (codes "# ") ≡ codes "# "
unfolding chars
mark = refl

gap : chars (codes "\n\n") ≡ codes "\n\n"
unfolding chars
gap = refl

-- what is written piece by piece
pub headed_is : (title behind escaped a b c d e : Text) → a ≡ [] → b ≡ a ++ chars (codes "# ") → c ≡ b ++ escaped
    → d ≡ c ++ chars (codes "\n\n") → e ≡ d ++ behind → escaped ≡ flat_map escaped_char title → e ≡ headed title behind
unfolding headed
headed_is title behind escaped a b c d e none begins writes ends adds is =
    adds
    ∙ ap (λ (t : Text). t ++ behind) (ends
    ∙ (ap (λ (t : Text). t ++ chars (codes "\n\n")) (writes
    ∙ (ap (λ (t : Text). t ++ escaped) (begins ∙ (ap (λ (t : Text). t ++ chars (codes "# ")) none ∙ mark))
    ∙ ap (λ (t : Text). codes "# " ++ t) is))
    ∙ ap (λ (t : Text). (codes "# " ++ flat_map escaped_char title) ++ t) gap))
