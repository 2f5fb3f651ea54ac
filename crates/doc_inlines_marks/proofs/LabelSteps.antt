-- What is too long for a label is none.
use Rattle.std.proofs.Common.{◌≡◌, ◌<◌, ◌≤◌, ◌+◌, ◌-◌, Bool, true, false, not, ◌&&◌, ◌==◌, nat_le, List, ℕ, length, chars, refl, ap, sym}
use Rattle.std.proofs.Common.{◌∙◌, Some, None, arith}
use Rattle.std.proofs.lemmas.Bool.{lt-leb}
use Rattle.std.proofs.lemmas.List.{length-take-le}
use Rattle.std.specs.List.{list_all}
use Rattle.std.specs.Str.{IsUtf8}
use Rattle.std.specs.Prelude.{Option, option_and_then, codes}
use Rattle.doc_rules.specs.Characters.{Text, none_of, is_space_tab_or_ending}
use Rattle.doc_rules.specs.Parsers.{is, before, passing, begins_before, is_nothing}
use Rattle.doc_rules.specs.Labels.{label, label_text, is_label}
use Rattle.doc_rules.proofs.ParserLaws.{rest_is_shorter}
use Rattle.doc_rules.proofs.GrammarLaws.{many_or_escaped_leaves}
use Rattle.doc_refs_parts.proofs.Ends.{takes_all}
use Rattle.doc_inlines_marks.specs.LabelSteps.{IsTooLong}

pub too_long : (text rest : Text) → label_text text ≡ label_text rest → length rest + 1000 ≤ length text → IsTooLong text
too_long text rest e h = (
  omega (arith, h),
  λ after f.
      let shorter : length after ≤ length rest = rest_is_shorter after rest
      (many_or_escaped_leaves (none_of (codes "[]")) rest after (sym (f ∙ e))) in
      omega (arith, h, shorter),
)

-- ---- none is a label

over : (n : ℕ) → 999 < n → nat_le n 999 ≡ false
over n h = lt-leb n 999 h

pub long_is_no_label : (text : Text) → 999 < length text → false ≡ is_label text
unfolding is_label
long_is_no_label text h = sym
    (ap (λ (b : Bool). b && (not (list_all is_space_tab_or_ending text) && begins_before is_nothing label_text text))
    (over (length text) h))

front_length : (text rest : Text) → length rest + 999 < length text → 999 < length (before rest text)
front_length text rest h =
    let fits : length text - length rest ≤ length text = omega arith in
    let taken : length (before rest text) ≡ length text - length rest = length-take-le (length text - length rest) text fits in
    omega (arith, h, taken)

passed : Text → Text → Bool → Option Text
passed text rest b = elim b [ true ↦ Some rest | false ↦ None ]

if_label : Text → Option Text → Option Text
unfolding passed
if_label text found = elim found [ None ↦ None | Some rest ↦ elim (is_label (before rest text)) [ true ↦ Some rest | false ↦ None ] ]

behind_opening : Option Text → Option Text
behind_opening found = option_and_then (is 93) (option_and_then (passing is_label label_text) found)

pub too_long_for_label : (text inside : Text) → Some inside ≡ is 91 text → IsTooLong inside → None ≡ label text
unfolding label behind_opening passed if_label
too_long_for_label text inside e h = ap (option_and_then (is 93)) (at (label_text inside) refl) ∙ ap behind_opening e
  where
    at : (found : Option Text) → found ≡ label_text inside → None ≡ if_label inside found
    at None f = refl
    at (Some rest) f = ap (passed inside rest) (long_is_no_label (before rest inside) (front_length inside rest (h.1 rest f)))

-- ---- one whole text

never : (short some : Bool) → false ≡ (short && (some && false))
never true true = refl
never true false = refl
never false some = refl

pub not_whole : (text : Text) (rest : List ℕ) (empty : Bool) → IsUtf8 rest → Some (chars rest) ≡ label_text text
    → empty ≡ (length rest == 0) → empty ≡ false → empty ≡ is_label text
unfolding is_label
not_whole text rest empty u e f g =
    let short : Bool = nat_le (length text) 999 in
    let some : Bool = not (list_all is_space_tab_or_ending text) in
    g ∙ never short some ∙ ap (λ (all : Bool). short && (some && all)) (sym g ∙ (f ∙ takes_all label_text text rest u e))
