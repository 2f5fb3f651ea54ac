-- The two ends of a text in UTF-8.
use Rattle.std.proofs.Common.{◌≡◌, ℕ, ◌+◌, ◌-◌, ◌<◌, Bool, true, false, ◌==◌, nat_lt, List, [], ◌∷◌, ◌++◌, length, take, chars, refl, ap}
use Rattle.std.proofs.Common.{sym, ◌∙◌, Option, Some, None, arith, length-append}
use Rattle.std.proofs.Math.Seq.{take-append_seam}
use Rattle.std.specs.Str.{IsUtf8, encode_utf8_all}
use Rattle.std.proofs.lemmas.Str.{encodes-chars}
use Rattle.doc_rules.specs.Characters.{Text}
use Rattle.doc_rules.specs.Parsers.{Parser, inside, line_ending, is_nothing, begins_before, before, passing}
use Rattle.doc_rules.specs.Definitions.{end_of_line}
use Rattle.doc_lines.proofs.Ends.{empty_chars, empty_is_nothing, has_chars}

-- ---- the last character

pub all_but_last : (text front : Text) (c : ℕ) → text ≡ front ++ (c ∷ []) → front ≡ take (length text - 1) text
all_but_last text front c e =
    let f : length text ≡ length (front ++ (c ∷ [])) = ap length e in
    let g : length (front ++ (c ∷ [])) ≡ length front + 1 = length-append front (c ∷ []) in
    let n : length text - 1 ≡ length front = omega arith in
    sym (ap (λ k. take k text) n ∙ (ap (take (length front)) e ∙ take-append_seam front (c ∷ [])))

pub nothing_but_last : (text : Text) → text ≡ [] → text ≡ take (length text - 1) text
nothing_but_last text e = e ∙ sym (ap (λ (xs : Text). take (length xs - 1) xs) e)

-- ---- both

pub inside_is : (text rest front : Text) (c : ℕ) → text ≡ c ∷ rest → front ≡ take (length rest - 1) rest → front ≡ inside text
inside_is text rest front c e f = f ∙ sym (ap inside e)

pub inside_of_nothing : (text : Text) → text ≡ [] → text ≡ inside text
inside_of_nothing text e = e ∙ sym (ap inside e)

-- ---- the end of a line

pub line_ends_here : (text : List ℕ) → length text ≡ 0 → Some (chars text) ≡ end_of_line (chars text)
unfolding end_of_line
line_ends_here text e = ap Some (empty_chars text e) ∙ sym (ap end_of_line (empty_chars text e))

pub line_goes_on : (text : List ℕ) → IsUtf8 text → 0 < length text → line_ending (chars text) ≡ end_of_line (chars text)
unfolding end_of_line
line_goes_on text u h = at (chars text) (encodes-chars text u)
  where
    at : (cs : Text) → encode_utf8_all cs ≡ text → line_ending cs ≡ end_of_line cs
    at [] e = let none : length text ≡ 0 = sym (ap length e) in absurd (omega arith)
    at (c ∷ rest) e = refl

-- ---- the end of a text

ends_there : Option Text → Bool
ends_there found = elim found [ None ↦ false | Some rest ↦ is_nothing rest ]

pub takes_all : (read : Parser) (text : Text) (rest : List ℕ) → IsUtf8 rest → Some (chars rest) ≡ read text
    → (length rest == 0) ≡ begins_before is_nothing read text
unfolding ends_there
takes_all read text rest u e = empty_is_nothing rest u ∙ ap ends_there e

-- ---- what was taken

tested : Text → Bool → Option Text
tested rest b = elim b [ true ↦ Some rest | false ↦ None ]

if_fits : (Text → Bool) → Text → Option Text → Option Text
unfolding tested
if_fits test text found = elim found [ None ↦ None | Some rest ↦ elim (test (before rest text)) [ true ↦ Some rest | false ↦ None ] ]

-- something was
pub something_taken : (read : Parser) (text rest : Text) (front : List ℕ) → Some rest ≡ read text → IsUtf8 front
    → chars front ≡ before rest text → 0 < length front →
    Some rest ≡ passing (λ taken. nat_lt 0 (length taken)) read text
unfolding tested if_fits
something_taken read text rest front e u f h =
    let full : nat_lt 0 (length (before rest text)) ≡ true = ap (λ (cs : Text). nat_lt 0 (length cs)) (sym f) ∙ has_chars front u h in
    sym (ap (tested rest) full) ∙ ap (if_fits (λ taken. nat_lt 0 (length taken)) text) e

-- nothing was
pub nothing_taken : (read : Parser) (text rest : Text) (front : List ℕ) → Some rest ≡ read text → chars front ≡ before rest text
    → length front ≡ 0 →
    None ≡ passing (λ taken. nat_lt 0 (length taken)) read text
unfolding tested if_fits
nothing_taken read text rest front e f h =
    let empty : nat_lt 0 (length (before rest text)) ≡ false = ap (λ (cs : Text). nat_lt 0 (length cs)) (sym f ∙ empty_chars front h) in
    sym (ap (tested rest) empty) ∙ ap (if_fits (λ taken. nat_lt 0 (length taken)) text) e
