-- Escapes, character references, and what takes no slice.
use Rattle.std.proofs.Common.{◌≡◌, Bool, true, false, ◌||◌, ◌&&◌, ◌==◌, chars, ℕ, suc, ◌-◌, ◌≤◌, List, [], ◌∷◌, ◌++◌, length, take, refl}
use Rattle.std.proofs.Common.{ap, sym, ◌∙◌, arith, Option, Some, None, append-nil}
use denote.Ref.{Bor}
use Rattle.std.specs.List.{list_all}
use Rattle.std.specs.Char.{is_ascii_punctuation}
use Rattle.doc_lines.specs.Entities.{characters as both}
use Rattle.doc_rules.specs.Characters.{Text}
use Rattle.doc_rules.specs.Parsers.{before, many, run_length}
use Rattle.doc_rules.specs.Rules.{Rules}
use Rattle.doc_rules.specs.Escapes.{character_reference}
use Rattle.doc_rules.specs.Definitions.{Definition}
use Rattle.doc_rules.specs.Inlines.{Inline, Literal, Reference, HardBreak, literals, onto}
use Rattle.doc_rules.specs.Reading.{kinds, kind_in, item_of_kind, read_item, backslash, ampersand, Step}
use Rattle.doc_rules.specs.Rests.{IsRest}
use Rattle.doc_rules.proofs.ParserLaws.{before_rest, is_rest_again, rest_is_shorter}
use Rattle.doc_inlines_marks.specs.declared.mark_ref.ReferenceRef.{ReferenceRef}
use Rattle.doc_inlines_marks.specs.declared.mark_ref.MarkRef.TheVariants as mark
use Rattle.doc_inlines_marks.specs.Slices.{slice_in, is_cut}
use Rattle.doc_inlines_marks.specs.Views.{inlines_in}
use Rattle.doc_inlines.specs.ReaderSteps.{is_uncut, MarkStands}
use Rattle.doc_inlines.proofs.ReadingLaws.{before_is}
use Rattle.doc_inlines.proofs.ReaderLaws.{own_slice}
use Rattle.doc_inlines.proofs.ItemLaws.{first_before, first_behind}
use Rattle.doc_inlines.proofs.SliceLaws.{slices_widened}
use Rattle.doc_inlines.proofs.RunLaws.{split_at_run, taken_by}

-- ---- a character that stays

and_true : (b : Bool) → b ≡ true → (b && true) ≡ true
and_true true e = refl
and_true false e = absurd cc

pub first_uncut : (c : ℕ) (more rest : Text) → rest ≡ c ∷ more → is_uncut c ≡ true → list_all is_uncut (before more rest) ≡ true
first_uncut c more rest e f = ap (list_all is_uncut) (first_before c more rest e) ∙ and_true (is_uncut c) f

pub first_made : (c : ℕ) (more rest : Text) (made new : List Inline) → rest ≡ c ∷ more → new ≡ onto (literals (before more rest)) made
    → new ≡ Literal c ∷ made
first_made c more rest made new e f = f ∙ ap (λ t. onto (literals t) made) (first_before c more rest e)

-- ---- a mark without a slice

pub hard_stands : (rest next : Text) → IsRest next rest → MarkStands mark.Hard rest next
unfolding slice_in
hard_stands rest next g = record { behind = g; slices = tt; cut = tt }

pub hard_made : (made new : List Inline) → new ≡ onto (inlines_in mark.Hard) made → new ≡ HardBreak ∷ made
unfolding inlines_in
hard_made made new e = e

-- ---- a '\'

pub spaces_taken : (rest next : Text) → Some next ≡ many (λ d. 32 == d) rest → run_length 32 rest ≡ length rest - length next
spaces_taken rest next e = taken_by 32 (run_length 32 rest) rest next (split_at_run 32 rest next e)

pub ending_reads : (rules : Rules) (refs : List Definition) (last : ℕ) (made : List Inline) (d : ℕ) (more rest next : Text)
    → more ≡ d ∷ rest → d ≡ 10 → IsRest next rest → Some next ≡ many (λ d. 32 == d) rest →
    read_item rules refs last made 92 more ≡ (HardBreak ∷ made, length more - length next)
unfolding read_item kinds kind_in item_of_kind backslash
ending_reads rules refs last made d more rest next e f g h =
    let n : run_length 32 rest ≡ length rest - length next = spaces_taken rest next h in
    let l : length next ≤ length rest = rest_is_shorter next rest g in
    let m : length more ≡ length (d ∷ rest) = ap length e in
    let k : suc (run_length 32 rest) ≡ length more - length next = omega arith in
    ap (λ text. read_item rules refs last made 92 text) (e ∙ ap (λ c. c ∷ rest) f) ∙ ap (λ n. (HardBreak ∷ made, n)) k

abbrev if_punctuation : List Inline → ℕ → Bool → Step
if_punctuation made d b = elim b [ true ↦ (Literal d ∷ made, 1) | false ↦ (Literal 92 ∷ made, 0) ]

abbrev if_ending : List Inline → ℕ → Text → Bool → Step
if_ending made d rest b = elim b [
  | true ↦ (HardBreak ∷ made, suc (run_length 32 rest))
  | false ↦ if_punctuation made d
      (is_ascii_punctuation d)
]

backslash_reads : (rules : Rules) (refs : List Definition) (last : ℕ) (made : List Inline) (d : ℕ) (rest : Text) → (d == 10) ≡ false
    → read_item rules refs last made 92 (d ∷ rest) ≡ if_punctuation made d (is_ascii_punctuation d)
unfolding read_item kinds kind_in item_of_kind backslash
backslash_reads rules refs last made d rest e = ap (if_ending made d rest) e

pub escape_reads : (rules : Rules) (refs : List Definition) (last : ℕ) (made : List Inline) (d : ℕ) (more rest : Text) → more ≡ d ∷ rest
    → (d == 10) ≡ false → is_ascii_punctuation d ≡ true →
    read_item rules refs last made 92 more ≡ (Literal d ∷ made, length more - length rest)
escape_reads rules refs last made d more rest e f g =
    let m : length more ≡ length (d ∷ rest) = ap length e in
    let k : 1 ≡ length more - length rest = omega arith in
    ap (λ text. read_item rules refs last made 92 text) e ∙ (backslash_reads rules refs last made d rest f
    ∙ (ap (if_punctuation made d) g ∙ ap (λ n. (Literal d ∷ made, n)) k))

pub lone_reads : (rules : Rules) (refs : List Definition) (last : ℕ) (made : List Inline) (d : ℕ) (more rest : Text) → more ≡ d ∷ rest
    → (d == 10) ≡ false → is_ascii_punctuation d ≡ false →
    read_item rules refs last made 92 more ≡ (Literal 92 ∷ made, 0)
lone_reads rules refs last made d more rest e f g =
    ap (λ text. read_item rules refs last made 92 text) e ∙ (backslash_reads rules refs last made d rest f ∙ ap (if_punctuation made d) g)

pub last_reads : (rules : Rules) (refs : List Definition) (last : ℕ) (made : List Inline) (more : Text) → more ≡ []
    → read_item rules refs last made 92 more ≡ (Literal 92 ∷ made, 0)
unfolding read_item kinds kind_in item_of_kind backslash
last_reads rules refs last made more e = ap (λ text. read_item rules refs last made 92 text) e

-- the character behind the '\' has a mark of its own
pub escaped_stands : (c d : ℕ) (rest more next : Text) (text : Bor Text) → rest ≡ c ∷ more → more ≡ d ∷ next
    → chars text.now ≡ before next more → MarkStands (mark.Text text) rest next
unfolding is_cut
escaped_stands c d rest more next text e f g =
    let own : chars text.now ≡ d ∷ [] = g ∙ first_before d next more f in
    let behind : IsRest next rest = is_rest_again rest more next (first_behind d next more f) (first_behind c more rest e) in
    let whole : before next rest ≡ (c ∷ []) ++ chars text.now =
    ap (before next) (e ∙ ap (λ t. c ∷ t) f) ∙ (before_is (c ∷ d ∷ []) next ∙ ap (λ t. c ∷ t) (sym own)) in
    record {
      behind = behind;
      slices = slices_widened (before next rest) (c ∷ []) (chars text.now) (mark.Text text ∷ []) whole (own_slice text);
      cut = ap (λ t. (length t == 1) || list_all is_uncut t) own;
    }

pub escaped_made : (d : ℕ) (more next : Text) (text : Bor Text) (made new : List Inline) → more ≡ d ∷ next
    → chars text.now ≡ before next more → new ≡ onto (inlines_in (mark.Text text)) made → new ≡ Literal d ∷ made
unfolding inlines_in
escaped_made d more next text made new e f g = g ∙ ap (λ t. onto (literals t) made) (f ∙ first_before d next more e)

-- ---- a '&'

pub reference_reads : (rules : Rules) (refs : List Definition) (last : ℕ) (made : List Inline) (more next characters : Text)
    → character_reference rules more ≡ Some (characters, length more - length next) →
    read_item rules refs last made 38 more ≡ (Reference (38 ∷ before next more) characters ∷ made, length more - length next)
unfolding read_item kinds kind_in item_of_kind ampersand
reference_reads rules refs last made more next characters e =
    ap (λ found. elim found [ None ↦ (Literal 38 ∷ made, 0) | Some found ↦ (Reference (38 ∷ take found.1 more) found.0 ∷ made, found.1) ]) e

pub no_reference_reads : (rules : Rules) (refs : List Definition) (last : ℕ) (made : List Inline) (more : Text)
    → character_reference rules more ≡ None → read_item rules refs last made 38 more ≡ (Literal 38 ∷ made, 0)
unfolding read_item kinds kind_in item_of_kind ampersand
no_reference_reads rules refs last made more e =
    ap (λ found. elim found [ None ↦ (Literal 38 ∷ made, 0) | Some found ↦ (Reference (38 ∷ take found.1 more) found.0 ∷ made, found.1) ]) e

-- what stands before a rest behind the first character
pub before_behind : (c : ℕ) (rest more next : Text) → rest ≡ c ∷ more → IsRest next more → before next rest ≡ c ∷ before next more
before_behind c rest more next e g =
    ap (before next) (e ∙ ap (λ t. c ∷ t) (before_rest next more g)) ∙ before_is (c ∷ before next more) next

pub reference_stands : (rest next : Text) (reference : Bor ReferenceRef) (source : Bor Text) (those : ℕ × Option ℕ) → IsRest next rest
    → reference.now ≡ record { source = source; those = those } → chars source.now ≡ before next rest
    → MarkStands (mark.Reference reference) rest next
unfolding slice_in
reference_stands rest next reference source those g k e =
    let f : chars reference.now.source.now ≡ before next rest = ap (λ r. chars r.source.now) k ∙ e in
    record {
      behind = g;
      slices = ([], [], (sym f ∙ sym (append-nil (chars reference.now.source.now)), tt));
      cut = tt;
    }

pub reference_made : (rest more next : Text) (reference : Bor ReferenceRef) (source : Bor Text) (those : ℕ × Option ℕ)
    (made new : List Inline)
    → rest ≡ 38 ∷ more → IsRest next more → reference.now ≡ record { source = source; those = those }
    → chars source.now ≡ before next rest →
    new ≡ onto (inlines_in (mark.Reference reference)) made → new ≡ Reference (38 ∷ before next more) (both those) ∷ made
unfolding inlines_in
reference_made rest more next reference source those made new e g h f k =
    k ∙ (ap (λ r. Reference (chars r.source.now) (both r.those) ∷ made) h
    ∙ ap (λ a. Reference a (both those) ∷ made) (f ∙ before_behind 38 rest more next e g))
