-- The lines of HTML blocks: the white space at a line's front ends none, and a first line that is kept or isn't.
use Rattle.std.proofs.Common.{◌≡◌, ℕ, zero, suc, ◌-◌, Bool, true, false, [], ◌∷◌, ◌++◌, refl, ap, sym, ◌∙◌}
use Rattle.std.specs.Prelude.{replicate}
use Rattle.doc_rules.specs.Characters.{Text, is_blank_text}
use Rattle.doc_rules.specs.Columns.{Line, text_of, is_blank_line}
use Rattle.doc_rules.specs.Parsers.{through, word, word_in_any_case}
use Rattle.doc_rules.specs.HtmlStarts as rules
use Rattle.doc_rules.specs.HtmlStarts.{HtmlKind, ends_html, raw_text_names}
use Rattle.doc_rules.specs.Blocks.{joined, without_last_blanks}
use Rattle.doc_lines.specs.Cursors.{Position, after_next, left_of}
use Rattle.doc_blocks_leaves.proofs.GatheredSteps.{rest_in_tab, rest_out_of_tab}
use Rattle.doc_blocks_leaves.proofs.LeafLaws.{blank_text}

-- ---- ends

space_ends_none : (kind : HtmlKind) (text : Text) → ends_html kind (32 ∷ text) ≡ ends_html kind text
unfolding ends_html through word word_in_any_case raw_text_names
space_ends_none rules.RawText text = refl
space_ends_none rules.Comment text = refl
space_ends_none rules.Instruction text = refl
space_ends_none rules.Declaration text = refl
space_ends_none rules.Cdata text = refl
space_ends_none rules.Element text = refl
space_ends_none rules.AnyTag text = refl

spaces_end_none : (kind : HtmlKind) (n : ℕ) (text : Text) → ends_html kind (replicate n 32 ++ text) ≡ ends_html kind text
spaces_end_none kind zero text = refl
spaces_end_none kind (suc n) text = space_ends_none kind (replicate n 32 ++ text) ∙ spaces_end_none kind n text

-- behind a tab that is used in part
pub ends_behind_tab : (kind : HtmlKind) (line copied behind : Position) (rest : Text) (answer : Bool) →
    line.in_tab ≡ true → copied ≡ line → behind ≡ after_next copied → rest ≡ behind.rest → answer ≡ ends_html kind rest
    → answer ≡ ends_html kind (text_of (left_of line))
ends_behind_tab kind line copied behind rest answer t e f g h =
    let there : rest ≡ (after_next line).rest = g ∙ (ap (λ (p : Position). p.rest) f ∙ ap (λ (p : Position). (after_next p).rest) e) in
    h
    ∙ (ap (ends_html kind) there
    ∙ (sym (spaces_end_none kind ((after_next line).column - line.column) (after_next line).rest)
    ∙ ap (ends_html kind) (sym (rest_in_tab line t))))

pub ends_with_rest : (kind : HtmlKind) (line : Position) (rest : Text) (answer : Bool) →
    line.in_tab ≡ false → rest ≡ line.rest → answer ≡ ends_html kind rest → answer ≡ ends_html kind (text_of (left_of line))
ends_with_rest kind line rest answer t g h = h ∙ ap (ends_html kind) (g ∙ sym (rest_out_of_tab line t))

-- ---- the first line

pub first_is_kept : (line : Line) → joined (without_last_blanks (text_of line ∷ []))
    ≡ elim (is_blank_line line) [ true ↦ [] | false ↦ text_of line ]
unfolding joined without_last_blanks
first_is_kept line = at (is_blank_text (text_of line)) ∙ ap (λ (b : Bool). elim b [ true ↦ [] | false ↦ text_of line ])
    (blank_text line)
  where
    at : (b : Bool) → joined (elim b [ true ↦ [] | false ↦ text_of line ∷ [] ]) ≡ elim b [ true ↦ [] | false ↦ text_of line ]
    at true = refl
    at false = refl
