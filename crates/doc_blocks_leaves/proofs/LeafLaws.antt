-- Lines of leaves: one more of them, and what the first one of a leaf says.
use Rattle.std.proofs.Common.{◌≡◌, ℕ, zero, suc, Bool, true, false, List, [], ◌∷◌, ◌++◌, refl, ap, sym, ◌∙◌, append_assoc, append-nil}
use Rattle.std.specs.Prelude.{◌-◌, ◌&&◌, nat_lt, nat_le}
use Rattle.std.proofs.lemmas.List.Folds.{list_all-map}
use Rattle.std.proofs.lemmas.Grind.{flat_map-append}
use Rattle.doc_rules.specs.Characters.{Text, is_space_or_tab, is_blank_text}
use Rattle.doc_rules.specs.Columns.{Cell, Line, text_of, is_gap, spaces, skip, after_indent, is_blank_line}
use Rattle.doc_rules.specs.Lists.{is_last_blank}
use Rattle.doc_rules.specs.Blocks.{ended, joined, without_last_blanks}
use Rattle.doc_blocks_leaves.proofs.TreePaths.{HasLine}
use Rattle.doc_blocks_leaves.specs.Leaves.{kept_with, html_with}

-- ---- one more line

pub last_blank : (lines : List Text) (line : Text) → is_last_blank (lines ++ line ∷ []) ≡ is_blank_text line
unfolding is_last_blank
last_blank [] line = refl
last_blank (first ∷ []) line = refl
last_blank (first ∷ next ∷ more) line = last_blank (next ∷ more) line

pub ended_more : (lines : List Text) (line : Text) → ended (lines ++ line ∷ []) ≡ ended lines ++ (line ++ 10 ∷ [])
unfolding ended
ended_more lines line = flat_map-append (λ l. l ++ 10 ∷ []) lines (line ∷ [])
    ∙ ap (λ more. ended lines ++ more) (append-nil (line ++ 10 ∷ []))

pub joined_more : (lines : List Text) (line : Text) → HasLine lines → joined (lines ++ line ∷ []) ≡ joined lines ++ 10 ∷ line
unfolding joined
joined_more [] line h = absurd h
joined_more (first ∷ []) line h = refl
joined_more (first ∷ next ∷ more) line h =
    ap (λ rest. first ++ 10 ∷ rest) (joined_more (next ∷ more) line tt) ∙ sym (append_assoc first (10 ∷ joined (next ∷ more)) (10 ∷ line))

abbrev pub kept_lines : List Text → Text → Bool → List Text
kept_lines lines line blank = elim blank [ true ↦ without_last_blanks lines | false ↦ lines ++ line ∷ [] ]

abbrev onto_kept : Text → List Text → List Text
onto_kept first kept = elim kept [ [] ↦ elim (is_blank_text first) [ true ↦ [] | false ↦ first ∷ [] ] | next ∷ rest ↦ first ∷ next ∷ rest ]

kept_onto : (first : Text) (more : List Text) (line : Text) (blank : Bool)
    → onto_kept first (kept_lines more line blank) ≡ kept_lines (first ∷ more) line blank
unfolding without_last_blanks
kept_onto first more line true = refl
kept_onto first [] line false = refl
kept_onto first (next ∷ more) line false = refl

pub kept_more : (lines : List Text) (line : Text) → without_last_blanks (lines ++ line ∷ []) ≡ kept_lines lines line (is_blank_text line)
unfolding without_last_blanks
kept_more [] line = refl
kept_more (first ∷ more) line = ap (onto_kept first) (kept_more more line) ∙ kept_onto first more line (is_blank_text line)

-- ---- blank lines

pub blank_text : (line : Line) → is_blank_text (text_of line) ≡ is_blank_line line
unfolding text_of
blank_text line = list_all-map is_space_or_tab (λ (cell : Cell). cell.char) line

spaces_blank : (n : ℕ) (line : Line) → is_blank_line (spaces n ++ line) ≡ is_blank_line line
spaces_blank zero line = refl
spaces_blank (suc n) line = spaces_blank n line

abbrev skipped : ℕ → Cell → Line → (wide : Bool) → Line
skipped n cell rest wide = elim wide [ true ↦ skip (n - cell.width) rest | false ↦ spaces (cell.width - n) ++ rest ]

blank_skipped : (n : ℕ) (cell : Cell) (rest : Line) → ((m : ℕ) → is_blank_line (skip m rest) ≡ is_blank_line rest) → (wide : Bool)
    → is_blank_line (skipped n cell rest wide) ≡ is_blank_line rest
blank_skipped n cell rest more true = more (n - cell.width)
blank_skipped n cell rest more false = spaces_blank (cell.width - n) rest

blank_at : (n : ℕ) (cell : Cell) (rest : Line) → ((m : ℕ) → is_blank_line (skip m rest) ≡ is_blank_line rest) → (gap some : Bool)
    → is_gap cell ≡ gap →
    is_blank_line (elim (gap && some) [ false ↦ cell ∷ rest | true ↦ skipped n cell rest (nat_le cell.width n) ])
    ≡ is_gap cell && is_blank_line rest
blank_at n cell rest more true true e = blank_skipped n cell rest more (nat_le cell.width n) ∙ ap (λ b. b && is_blank_line rest) (sym e)
blank_at n cell rest more true false e = refl
blank_at n cell rest more false some e = refl

blank_behind : (n : ℕ) (line : Line) → is_blank_line (skip n line) ≡ is_blank_line line
unfolding skip
blank_behind n [] = refl
blank_behind n (cell ∷ rest) = blank_at n cell rest (λ m. blank_behind m rest) (is_gap cell) (nat_lt 0 n) refl

pub blank_skip : (n : ℕ) (line : Line) → is_blank_text (text_of (skip n line)) ≡ is_blank_line line
blank_skip n line = blank_text (skip n line) ∙ blank_behind n line

blank_indent_at : (cell : Cell) (rest : Line) → is_blank_line (after_indent rest) ≡ is_blank_line rest → (gap : Bool) → is_gap cell ≡ gap →
    is_blank_line (elim gap [ true ↦ after_indent rest | false ↦ cell ∷ rest ]) ≡ is_gap cell && is_blank_line rest
blank_indent_at cell rest more true e = more ∙ ap (λ b. b && is_blank_line rest) (sym e)
blank_indent_at cell rest more false e = refl

blank_indent : (line : Line) → is_blank_line (after_indent line) ≡ is_blank_line line
unfolding after_indent
blank_indent [] = refl
blank_indent (cell ∷ rest) = blank_indent_at cell rest (blank_indent rest) (is_gap cell) refl

pub blank_after_indent : (line : Line) → is_blank_text (text_of line) ≡ is_blank_text (text_of (after_indent line))
blank_after_indent line = blank_text line ∙ (sym (blank_indent line) ∙ sym (blank_text (after_indent line)))

-- ---- the text before the last blank lines

code_kept_at : (lines : List Text) (line : Text) (blank : Bool) →
    elim blank [ true ↦ ended (without_last_blanks lines) | false ↦ ended lines ++ (line ++ 10 ∷ []) ] ≡ ended (kept_lines lines line blank)
code_kept_at lines line true = refl
code_kept_at lines line false = sym (ended_more lines line)

pub code_kept : (line : Line) (lines : List Text) (text : Text) → is_blank_text text ≡ is_blank_line line →
    kept_with line (ended lines ++ (text ++ 10 ∷ [])) (ended (without_last_blanks lines)) ≡ ended (without_last_blanks (lines ++ text ∷ []))
code_kept line lines text e =
    code_kept_at lines text (is_blank_line line) ∙ (ap (λ b. ended (kept_lines lines text b)) (sym e)
    ∙ ap ended (sym (kept_more lines text)))

html_kept_at : (lines : List Text) (line : Text) → HasLine lines → (blank : Bool) →
    elim blank [ true ↦ joined (without_last_blanks lines) | false ↦ joined lines ++ 10 ∷ line ] ≡ joined (kept_lines lines line blank)
html_kept_at lines line h true = refl
html_kept_at lines line h false = sym (joined_more lines line h)

pub html_kept : (line : Line) (lines : List Text) → HasLine lines →
    kept_with line (html_with line (joined lines)) (joined (without_last_blanks lines))
    ≡ joined (without_last_blanks (lines ++ text_of line ∷ []))
html_kept line lines h =
    html_kept_at lines (text_of line) h (is_blank_line line)
    ∙ (ap (λ b. joined (kept_lines lines (text_of line) b)) (sym (blank_text line)) ∙ ap joined (sym (kept_more lines (text_of line))))
