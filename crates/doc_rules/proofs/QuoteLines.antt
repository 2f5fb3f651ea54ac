-- The lines of a quoted text are the quoted lines of the text.
use Rattle.std.proofs.Common.{◌≡◌, ℕ, Bool, true, false, List, [], ◌∷◌, ◌++◌, map, refl, ap, ◌∙◌}
use Rattle.std.specs.Prelude.{◌||◌, ◌&&◌, ◌==◌}
use Rattle.doc_rules.specs.Characters.{Text}
use Rattle.doc_rules.specs.Lines.{ends_line, onto_first, lines_of}
use Rattle.doc_rules.specs.Laws.{quoted_lines, quoted}

abbrev pub marked_line : Text → Text
marked_line line = 62 ∷ 32 ∷ line

-- all lines but the first quoted
later : List Text → Text
later [] = []
later (line ∷ more) = line ++ quoted_lines more

head_kept : List Text → List Text
head_kept [] = []
head_kept (line ∷ more) = line ∷ map marked_line more

abbrev split : ℕ → List Text → Bool → List Text
split c lines b = elim b [ true ↦ (c ∷ []) ∷ lines | false ↦ onto_first c lines ]

abbrev behind : List Text → Bool → Text
behind lines b = elim b [ true ↦ quoted_lines lines | false ↦ later lines ]

later_split : (c : ℕ) (lines : List Text) (b : Bool) → later (split c lines b) ≡ c ∷ behind lines b
unfolding later onto_first
later_split c lines true = refl
later_split c [] false = refl
later_split c (line ∷ more) false = refl

-- what ends a line looks at the first character behind alone
same_end : (d : ℕ) (text : Text) → ends_line d (later (lines_of text)) ≡ ends_line d text
unfolding lines_of ends_line later
same_end d [] = refl
same_end d (c ∷ rest) = ap (ends_line d) (later_split c (lines_of rest) (ends_line c rest))

space_goes_on : (text : Text) → ends_line 32 text ≡ false
unfolding ends_line
space_goes_on [] = refl
space_goes_on (c ∷ rest) = refl

or_true : (a b : Bool) → (a || (b && true)) ≡ (a || b)
or_true true b = refl
or_true false true = refl
or_true false false = refl

weaker : (a b c : Bool) → (a || (b && c)) ≡ true → (a || b) ≡ true
weaker true b c e = refl
weaker false true c e = refl
weaker false false c e = e

ends_before : (c : ℕ) (text : Text) → ends_line c text ≡ true → ((c == 10) || (c == 13)) ≡ true
unfolding ends_line
ends_before c [] e = e
ends_before c (d ∷ rest) e = weaker (c == 10) (c == 13) _ e

ends_quoted : (c : ℕ) (lines : List Text) → ((c == 10) || (c == 13)) ≡ true → ends_line c (quoted_lines lines) ≡ true
unfolding ends_line
ends_quoted c [] e = e
ends_quoted c (line ∷ more) e = or_true (c == 10) (c == 13) ∙ e

head_split : (c : ℕ) (lines : List Text) → onto_first c (head_kept lines) ≡ head_kept (onto_first c lines)
unfolding head_kept onto_first
head_split c [] = refl
head_split c (line ∷ more) = refl

all_marked : (lines : List Text) → lines_of (later lines) ≡ head_kept lines → lines_of (quoted_lines lines) ≡ map marked_line lines
unfolding lines_of later head_kept onto_first ends_line
all_marked [] e = refl
all_marked (line ∷ more) e =
    ap (λ b. onto_first 62 (elim b [
      | true ↦ (32 ∷ []) ∷ lines_of (line ++ quoted_lines more)
      | false ↦ onto_first 32
          (lines_of (line ++ quoted_lines more))
    ])) (space_goes_on (line ++ quoted_lines more))
    ∙ ap (λ ls. onto_first 62 (onto_first 32 ls)) e

nothing_left : lines_of (later []) ≡ head_kept []
unfolding later head_kept lines_of
nothing_left = refl

at_char : (c : ℕ) (rest : Text) → lines_of (later (lines_of rest)) ≡ head_kept (lines_of rest) → (b : Bool) → ends_line c rest ≡ b →
    lines_of (c ∷ behind (lines_of rest) b) ≡ head_kept (split c (lines_of rest) b)
unfolding lines_of head_kept
at_char c rest same true e =
    ap (λ b. elim b [
      | true ↦ (c ∷ []) ∷ lines_of (quoted_lines (lines_of rest))
      | false ↦ onto_first c
          (lines_of (quoted_lines (lines_of rest)))
    ])
    (ends_quoted c (lines_of rest) (ends_before c rest e))
    ∙ ap (λ ls. (c ∷ []) ∷ ls) (all_marked (lines_of rest) same)
at_char c rest same false e =
    ap (λ b. elim b [ true ↦ (c ∷ []) ∷ lines_of (later (lines_of rest)) | false ↦ onto_first c (lines_of (later (lines_of rest))) ])
    (same_end c rest ∙ e)
    ∙ (ap (onto_first c) same ∙ head_split c (lines_of rest))

later_lines : (text : Text) → lines_of (later (lines_of text)) ≡ head_kept (lines_of text)
unfolding lines_of
later_lines [] = nothing_left
later_lines (c ∷ rest) = ap lines_of (later_split c (lines_of rest) (ends_line c rest))
    ∙ at_char c rest (later_lines rest) (ends_line c rest) refl

pub quoted_has : (text : Text) → lines_of (quoted text) ≡ map marked_line (lines_of text)
quoted_has text = all_marked (lines_of text) (later_lines text)
