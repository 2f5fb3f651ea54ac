-- The first character of a line behind its indentation says which leaves may begin there.
use Rattle.std.proofs.Common.{◌≡◌, ◌≤◌, ◌⊎◌, ℕ, arith, Bool, true, false, [], ◌∷◌, length, refl, ap, sym, ◌∙◌, inl, inr}
use Rattle.std.specs.Prelude.{◌-◌, ◌==◌, ◌&&◌, ◌||◌, not, nat_lt, nat_le, filter, Option, Some, None, option_and_then}
use Rattle.std.specs.Option.{is_some}
use Rattle.std.proofs.lemmas.Bool.Decides.{nat_tests}
use Rattle.std.specs.List.{list_all}
use Rattle.doc_rules.specs.Characters.{Text, is_space_or_tab, strip, strip_end}
use Rattle.doc_rules.specs.Columns.{Line, text_of, indent, after_indent}
use Rattle.doc_rules.specs.Rules.{Rules}
use Rattle.doc_rules.specs.Parsers.{is, many, some, begins}
use Rattle.doc_rules.specs.LeafStarts.{marker_text, is_end, heading_text, atx_heading, is_all_of, underline_level, is_break_of}
use Rattle.doc_rules.specs.LeafStarts.{is_thematic_break, Fence, fence_of, opening_fence}
use Rattle.doc_rules.specs.HtmlStarts.{HtmlKind, html_start, may_interrupt_paragraph, ends_html}
use Rattle.doc_rules.specs.Definitions.{definitions_of}
use Rattle.doc_rules.specs.Trees.{AtxLine, FencedLines, HtmlLines, Situation, NoParagraph, InParagraph, LazyParagraph, InTable}
use Rattle.doc_rules.specs.Trees.{has_no_paragraph}
use Rattle.doc_rules.specs.Trees.{LeafStart, NewLeaf, Underline, text_begins, atx_begins, fence_begins, html_begins, setext_begins}
use Rattle.doc_rules.specs.Trees.{break_begins}
use Rattle.doc_blocks_leaves.specs.Starts.{or_else}
use Rattle.doc_blocks_leaves.proofs.Tests.{by_false}
use Rattle.doc_page_parts.proofs.Bools.{and_false}

-- ---- starts that need another first character

no_some : (k c : ℕ) (rest : Text) → (c == k) ≡ false → some (λ d. d == k) (c ∷ rest) ≡ None
no_some k c rest e = ap (λ (b : Bool). option_and_then (many (λ d. d == k)) (elim b [ true ↦ Some rest | false ↦ None ])) e

no_atx : (c : ℕ) (rest : Text) → (c == 35) ≡ false → atx_heading (c ∷ rest) ≡ None
unfolding atx_heading
no_atx c rest e =
    ap
    (λ (o : Option Text). elim o [
      | None ↦ None
      | Some behind ↦ elim (nat_le (length (c ∷ rest) - length behind) 6 && is_end behind)
          [ true ↦ Some (length (c ∷ rest) - length behind, heading_text behind) | false ↦ None ]
    ])
    (no_some 35 c rest e)

pub no_heading : (c : ℕ) (rest : Text) → (c == 35) ≡ false → atx_begins (c ∷ rest) ≡ None
unfolding atx_begins
no_heading c rest e = ap (λ (o : Option (ℕ × Text)). elim o [ Some heading ↦ Some (NewLeaf (AtxLine heading.0 heading.1)) | None ↦ None ])
    (no_atx c rest e)

no_fence_of : (k : ℕ) (fits : Text → Bool) (columns c : ℕ) (rest : Text) → (c == k) ≡ false → fence_of k fits columns (c ∷ rest) ≡ None
unfolding fence_of
no_fence_of k fits columns c rest e =
    ap
    (λ (o : Option Text). elim o [
      | None ↦ None
      | Some info ↦ elim (nat_le 3 (length (c ∷ rest) - length info) && fits info) [
        | true ↦ Some (record { char = k; length = length (c ∷ rest) - length info; indent = columns }, strip is_space_or_tab info)
        | false ↦ None
      ]
    ])
    (no_some k c rest e)

no_opening : (columns c : ℕ) (rest : Text) → (c == 96) ≡ false → (c == 126) ≡ false → opening_fence columns (c ∷ rest) ≡ None
unfolding opening_fence
no_opening columns c rest e f =
    ap (λ (o : Option (Fence × Text)). elim o [ Some found ↦ Some found | None ↦ fence_of 126 (λ info. true) columns (c ∷ rest) ])
    (no_fence_of 96 (list_all (λ d. not (d == 96))) columns c rest e)
    ∙ no_fence_of 126 (λ info. true) columns c rest f

pub no_fence : (line : Line) (c : ℕ) (rest : Text) → (c == 96) ≡ false → (c == 126) ≡ false → fence_begins line (c ∷ rest) ≡ None
unfolding fence_begins
no_fence line c rest e f =
    ap (λ (o : Option (Fence × Text)). elim o [ Some found ↦ Some (NewLeaf (FencedLines true found.0 found.1 [])) | None ↦ None ])
    (no_opening (indent line) c rest e f)

abbrev past : Bool → Text → Option Text
past b rest = elim b [ true ↦ Some rest | false ↦ None ]

no_html_start : (c : ℕ) (rest : Text) → (c == 60) ≡ false → html_start (c ∷ rest) ≡ None
unfolding html_start
no_html_start c rest e = by_false (begins (is 60) (c ∷ rest)) None _ (ap (λ (b : Bool). is_some (past b rest)) e)

pub no_html : (situation : Situation) (line : Line) (c : ℕ) (rest : Text) → (c == 60) ≡ false → html_begins situation line (c ∷ rest) ≡ None
unfolding html_begins
no_html situation line c rest e =
    ap
    (λ (o : Option HtmlKind). elim o [
      | None ↦ None
      | Some kind ↦ elim (may_interrupt_paragraph kind || has_no_paragraph situation) [
        | true ↦ Some (NewLeaf (HtmlLines (not (ends_html kind (c ∷ rest))) kind (text_of line ∷ [])))
        | false ↦ None
      ]
    ])
    (no_html_start c rest e)

not_all : (k c : ℕ) (more : Text) → (c == k) ≡ false → is_all_of k (c ∷ more) ≡ false
unfolding is_all_of
not_all k c more e = ap (λ b. nat_lt 0 (length (c ∷ more)) && (b && list_all (λ d. d == k) more)) e
    ∙ and_false (nat_lt 0 (length (c ∷ more)))

not_all_stripped : (k c : ℕ) (rest : Text) → (c == k) ≡ false → is_all_of k (strip_end is_space_or_tab (c ∷ rest)) ≡ false
unfolding is_all_of strip_end
not_all_stripped k c rest e = at (list_all is_space_or_tab (c ∷ rest))
  where
    at : (b : Bool) → is_all_of k (elim b [ true ↦ [] | false ↦ c ∷ strip_end is_space_or_tab rest ]) ≡ false
    at true = refl
    at false = not_all k c (strip_end is_space_or_tab rest) e

no_level : (c : ℕ) (rest : Text) → (c == 61) ≡ false → (c == 45) ≡ false → underline_level (c ∷ rest) ≡ None
unfolding underline_level
no_level c rest e f =
    by_false (is_all_of 61 (strip_end is_space_or_tab (c ∷ rest))) _ (Some 1) (not_all_stripped 61 c rest e)
    ∙ by_false (is_all_of 45 (strip_end is_space_or_tab (c ∷ rest))) None (Some 2) (not_all_stripped 45 c rest f)

pub no_underline : (rules : Rules) (situation : Situation) (c : ℕ) (rest : Text) → (c == 61) ≡ false → (c == 45) ≡ false
    → setext_begins rules situation (c ∷ rest) ≡ None
unfolding setext_begins
no_underline rules NoParagraph c rest e f = refl
no_underline rules (InParagraph above) c rest e f =
    ap (λ (o : Option ℕ). elim o [
      | None ↦ None
      | Some level ↦ elim (length (definitions_of rules above).1 == 0)
          [ true ↦ None | false ↦ Some (Underline level) ]
    ]) (no_level c rest e f)
no_underline rules LazyParagraph c rest e f = refl
no_underline rules InTable c rest e f = refl

not_break_of : (k c : ℕ) (rest : Text) → (c == k) ≡ false → is_space_or_tab c ≡ false → is_break_of k (c ∷ rest) ≡ false
unfolding is_break_of
not_break_of k c rest e s =
    let test : Bool = nat_le 3 (length (filter (λ d. d == k) (c ∷ rest))) in
    ap (λ b. test && ((b || is_space_or_tab c) && list_all (λ d. (d == k) || is_space_or_tab d) rest)) e
    ∙ (ap (λ b. test && (b && list_all (λ d. (d == k) || is_space_or_tab d) rest)) s ∙ and_false test)

pub no_break : (c : ℕ) (rest : Text) → (c == 45) ≡ false → (c == 95) ≡ false → (c == 42) ≡ false → is_space_or_tab c ≡ false
    → break_begins (c ∷ rest) ≡ None
unfolding break_begins is_thematic_break
no_break c rest e f g s =
    by_false (is_thematic_break (c ∷ rest)) None _
    (ap (λ b. b || (is_break_of 95 (c ∷ rest) || is_break_of 42 (c ∷ rest))) (not_break_of 45 c rest e s)
    ∙ (ap (λ b. b || is_break_of 42 (c ∷ rest)) (not_break_of 95 c rest f s) ∙ not_break_of 42 c rest g s))

-- ---- the starts in their order

abbrev chain : (heading fence html underline break : Option LeafStart) → Option LeafStart
chain heading fence html underline break =
    elim heading [
      | Some start ↦ Some start
      | None ↦ elim fence [
        | Some start ↦ Some start
        | None ↦ elim html [ Some start ↦ Some start | None ↦ elim underline [ Some start ↦ Some start | None ↦ break ] ]
      ]
    ]

in_order : (rules : Rules) (situation : Situation) (line : Line) (text : Text) →
    text_begins rules situation line text ≡ chain (atx_begins text) (fence_begins line text) (html_begins situation line text)
    (setext_begins rules situation text) (break_begins text)
unfolding text_begins
in_order rules situation line text = refl

of_each : (heading fence html underline break a b c d e : Option LeafStart) → heading ≡ a → fence ≡ b → html ≡ c → underline ≡ d
    → break ≡ e →
    chain heading fence html underline break ≡ chain a b c d e
of_each heading fence html underline break a b c d e p q r s t =
    ap (λ x. chain x fence html underline break) p
    ∙ (ap (λ x. chain a x html underline break) q
    ∙ (ap (λ x. chain a b x underline break) r ∙ (ap (λ x. chain a b c x break) s ∙ ap (chain a b c d) t)))

first_alone : (a : Option LeafStart) → chain a None None None None ≡ a
first_alone None = refl
first_alone (Some start) = refl

second_alone : (a : Option LeafStart) → chain None a None None None ≡ a
second_alone None = refl
second_alone (Some start) = refl

third_alone : (a : Option LeafStart) → chain None None a None None ≡ a
third_alone None = refl
third_alone (Some start) = refl

fourth_alone : (a : Option LeafStart) → chain None None None a None ≡ a
fourth_alone None = refl
fourth_alone (Some start) = refl

-- ---- by the first character

pub at_number_sign : (rules : Rules) (situation : Situation) (line : Line) (rest : Text)
    → atx_begins (35 ∷ rest) ≡ text_begins rules situation line (35 ∷ rest)
at_number_sign rules situation line rest =
    sym (in_order rules situation line (35 ∷ rest)
    ∙ (of_each (atx_begins (35 ∷ rest)) _ _ _ _ (atx_begins (35 ∷ rest)) None None None None refl (no_fence line 35 rest refl refl)
    (no_html situation line 35 rest refl) (no_underline rules situation 35 rest refl refl) (no_break 35 rest refl refl refl refl)
    ∙ first_alone (atx_begins (35 ∷ rest))))

pub at_fence_sign : (rules : Rules) (situation : Situation) (line : Line) (c : ℕ) (rest : Text) → (c ≡ 96) ⊎ (c ≡ 126)
    → fence_begins line (c ∷ rest) ≡ text_begins rules situation line (c ∷ rest)
at_fence_sign rules situation line c rest h = elim h [
  | inl e ↦ rw e (at 96 refl refl refl refl refl refl refl refl)
  | inr e ↦ rw e
      (at 126 refl refl refl refl refl refl refl refl)
]
  where
    at : (d : ℕ) → (d == 35) ≡ false → (d == 60) ≡ false → (d == 61) ≡ false → (d == 45) ≡ false → (d == 95) ≡ false → (d == 42) ≡ false
        → is_space_or_tab d ≡ false → true ≡ true →
        fence_begins line (d ∷ rest) ≡ text_begins rules situation line (d ∷ rest)
    at d a b e f g h s t =
        sym (in_order rules situation line (d ∷ rest)
        ∙ (of_each _ (fence_begins line (d ∷ rest)) _ _ _ None (fence_begins line (d ∷ rest)) None None None (no_heading d rest a) refl
        (no_html situation line d rest b) (no_underline rules situation d rest e f) (no_break d rest f g h s)
        ∙ second_alone (fence_begins line (d ∷ rest))))

pub at_left_angle : (rules : Rules) (situation : Situation) (line : Line) (rest : Text)
    → html_begins situation line (60 ∷ rest) ≡ text_begins rules situation line (60 ∷ rest)
at_left_angle rules situation line rest =
    sym (in_order rules situation line (60 ∷ rest)
    ∙ (of_each _ _ (html_begins situation line (60 ∷ rest)) _ _ None None (html_begins situation line (60 ∷ rest)) None None
    (no_heading 60 rest refl) (no_fence line 60 rest refl refl) refl (no_underline rules situation 60 rest refl refl)
    (no_break 60 rest refl refl refl refl)
    ∙ third_alone (html_begins situation line (60 ∷ rest))))

pub at_equals_sign : (rules : Rules) (situation : Situation) (line : Line) (rest : Text)
    → setext_begins rules situation (61 ∷ rest) ≡ text_begins rules situation line (61 ∷ rest)
at_equals_sign rules situation line rest =
    sym (in_order rules situation line (61 ∷ rest)
    ∙ (of_each _ _ _ (setext_begins rules situation (61 ∷ rest)) _ None None None (setext_begins rules situation (61 ∷ rest)) None
    (no_heading 61 rest refl) (no_fence line 61 rest refl refl) (no_html situation line 61 rest refl) refl
    (no_break 61 rest refl refl refl refl)
    ∙ fourth_alone (setext_begins rules situation (61 ∷ rest))))

pub at_hyphen : (rules : Rules) (situation : Situation) (line : Line) (rest : Text)
    → or_else (setext_begins rules situation (45 ∷ rest)) (break_begins (45 ∷ rest)) ≡ text_begins rules situation line (45 ∷ rest)
at_hyphen rules situation line rest =
    sym (in_order rules situation line (45 ∷ rest)
    ∙ of_each _ _ _ (setext_begins rules situation (45 ∷ rest)) (break_begins (45 ∷ rest)) None None None
    (setext_begins rules situation (45 ∷ rest)) (break_begins (45 ∷ rest)) (no_heading 45 rest refl) (no_fence line 45 rest refl refl)
    (no_html situation line 45 rest refl) refl refl)

-- of the others
break_alone : (rules : Rules) (situation : Situation) (line : Line) (c : ℕ) (rest : Text) →
    (c == 35) ≡ false → (c == 96) ≡ false → (c == 126) ≡ false → (c == 60) ≡ false → (c == 61) ≡ false → (c == 45) ≡ false
    → break_begins (c ∷ rest) ≡ text_begins rules situation line (c ∷ rest)
break_alone rules situation line c rest a b d e f g =
    sym (in_order rules situation line (c ∷ rest)
    ∙ of_each _ _ _ _ (break_begins (c ∷ rest)) None None None None (break_begins (c ∷ rest)) (no_heading c rest a)
    (no_fence line c rest b d) (no_html situation line c rest e) (no_underline rules situation c rest f g) refl)

pub at_break_sign : (rules : Rules) (situation : Situation) (line : Line) (c : ℕ) (rest : Text)
    → (c ≡ 9) ⊎ ((c ≡ 32) ⊎ ((c ≡ 42) ⊎ (c ≡ 95))) →
    break_begins (c ∷ rest) ≡ text_begins rules situation line (c ∷ rest)
at_break_sign rules situation line c rest h =
    elim h [
      | inl e ↦ rw e (break_alone rules situation line 9 rest refl refl refl refl refl refl)
      | inr more ↦ elim more [
        | inl e ↦ rw e (break_alone rules situation line 32 rest refl refl refl refl refl refl)
        | inr again ↦ elim again [
          | inl e ↦ rw e (break_alone rules situation line 42 rest refl refl refl refl refl refl)
          | inr e ↦ rw e (break_alone rules situation line 95 rest refl refl refl refl refl refl)
        ]
      ]
    ]

-- neither a space nor a tab
pub neither : (c : ℕ) → (c == 32) ≡ false → (c == 9) ≡ false → is_space_or_tab c ≡ false
neither c s t = ap (λ b. b || (c == 9)) s ∙ t

pub at_other : (rules : Rules) (situation : Situation) (line : Line) (c : ℕ) (rest : Text) →
    (c == 35) ≡ false → (c == 96) ≡ false → (c == 126) ≡ false → (c == 60) ≡ false → (c == 61) ≡ false → (c == 45) ≡ false
    → (c == 42) ≡ false → (c == 95) ≡ false → is_space_or_tab c ≡ false →
    None ≡ text_begins rules situation line (c ∷ rest)
at_other rules situation line c rest a b d e f g h i s = sym (no_break c rest g i h s) ∙ break_alone rules situation line c rest a b d e f g

pub at_end : (rules : Rules) (situation : Situation) (line : Line) → None ≡ text_begins rules situation line []
unfolding text_begins atx_begins atx_heading fence_begins opening_fence fence_of html_begins html_start setext_begins underline_level
    is_all_of strip_end break_begins is_thematic_break is_break_of
at_end rules NoParagraph line = refl
at_end rules (InParagraph above) line = refl
at_end rules LazyParagraph line = refl
at_end rules InTable line = refl

-- ---- the indentation

pub margin_of : (line : Line) (text : Text) → Some text ≡ marker_text line → indent line ≤ 3
unfolding marker_text
margin_of line text e = at (nat_le (indent line) 3) refl
  where
    at : (b : Bool) → nat_le (indent line) 3 ≡ b → indent line ≤ 3
    at true t = grind (arith, nat_tests)
    at false t = let none : Some text ≡ None = e ∙ ap (λ (b : Bool). elim b [ true ↦ Some (text_of (after_indent line)) | false ↦ None ]) t
        in absurd cc
