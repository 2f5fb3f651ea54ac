-- What a line begins: a leaf whose first line isn't blank and which no definitions leave, or a heading where a paragraph is.
use Rattle.std.proofs.Common.{◌≡◌, ℕ, Bool, true, false, [], ◌∷◌, refl, ap, sym, ◌∙◌, subst, Option, Some, None, is_some, eqb-true}
use Rattle.std.specs.Prelude.{◌||◌, ◌==◌, nat_le, not, length, ⊤}
use Rattle.doc_rules.specs.Characters.{Text, is_space_or_tab, is_blank_text}
use Rattle.doc_rules.specs.Columns.{Line, text_of, indent, after_indent}
use Rattle.doc_rules.specs.Rules.{Rules}
use Rattle.doc_rules.specs.Definitions.{definitions_of}
use Rattle.doc_rules.specs.LeafStarts.{marker_text, is_thematic_break, atx_heading, underline_level, Fence, opening_fence}
use Rattle.doc_rules.specs.HtmlStarts.{HtmlKind, html_start, may_interrupt_paragraph, ends_html}
use Rattle.doc_rules.specs.Forests.{none, ◌▹◌}
use Rattle.doc_rules.specs.Trees.{AtxLine, FencedLines, HtmlLines, BreakLine, Situation, NoParagraph, InParagraph, LazyParagraph, InTable}
use Rattle.doc_rules.specs.Trees.{has_no_paragraph, LeafStart, NewLeaf, Underline, atx_begins, fence_begins, html_begins, setext_begins}
use Rattle.doc_rules.specs.Trees.{break_begins, text_begins, leaf_begins}
use Rattle.doc_rules.specs.Lists.{ends_blank, is_last_blank}
use Rattle.doc_rules.specs.Blocks.{leaf_references}
use Rattle.doc_blocks_leaves.proofs.TreePaths.{IsMadeLeaf, closed_references}
use Rattle.doc_blocks_leaves.proofs.LeafLaws.{blank_after_indent}
use Rattle.doc_page_parts.proofs.Bools.{and_first}

abbrev pub IsBegun : Rules → Situation → LeafStart → Type 0
IsBegun rules s (NewLeaf leaf) = (ends_blank (none ▹ leaf) ≡ false) × IsMadeLeaf leaf × (closed_references rules leaf ≡ [])
IsBegun rules s (Underline level) = has_no_paragraph s ≡ false

abbrev pub IfBegun : Rules → Situation → Option LeafStart → Type 0
IfBegun rules s None = ⊤
IfBegun rules s (Some start) = IsBegun rules s start

atx_at : (rules : Rules) (s : Situation) (found : Option (ℕ × Text))
    → IfBegun rules s (elim found [ Some heading ↦ Some (NewLeaf (AtxLine heading.0 heading.1)) | None ↦ None ])
unfolding ends_blank leaf_references
atx_at rules s None = tt
atx_at rules s (Some heading) = (refl, tt, refl)

atx_begun : (rules : Rules) (s : Situation) (text : Text) → IfBegun rules s (atx_begins text)
unfolding atx_begins
atx_begun rules s text = atx_at rules s (atx_heading text)

fence_at : (rules : Rules) (s : Situation) (found : Option (Fence × Text))
    → IfBegun rules s (elim found [ Some f ↦ Some (NewLeaf (FencedLines true f.0 f.1 [])) | None ↦ None ])
unfolding ends_blank leaf_references
fence_at rules s None = tt
fence_at rules s (Some f) = (refl, tt, refl)

fence_begun : (rules : Rules) (s : Situation) (line : Line) (text : Text) → IfBegun rules s (fence_begins line text)
unfolding fence_begins
fence_begun rules s line text = fence_at rules s (opening_fence (indent line) text)

no_blank_at : (c : ℕ) (space : Bool) → (c == 32) ≡ space → (space || (c == 9)) ≡ true → (c == 60) ≡ false
no_blank_at c true e f = subst (λ n. (n == 60) ≡ false) (sym (eqb-true c 32 e)) refl
no_blank_at c false e f = subst (λ n. (n == 60) ≡ false) (sym (eqb-true c 9 f)) refl

abbrev behind_first : Text → Bool → Option Text
behind_first rest test = elim test [ true ↦ Some rest | false ↦ None ]

abbrev kind_behind : Text → Option HtmlKind → Bool → Option HtmlKind
kind_behind rest more test = elim (is_some (behind_first rest test)) [ false ↦ None | true ↦ more ]

not_begun : (test : Bool) (rest : Text) (more : Option HtmlKind) → test ≡ false → kind_behind rest more test ≡ None
not_begun test rest more e = ap (kind_behind rest more) e

blank_begins_none : (text : Text) → is_blank_text text ≡ true → html_start text ≡ None
unfolding html_start
blank_begins_none [] e = refl
blank_begins_none (c ∷ rest) e = not_begun (c == 60) rest _
    (no_blank_at c (c == 32) refl (and_first (is_space_or_tab c) (is_blank_text rest) e))

not_blank : (kind : HtmlKind) (blank : Bool) → (blank ≡ true → Some kind ≡ None) → blank ≡ false
not_blank kind true more = let e : Some kind ≡ None = more refl in absurd cc
not_blank kind false more = refl

html_at : (rules : Rules) (s : Situation) (line : Line) (found : Option HtmlKind) (goes_on : HtmlKind → Bool) (may : HtmlKind → Bool)
    → (is_blank_text (text_of line) ≡ true → found ≡ None) →
    IfBegun rules s (elim found [
      | None ↦ None
      | Some kind ↦ elim (may kind)
          [ true ↦ Some (NewLeaf (HtmlLines (goes_on kind) kind (text_of line ∷ []))) | false ↦ None ]
    ])
unfolding ends_blank is_last_blank leaf_references
html_at rules s line None goes_on may more = tt
html_at rules s line (Some kind) goes_on may more = at (may kind)
  where
    at : (b : Bool) → IfBegun rules s (elim b [ true ↦ Some (NewLeaf (HtmlLines (goes_on kind) kind (text_of line ∷ []))) | false ↦ None ])
    at true = (not_blank kind (is_blank_text (text_of line)) more, tt, refl)
    at false = tt

html_begun : (rules : Rules) (s : Situation) (line : Line) → IfBegun rules s (html_begins s line (text_of (after_indent line)))
unfolding html_begins
html_begun rules s line =
    html_at rules s line (html_start (text_of (after_indent line))) (λ kind. not (ends_html kind (text_of (after_indent line))))
    (λ kind. may_interrupt_paragraph kind || has_no_paragraph s)
    (λ e. blank_begins_none (text_of (after_indent line)) (sym (blank_after_indent line) ∙ e))

setext_at : (rules : Rules) (above : Text) (found : Option ℕ) (only : Bool) →
    IfBegun rules (InParagraph above) (elim found [ None ↦ None | Some level ↦ elim only [ true ↦ None | false ↦ Some (Underline level) ] ])
unfolding has_no_paragraph
setext_at rules above None only = tt
setext_at rules above (Some level) true = tt
setext_at rules above (Some level) false = refl

setext_begun : (rules : Rules) (s : Situation) (text : Text) → IfBegun rules s (setext_begins rules s text)
unfolding setext_begins
setext_begun rules NoParagraph text = tt
setext_begun rules (InParagraph above) text = setext_at rules above (underline_level text) (length (definitions_of rules above).1 == 0)
setext_begun rules LazyParagraph text = tt
setext_begun rules InTable text = tt

break_at : (rules : Rules) (s : Situation) (b : Bool) → IfBegun rules s (elim b [ true ↦ Some (NewLeaf BreakLine) | false ↦ None ])
unfolding ends_blank leaf_references
break_at rules s true = (refl, tt, refl)
break_at rules s false = tt

break_begun : (rules : Rules) (s : Situation) (text : Text) → IfBegun rules s (break_begins text)
unfolding break_begins
break_begun rules s text = break_at rules s (is_thematic_break text)

or_begun : (rules : Rules) (s : Situation) (first more : Option LeafStart) → IfBegun rules s first → IfBegun rules s more →
    IfBegun rules s (elim first [ Some start ↦ Some start | None ↦ more ])
or_begun rules s None more g h = h
or_begun rules s (Some start) more g h = g

text_begun : (rules : Rules) (s : Situation) (line : Line) → IfBegun rules s (text_begins rules s line (text_of (after_indent line)))
unfolding text_begins
text_begun rules s line =
    let text : Text = text_of (after_indent line) in
    or_begun rules s (atx_begins text) _ (atx_begun rules s text)
    (or_begun rules s (fence_begins line text) _ (fence_begun rules s line text)
    (or_begun rules s (html_begins s line text) _ (html_begun rules s line)
    (or_begun rules s (setext_begins rules s text) _ (setext_begun rules s text) (break_begun rules s text))))

abbrev marker : Line → Bool → Option Text
marker line near = elim near [ true ↦ Some (text_of (after_indent line)) | false ↦ None ]

marker_at : (rules : Rules) (s : Situation) (line : Line) (near : Bool) →
    IfBegun rules s (elim (marker line near) [ None ↦ None | Some text ↦ text_begins rules s line text ])
marker_at rules s line true = text_begun rules s line
marker_at rules s line false = tt

pub leaf_begun_plain : (rules : Rules) (s : Situation) (line : Line) → IfBegun rules s (leaf_begins rules s line)
unfolding leaf_begins marker_text
leaf_begun_plain rules s line = marker_at rules s line (nat_le (indent line) 3)
