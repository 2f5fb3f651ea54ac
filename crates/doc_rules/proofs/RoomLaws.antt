-- Room for containers that isn't used does not matter: by the steps of adding a line, once for the tree and once for its depth.
use Rattle.std.proofs.Common.{◌≡◌, ℕ, zero, suc, ◌-◌, Bool, true, false, List, [], ◌∷◌, ◌++◌, refl, ap, sym, ◌∙◌, subst, Option, Some, None}
use Rattle.std.proofs.Common.{sub-one}
use Rattle.std.specs.Prelude.{◌||◌, ◌&&◌, not, nat_le}
use Rattle.doc_rules.specs.Characters.{Text}
use Rattle.doc_rules.specs.Lines.{lines_of, line_content}
use Rattle.doc_rules.specs.Columns.{Line, cells_of, text_of, indent, skip, is_blank_line}
use Rattle.doc_rules.specs.Rules.{Rules}
use Rattle.doc_rules.specs.HtmlStarts.{ends_before_blank, ends_html}
use Rattle.doc_rules.specs.LeafStarts.{closes_fence}
use Rattle.doc_rules.specs.ContainerStarts.{quote_start, ItemStart, item_start}
use Rattle.doc_rules.specs.Forests.{none, ◌▹◌, node}
use Rattle.doc_rules.specs.Trees.{LeafLines, ParagraphLines, IndentedLines, FencedLines, HtmlLines, BlankLine, ContainerLines, QuoteLines}
use Rattle.doc_rules.specs.Trees.{ItemLines, Tree, Situation, NoParagraph, InTable, has_no_paragraph, paragraph_situation, LeafStart}
use Rattle.doc_rules.specs.Trees.{NewLeaf, Underline}
use Rattle.doc_rules.specs.Trees.{matched, continued, leaf_begins, underlined, with_start, item_may_begin, add_text, add_leaf}
use Rattle.doc_rules.specs.Trees.{add_row_or_paragraph, add_item, add_leaf_or_item, add_blocks, lazy_situation, add_to_leaf, add_line}
use Rattle.doc_rules.specs.Trees.{add_lines}
use Rattle.doc_rules.specs.Lists.{listed}
use Rattle.doc_rules.specs.Blocks.{tree_document, document_of}
use Rattle.doc_rules.specs.Laws.{IsWithin, RoomIsEnough, QuotedWithin, quote_over}
use Rattle.doc_rules.proofs.QuoteLaws.{quoted_document}

-- ---- one line with less room

item_same : (room : ℕ) (tree : Tree) (i : ItemStart) (small large : Line → Tree)
    → ((first : Line) → IsWithin room (large first) → small first ≡ large first) → (b : Bool) →
    IsWithin (suc room) (node tree (ItemLines i.kind i.start i.columns) (elim b [ true ↦ none | false ↦ large i.first ])) →
    node tree (ItemLines i.kind i.start i.columns) (elim b [ true ↦ none | false ↦ small i.first ])
    ≡ node tree (ItemLines i.kind i.start i.columns) (elim b [ true ↦ none | false ↦ large i.first ])
item_same room tree i small large more true h = refl
item_same room tree i small large more false h = ap (node tree (ItemLines i.kind i.start i.columns)) (more i.first h.1)

abbrev at_item : Situation → Line → Tree → (Line → Tree) → Option ItemStart → Tree
at_item s line tree inside found =
    elim found [
      | None ↦ add_text s line tree
      | Some i ↦ elim (item_may_begin s i) [
        | false ↦ add_text s line tree
        | true ↦ node tree (ItemLines i.kind i.start i.columns)
            (elim (is_blank_line i.first) [ true ↦ none | false ↦ inside i.first ])
      ]
    ]

abbrev at_may : Situation → Line → Tree → (Line → Tree) → ItemStart → Bool → Tree
at_may s line tree inside i may = elim may [
  | false ↦ add_text s line tree
  | true ↦ node tree (ItemLines i.kind i.start i.columns)
      (elim (is_blank_line i.first) [ true ↦ none | false ↦ inside i.first ])
]

may_same : (room : ℕ) (s : Situation) (line : Line) (tree : Tree) (small large : Line → Tree)
    → ((first : Line) → IsWithin room (large first) → small first ≡ large first) →
    (i : ItemStart) (may : Bool) → IsWithin (suc room) (at_may s line tree large i may)
    → at_may s line tree small i may ≡ at_may s line tree large i may
may_same room s line tree small large more i false h = refl
may_same room s line tree small large more i true h = item_same room tree i small large more (is_blank_line i.first) h

items_same : (room : ℕ) (s : Situation) (line : Line) (tree : Tree) (small large : Line → Tree)
    → ((first : Line) → IsWithin room (large first) → small first ≡ large first) →
    (found : Option ItemStart) → IsWithin (suc room) (at_item s line tree large found)
    → at_item s line tree small found ≡ at_item s line tree large found
items_same room s line tree small large more None h = refl
items_same room s line tree small large more (Some i) h = may_same room s line tree small large more i (item_may_begin s i) h

abbrev at_leaf : Situation → Line → Tree → (Line → Tree) → Option LeafStart → Tree
at_leaf s line tree inside start = elim start [ Some b ↦ with_start tree b | None ↦ add_item s line tree inside ]

leaves_same : (room : ℕ) (s : Situation) (line : Line) (tree : Tree) (small large : Line → Tree)
    → ((first : Line) → IsWithin room (large first) → small first ≡ large first) →
    (start : Option LeafStart) → IsWithin (suc room) (at_leaf s line tree large start)
    → at_leaf s line tree small start ≡ at_leaf s line tree large start
unfolding add_item
leaves_same room s line tree small large more (Some b) h = refl
leaves_same room s line tree small large more None h = items_same room s line tree small large more (item_start line) h

-- without room nothing but a leaf has started
may_none : (s : Situation) (line : Line) (tree : Tree) (large : Line → Tree) (i : ItemStart) (may : Bool)
    → IsWithin 0 (at_may s line tree large i may) → add_text s line tree ≡ at_may s line tree large i may
may_none s line tree large i false h = refl
may_none s line tree large i true h = absurd h

items_none : (s : Situation) (line : Line) (tree : Tree) (large : Line → Tree) (found : Option ItemStart)
    → IsWithin 0 (at_item s line tree large found) → add_text s line tree ≡ at_item s line tree large found
items_none s line tree large None h = refl
items_none s line tree large (Some i) h = may_none s line tree large i (item_may_begin s i) h

leaves_none : (s : Situation) (line : Line) (tree : Tree) (large : Line → Tree) (start : Option LeafStart)
    → IsWithin 0 (at_leaf s line tree large start) →
    elim start [ Some b ↦ with_start tree b | None ↦ add_text s line tree ] ≡ at_leaf s line tree large start
unfolding add_item
leaves_none s line tree large (Some b) h = refl
leaves_none s line tree large None h = items_none s line tree large (item_start line) h

abbrev at_quote : ℕ → Rules → Situation → Line → Tree → Option Line → Tree
at_quote room rules s line tree found =
    elim found [
      | Some rest ↦ node tree QuoteLines (add_blocks room rules NoParagraph rest none)
      | None ↦ add_leaf_or_item rules s line tree
          (λ first. add_blocks room rules NoParagraph first none)
    ]

quotes_none : (rules : Rules) (s : Situation) (line : Line) (tree : Tree) (found : Option Line)
    → IsWithin 0 (at_quote 0 rules s line tree found) →
    add_leaf rules s line tree ≡ at_quote 0 rules s line tree found
unfolding add_leaf add_leaf_or_item
quotes_none rules s line tree (Some rest) h = absurd h
quotes_none rules s line tree None h = leaves_none s line tree (λ first. add_blocks 0 rules NoParagraph first none)
    (leaf_begins rules s line) h

quotes_same : (room : ℕ) (rules : Rules) (s : Situation) (line : Line) (tree : Tree) →
    ((first : Line) → IsWithin room (add_blocks (suc room) rules NoParagraph first none)
    → add_blocks room rules NoParagraph first none ≡ add_blocks (suc room) rules NoParagraph first none) →
    (found : Option Line) → IsWithin (suc room) (at_quote (suc room) rules s line tree found)
    → at_quote room rules s line tree found ≡ at_quote (suc room) rules s line tree found
unfolding add_leaf_or_item
quotes_same room rules s line tree more (Some rest) h = ap (node tree QuoteLines) (more rest h.1)
quotes_same room rules s line tree more None h =
    leaves_same room s line tree (λ first. add_blocks room rules NoParagraph first none)
    (λ first. add_blocks (suc room) rules NoParagraph first none) more (leaf_begins rules s line) h

add_blocks_same : (room : ℕ) (rules : Rules) (s : Situation) (line : Line) (tree : Tree)
    → IsWithin room (add_blocks (suc room) rules s line tree) →
    add_blocks room rules s line tree ≡ add_blocks (suc room) rules s line tree
unfolding add_blocks
add_blocks_same zero rules s line tree h = quotes_none rules s line tree (quote_start line) h
add_blocks_same (suc room) rules s line tree h = quotes_same room rules s line tree
    (λ first g. add_blocks_same room rules NoParagraph first none g) (quote_start line) h

abbrev at_code : ℕ → Rules → Line → Tree → List Text → Bool → Tree
at_code room rules line before lines b =
    elim b [
      | true ↦ before ▹ IndentedLines (lines ++ text_of (skip 4 line) ∷ [])
      | false ↦ add_blocks room rules NoParagraph line
          (before ▹ IndentedLines lines)
    ]

code_same : (room : ℕ) (rules : Rules) (line : Line) (before : Tree) (lines : List Text) (b : Bool) →
    IsWithin room (at_code (suc room) rules line before lines b)
    → at_code room rules line before lines b ≡ at_code (suc room) rules line before lines b
code_same room rules line before lines true h = refl
code_same room rules line before lines false h = add_blocks_same room rules NoParagraph line (before ▹ IndentedLines lines) h

add_to_leaf_same : (room : ℕ) (rules : Rules) (line : Line) (before : Tree) (leaf : LeafLines)
    → IsWithin room (add_to_leaf (suc room) rules line before leaf) →
    add_to_leaf room rules line before leaf ≡ add_to_leaf (suc room) rules line before leaf
unfolding add_to_leaf
add_to_leaf_same room rules line before (ParagraphLines text) h = add_blocks_same room rules (paragraph_situation rules text) line
    (before ▹ ParagraphLines text) h
add_to_leaf_same room rules line before (IndentedLines lines) h = code_same room rules line before lines
    (nat_le 4 (indent line) || is_blank_line line) h
add_to_leaf_same room rules line before (FencedLines true opening info lines) h = refl
add_to_leaf_same room rules line before (HtmlLines true kind lines) h = refl
add_to_leaf_same room rules line before leaf h = add_blocks_same room rules NoParagraph line (before ▹ leaf) h

abbrev at_node : ℕ → Rules → Line → Tree → ContainerLines → Tree → Option Line → Tree
at_node room rules line before c inside found =
    elim found [
      | Some rest ↦ node before c (add_line (room - 1) rules rest inside)
      | None ↦ add_blocks room rules (lazy_situation rules inside)
          line (node before c inside)
    ]

node_same : (room : ℕ) (rules : Rules) (line : Line) (before : Tree) (c : ContainerLines) (inside : Tree) →
    ((n : ℕ) (rest : Line) → IsWithin n (add_line (suc n) rules rest inside)
    → add_line n rules rest inside ≡ add_line (suc n) rules rest inside) →
    (found : Option Line) → IsWithin room (at_node (suc room) rules line before c inside found)
    → at_node room rules line before c inside found ≡ at_node (suc room) rules line before c inside found
node_same room rules line before c inside more None h =
    add_blocks_same room rules (lazy_situation rules inside) line (node before c inside) h
node_same zero rules line before c inside more (Some rest) h = absurd h
node_same (suc room) rules line before c inside more (Some rest) h =
    let g : IsWithin room (add_line (suc room) rules rest inside) = subst (λ n. IsWithin room (add_line n rules rest inside))
    (sub-one (suc (suc room))) h.1 in
    ap (λ n. node before c (add_line n rules rest inside)) (sub-one (suc room))
    ∙ (ap (node before c) (more room rest g) ∙ ap (λ n. node before c (add_line n rules rest inside)) (sym (sub-one (suc (suc room)))))

add_line_same : (room : ℕ) (rules : Rules) (line : Line) (tree : Tree) → IsWithin room (add_line (suc room) rules line tree)
    → add_line room rules line tree ≡ add_line (suc room) rules line tree
unfolding add_line
add_line_same room rules line none h = add_blocks_same room rules NoParagraph line none h
add_line_same room rules line (before ▹ leaf) h = add_to_leaf_same room rules line before leaf h
add_line_same room rules line (node before c inside) h = node_same room rules line before c inside
    (λ n rest g. add_line_same n rules rest inside g) (matched c inside line) h

-- ---- a line makes nothing less deep

node_before : (n : ℕ) (tree inside : Tree) (c : ContainerLines) → IsWithin n (node tree c inside) → IsWithin n tree
node_before zero tree inside c h = absurd h
node_before (suc n) tree inside c h = h.0

continued_deep : (n : ℕ) (line : Line) (tree : Tree) → IsWithin n (continued line tree) → IsWithin n tree
unfolding continued
continued_deep n line none h = tt
continued_deep n line (before ▹ ParagraphLines text) h = h
continued_deep n line (before ▹ leaf) h = h
continued_deep zero line (node before c inside) h = absurd h
continued_deep (suc n) line (node before c inside) h = (h.0, continued_deep n line inside h.1)

underlined_deep : (n level : ℕ) (tree : Tree) → IsWithin n (underlined level tree) → IsWithin n tree
unfolding underlined
underlined_deep n level (before ▹ ParagraphLines text) h = h
underlined_deep n level tree h = h

with_start_deep : (n : ℕ) (tree : Tree) (b : LeafStart) → IsWithin n (with_start tree b) → IsWithin n tree
unfolding with_start
with_start_deep n tree (NewLeaf leaf) h = h
with_start_deep n tree (Underline level) h = underlined_deep n level tree h

row_deep : (n : ℕ) (s : Situation) (line : Line) (tree : Tree) → IsWithin n (add_row_or_paragraph s line tree) → IsWithin n tree
unfolding add_row_or_paragraph
row_deep n InTable line tree h = continued_deep n line tree h
row_deep n s line tree h = h

add_text_at : (n : ℕ) (s : Situation) (line : Line) (tree : Tree) (blank closed code : Bool) →
    IsWithin n (elim blank [
      | true ↦ tree ▹ BlankLine
      | false ↦ elim closed [
        | false ↦ continued line tree
        | true ↦ elim code [
          | true ↦ tree ▹ IndentedLines (text_of (skip 4 line) ∷ [])
          | false ↦ add_row_or_paragraph s line tree
        ]
      ]
    ]) →
    IsWithin n tree
add_text_at n s line tree true closed code h = h
add_text_at n s line tree false false code h = continued_deep n line tree h
add_text_at n s line tree false true true h = h
add_text_at n s line tree false true false h = row_deep n s line tree h

add_text_deep : (n : ℕ) (s : Situation) (line : Line) (tree : Tree) → IsWithin n (add_text s line tree) → IsWithin n tree
unfolding add_text
add_text_deep n s line tree h = add_text_at n s line tree (is_blank_line line) (has_no_paragraph s) (nat_le 4 (indent line)) h

may_deep : (n : ℕ) (s : Situation) (line : Line) (tree : Tree) (large : Line → Tree) (i : ItemStart) (may : Bool)
    → IsWithin n (at_may s line tree large i may) → IsWithin n tree
may_deep n s line tree large i false h = add_text_deep n s line tree h
may_deep n s line tree large i true h = node_before n tree (elim (is_blank_line i.first) [ true ↦ none | false ↦ large i.first ])
    (ItemLines i.kind i.start i.columns) h

add_item_deep : (n : ℕ) (s : Situation) (line : Line) (tree : Tree) (large : Line → Tree) (found : Option ItemStart)
    → IsWithin n (at_item s line tree large found) → IsWithin n tree
add_item_deep n s line tree large None h = add_text_deep n s line tree h
add_item_deep n s line tree large (Some i) h = may_deep n s line tree large i (item_may_begin s i) h

add_leaf_or_item_deep : (n : ℕ) (s : Situation) (line : Line) (tree : Tree) (large : Line → Tree) (start : Option LeafStart)
    → IsWithin n (at_leaf s line tree large start) → IsWithin n tree
unfolding add_item
add_leaf_or_item_deep n s line tree large (Some b) h = with_start_deep n tree b h
add_leaf_or_item_deep n s line tree large None h = add_item_deep n s line tree large (item_start line) h

quotes_deep : (n room : ℕ) (rules : Rules) (s : Situation) (line : Line) (tree : Tree) (found : Option Line)
    → IsWithin n (at_quote room rules s line tree found) → IsWithin n tree
unfolding add_leaf_or_item
quotes_deep n room rules s line tree (Some rest) h = node_before n tree (add_blocks room rules NoParagraph rest none) QuoteLines h
quotes_deep n room rules s line tree None h = add_leaf_or_item_deep n s line tree (λ first. add_blocks room rules NoParagraph first none)
    (leaf_begins rules s line) h

add_leaf_deep : (n : ℕ) (s : Situation) (line : Line) (tree : Tree) (start : Option LeafStart)
    → IsWithin n (elim start [ Some b ↦ with_start tree b | None ↦ add_text s line tree ]) → IsWithin n tree
add_leaf_deep n s line tree (Some b) h = with_start_deep n tree b h
add_leaf_deep n s line tree None h = add_text_deep n s line tree h

add_blocks_deep : (n room : ℕ) (rules : Rules) (s : Situation) (line : Line) (tree : Tree) → IsWithin n (add_blocks room rules s line tree)
    → IsWithin n tree
unfolding add_blocks add_leaf
add_blocks_deep n zero rules s line tree h = add_leaf_deep n s line tree (leaf_begins rules s line) h
add_blocks_deep n (suc room) rules s line tree h = quotes_deep n room rules s line tree (quote_start line) h

code_deep : (n room : ℕ) (rules : Rules) (line : Line) (before : Tree) (lines : List Text) (b : Bool)
    → IsWithin n (at_code room rules line before lines b) → IsWithin n before
code_deep n room rules line before lines true h = h
code_deep n room rules line before lines false h = add_blocks_deep n room rules NoParagraph line (before ▹ IndentedLines lines) h

fence_deep : (n : ℕ) (before : Tree) (a b : LeafLines) (t : Bool) → IsWithin n (elim t [ true ↦ before ▹ a | false ↦ before ▹ b ])
    → IsWithin n before
fence_deep n before a b true h = h
fence_deep n before a b false h = h

html_deep : (n : ℕ) (before : Tree) (a b : LeafLines) (t : Bool)
    → IsWithin n (elim t [ true ↦ before ▹ a ▹ BlankLine | false ↦ before ▹ b ]) → IsWithin n before
html_deep n before a b true h = h
html_deep n before a b false h = h

leaf_deep : (n room : ℕ) (rules : Rules) (line : Line) (before : Tree) (leaf : LeafLines)
    → IsWithin n (add_to_leaf room rules line before leaf) → IsWithin n before
unfolding add_to_leaf
leaf_deep n room rules line before (ParagraphLines text) h = add_blocks_deep n room rules (paragraph_situation rules text) line
    (before ▹ ParagraphLines text) h
leaf_deep n room rules line before (IndentedLines lines) h = code_deep n room rules line before lines
    (nat_le 4 (indent line) || is_blank_line line) h
leaf_deep n room rules line before (FencedLines true opening info lines) h =
    fence_deep n before (FencedLines false opening info lines)
    (FencedLines true opening info (lines ++ text_of (skip opening.indent line) ∷ [])) (closes_fence opening line) h
leaf_deep n room rules line before (HtmlLines true kind lines) h =
    html_deep n before (HtmlLines false kind lines) (HtmlLines (not (ends_html kind (text_of line))) kind (lines ++ text_of line ∷ []))
    (ends_before_blank kind && is_blank_line line) h
leaf_deep n room rules line before leaf h = add_blocks_deep n room rules NoParagraph line (before ▹ leaf) h

node_deep : (n room : ℕ) (rules : Rules) (line : Line) (before : Tree) (c : ContainerLines) (inside : Tree) →
    ((k m : ℕ) (rest : Line) → IsWithin k (add_line m rules rest inside) → IsWithin k inside) →
    (found : Option Line) → IsWithin n (at_node room rules line before c inside found) → IsWithin n (node before c inside)
node_deep n room rules line before c inside more None h =
    add_blocks_deep n room rules (lazy_situation rules inside) line (node before c inside) h
node_deep zero room rules line before c inside more (Some rest) h = absurd h
node_deep (suc n) room rules line before c inside more (Some rest) h = (h.0, more n (room - 1) rest h.1)

add_line_deep : (n room : ℕ) (rules : Rules) (line : Line) (tree : Tree) → IsWithin n (add_line room rules line tree) → IsWithin n tree
unfolding add_line
add_line_deep n room rules line none h = tt
add_line_deep n room rules line (before ▹ leaf) h = leaf_deep n room rules line before leaf h
add_line_deep n room rules line (node before c inside) h = node_deep n room rules line before c inside
    (λ k m rest g. add_line_deep k m rules rest inside g) (matched c inside line) h

-- ---- all lines

add_lines_deep : (n room : ℕ) (rules : Rules) (lines : List Text) (tree : Tree) → IsWithin n (add_lines room rules lines tree)
    → IsWithin n tree
unfolding add_lines
add_lines_deep n room rules [] tree h = h
add_lines_deep n room rules (line ∷ more) tree h =
    add_line_deep n room rules (cells_of (line_content line)) tree
    (add_lines_deep n room rules more (add_line room rules (cells_of (line_content line)) tree) h)

add_lines_same : (room : ℕ) (rules : Rules) (lines : List Text) (tree : Tree) → IsWithin room (add_lines (suc room) rules lines tree) →
    add_lines room rules lines tree ≡ add_lines (suc room) rules lines tree
unfolding add_lines
add_lines_same room rules [] tree h = refl
add_lines_same room rules (line ∷ more) tree h =
    let next : Tree = add_line (suc room) rules (cells_of (line_content line)) tree in
    ap (add_lines room rules more) (add_line_same room rules (cells_of (line_content line)) tree
    (add_lines_deep room (suc room) rules more next h))
    ∙ add_lines_same room rules more next h

pub room_is_enough : RoomIsEnough
room_is_enough room rules text h = add_lines_same room rules (lines_of text) none h

pub quoted_within : QuotedWithin
unfolding document_of
quoted_within rules c rest e h =
    quoted_document 99 rules c rest e ∙ ap (λ tree. quote_over (tree_document rules (listed tree))) (room_is_enough 99 rules (c ∷ rest) h)
