-- One line on the path of a tree gives the path of the tree with that line, and the definitions that leave are the same.
use Rattle.std.proofs.Common.{◌≡◌, ℕ, zero, suc, ◌-◌, Bool, true, false, List, [], ◌∷◌, ◌++◌, refl, ap, ap₂, sym, ◌∙◌, subst, Option, Some}
use Rattle.std.proofs.Common.{None, append_assoc, append-nil}
use Rattle.std.specs.Prelude.{◌&&◌, ◌||◌, nat_le, not}
use Rattle.doc_rules.specs.Characters.{Text, is_blank_text}
use Rattle.doc_rules.specs.Columns.{Line, text_of, indent, skip, is_blank_line}
use Rattle.doc_rules.specs.Rules.{Rules}
use Rattle.doc_rules.specs.Escapes.{unescape}
use Rattle.doc_rules.specs.Definitions.{Definition, definitions_of}
use Rattle.doc_rules.specs.LeafStarts.{Fence, closes_fence}
use Rattle.doc_rules.specs.HtmlStarts.{HtmlKind, ends_before_blank, ends_html}
use Rattle.doc_rules.specs.ContainerStarts.{ItemStart, item_start, quote_start}
use Rattle.doc_rules.specs.Forests.{none, ◌▹◌, node}
use Rattle.doc_rules.specs.Trees.{LeafLines, ParagraphLines, IndentedLines, FencedLines, HtmlLines, BlankLine, ContainerLines, QuoteLines}
use Rattle.doc_rules.specs.Trees.{ItemLines, ListLines, Tree, Situation, NoParagraph, InParagraph, LazyParagraph, InTable, has_no_paragraph}
use Rattle.doc_rules.specs.Trees.{LeafStart, NewLeaf, Underline, is_empty_tree, matched, continued, leaf_begins, underlined, with_start}
use Rattle.doc_rules.specs.Trees.{item_may_begin, line_text, add_row_or_paragraph, add_text, add_leaf, add_item, add_leaf_or_item}
use Rattle.doc_rules.specs.Trees.{add_blocks, lazy_situation}
use Rattle.doc_rules.specs.Trees.{paragraph_situation, add_to_leaf, add_line}
use Rattle.doc_rules.specs.Lists.{ends_blank, is_last_blank}
use Rattle.doc_rules.specs.Blocks.{HtmlBlock, ended, joined, without_last_blanks, with_leaf, leaf_references, references_of}
use Rattle.doc_blocks_leaves.specs.Leaves.{OpenLeaf, NoLeaf, OpenParagraph, OpenCode, OpenFence, OpenHtml, open_of, with_open, kept_with}
use Rattle.doc_blocks_leaves.specs.Leaves.{code_with, fence_with, html_with, NotTaken, GoesOn, Closes, taken}
use Rattle.doc_blocks_leaves.specs.Paths.{Level, OpenItem, Path, Here, Inside, empty_path, with_blocks, finished_list, item_begun_at}
use Rattle.doc_blocks_leaves.specs.Paths.{matched_open, gone_on, lazy_path_situation}
use Rattle.doc_blocks_leaves.specs.Closing.{leaf_closed, closed, path_blank, path_references}
use Rattle.doc_blocks_leaves.specs.OpenBlocks.{Moved, moved_inside, after_closing, level_for, leaf_put, underlined_path, leaf_begun}
use Rattle.doc_blocks_leaves.specs.OpenBlocks.{paragraph_continued, goes_on_with, text_put, leaf_step, item_first, item_put, item_step}
use Rattle.doc_blocks_leaves.specs.OpenBlocks.{leaf_or_item_step}
use Rattle.doc_blocks_leaves.specs.OpenBlocks.{quote_put, start_step, leaf_takes, line_step}
use Rattle.doc_blocks_leaves.proofs.TreePaths.{HasLine, leaf_at, leaf_path, container_level, container_open, path_of, closed_references}
use Rattle.doc_blocks_leaves.proofs.TreePaths.{left_references, moved, moved_of, IsMadeLeaf, IsMade, all_references, same_situation}
use Rattle.doc_blocks_leaves.proofs.LeafLaws.{last_blank, ended_more, joined_more, kept_lines, kept_more, blank_text, blank_skip, code_kept}
use Rattle.doc_blocks_leaves.proofs.LeafLaws.{html_kept}
use Rattle.doc_blocks_leaves.proofs.StartLaws.{IsBegun, IfBegun, leaf_begun_plain}

-- the definitions of a move behind those that left before
abbrev pub behind : List Definition → Moved → Moved
behind refs m = moved m.path (refs ++ m.refs)

-- the move gives this tree's path, the tree is one that lines make, and it isn't empty
abbrev pub Adds : Rules → Tree → Moved → Tree → Type 0
Adds rules tree m new = (behind (left_references rules tree) m ≡ moved_of rules new) × IsMade new × (is_empty_tree new ≡ false)

-- the tree behind which a line stands in this situation
abbrev pub Ready : Situation → Tree → Type 0
Ready NoParagraph tree = IsMade tree
Ready (InParagraph text) tree = IsMade tree × (is_empty_tree tree ≡ false)
Ready LazyParagraph tree = IsMade tree × (is_empty_tree tree ≡ false)
Ready InTable tree = IsMade tree × (is_empty_tree tree ≡ false)

ready_made : (s : Situation) (tree : Tree) → Ready s tree → IsMade tree
ready_made NoParagraph tree h = h
ready_made (InParagraph text) tree h = h.0
ready_made LazyParagraph tree h = h.0
ready_made InTable tree h = h.0

ready_filled : (s : Situation) (tree : Tree) → has_no_paragraph s ≡ false → Ready s tree → is_empty_tree tree ≡ false
unfolding has_no_paragraph
ready_filled NoParagraph tree e h = absurd cc
ready_filled (InParagraph text) tree e h = h.1
ready_filled LazyParagraph tree e h = h.1
ready_filled InTable tree e h = absurd cc

ready_goes : (s : Situation) (line : Line) (tree : Tree) → goes_on_with s line ≡ true → Ready s tree → is_empty_tree tree ≡ false
unfolding goes_on_with
ready_goes NoParagraph line tree e h = absurd cc
ready_goes (InParagraph text) line tree e h = h.1
ready_goes LazyParagraph line tree e h = h.1
ready_goes InTable line tree e h = h.1

ready_in : (s : Situation) (tree : Tree) → IsMade tree → is_empty_tree tree ≡ false → Ready s tree
ready_in NoParagraph tree h e = h
ready_in (InParagraph text) tree h e = (h, e)
ready_in LazyParagraph tree h e = (h, e)
ready_in InTable tree h e = (h, e)

same : {p q : Path} {r s : List Definition} → p ≡ q → r ≡ s → moved p r ≡ moved q s
same e f = ap₂ moved e f

-- ---- text

continued_empty : (line : Line) (tree : Tree) → is_empty_tree (continued line tree) ≡ is_empty_tree tree
unfolding continued is_empty_tree
continued_empty line none = refl
continued_empty line (before ▹ leaf) = leaf_filled leaf
  where
    leaf_filled : (leaf : LeafLines) → is_empty_tree (continued line (before ▹ leaf)) ≡ is_empty_tree (before ▹ leaf)
    leaf_filled (ParagraphLines text) = refl
    leaf_filled leaf = refl
continued_empty line (node before container inside) = refl

continued_path : (rules : Rules) (line : Line) (tree : Tree)
    → paragraph_continued line (path_of rules tree) ≡ path_of rules (continued line tree)
unfolding path_of leaf_path continued paragraph_continued open_of ends_blank
continued_path rules line none = refl
continued_path rules line (before ▹ ParagraphLines text) = refl
continued_path rules line (before ▹ FencedLines true fence info lines) = refl
continued_path rules line (before ▹ FencedLines false fence info lines) = refl
continued_path rules line (before ▹ HtmlLines true kind lines) = refl
continued_path rules line (before ▹ HtmlLines false kind lines) = refl
continued_path rules line (before ▹ leaf) = refl
continued_path rules line (node before container inside) =
    ap₂ (λ b path. Inside (container_level rules (path_of rules before) container) (container_open b container) path)
    (sym (continued_empty line inside)) (continued_path rules line inside)

continued_left : (rules : Rules) (line : Line) (tree : Tree) → left_references rules tree ≡ left_references rules (continued line tree)
unfolding continued left_references
continued_left rules line none = refl
continued_left rules line (before ▹ ParagraphLines text) = refl
continued_left rules line (before ▹ leaf) = refl
continued_left rules line (node before container inside) = ap (λ more. references_of rules before ++ more)
    (continued_left rules line inside)

continued_made : (line : Line) (tree : Tree) → IsMade tree → IsMade (continued line tree)
unfolding continued
continued_made line none h = tt
continued_made line (before ▹ ParagraphLines text) h = h
continued_made line (before ▹ leaf) h = h
continued_made line (node before QuoteLines inside) h = (h.0, continued_made line inside h.1)
continued_made line (node before (ItemLines kind start columns) inside) h = (h.0, continued_made line inside h.1)
continued_made line (node before (ListLines kind start tight) inside) h = absurd h

new_leaf : (rules : Rules) (tree : Tree) (leaf : LeafLines) (path : Path) → path ≡ leaf_path rules (path_of rules tree) leaf
    → closed_references rules leaf ≡ [] → IsMade tree → IsMadeLeaf leaf →
    Adds rules tree (after_closing rules (path_of rules tree) path) (tree ▹ leaf)
unfolding path_of left_references is_empty_tree
new_leaf rules tree leaf path e f h g = (
  same e (all_references rules tree ∙ (sym (append-nil (references_of rules tree))
      ∙ ap (λ more. references_of rules tree ++ more) (sym f))),
  (h, g),
  refl,
)

code_path : (rules : Rules) (line : Line) (path : Path) → is_blank_line line ≡ false →
    Here (level_for rules path) (OpenCode (code_with line []) (code_with line [])) false
    ≡ leaf_path rules path (IndentedLines (text_of (skip 4 line) ∷ []))
unfolding leaf_path open_of ends_blank is_last_blank ended
code_path rules line path e =
    let text : Text = text_of (skip 4 line) in
    let level : Level = level_for rules path in
    let plain : is_blank_text text ≡ false = blank_skip 4 line ∙ e in
    let all : ended (text ∷ []) ≡ code_with line [] = ended_more [] text in
    let kept : ended (without_last_blanks (text ∷ [])) ≡ code_with line [] = ap ended (kept_more [] text ∙ ap (kept_lines [] text) plain)
    ∙ all in
    sym (ap (λ b. Here level (OpenCode (ended (text ∷ [])) (ended (without_last_blanks (text ∷ [])))) b) plain
    ∙ ap₂ (λ a k. Here level (OpenCode a k) false) all kept)

abbrev text_moved : Rules → Line → Path → (blank goes code : Bool) → Moved
text_moved rules line path blank goes code =
    elim blank [
      | true ↦ after_closing rules path (Here (closed rules path) NoLeaf true)
      | false ↦ elim goes [
        | true ↦ record { path = paragraph_continued line path; refs = [] }
        | false ↦ elim code [
          | true ↦ after_closing rules path (Here (level_for rules path) (OpenCode (code_with line []) (code_with line [])) false)
          | false ↦ after_closing rules path (Here (level_for rules path) (OpenParagraph (line_text line)) false)
        ]
      ]
    ]

abbrev text_tree : Line → Tree → (blank goes code : Bool) → Tree
text_tree line tree blank goes code =
    elim blank [
      | true ↦ tree ▹ BlankLine
      | false ↦ elim goes [
        | true ↦ continued line tree
        | false ↦ elim code [ true ↦ tree ▹ IndentedLines (text_of (skip 4 line) ∷ []) | false ↦ tree ▹ ParagraphLines (line_text line) ]
      ]
    ]

abbrev row_tree : Line → Tree → (blank code : Bool) → Tree
row_tree line tree blank code =
    elim blank [
      | true ↦ tree ▹ BlankLine
      | false ↦ elim code [ true ↦ tree ▹ IndentedLines (text_of (skip 4 line) ∷ []) | false ↦ continued line tree ]
    ]

row_is_text : (line : Line) (tree : Tree) (blank code : Bool) → text_tree line tree blank (not code) code ≡ row_tree line tree blank code
row_is_text line tree true code = refl
row_is_text line tree false true = refl
row_is_text line tree false false = refl

text_is : (s : Situation) (line : Line) (tree : Tree)
    → text_tree line tree (is_blank_line line) (goes_on_with s line) (nat_le 4 (indent line)) ≡ add_text s line tree
unfolding goes_on_with add_text add_row_or_paragraph has_no_paragraph
text_is NoParagraph line tree = refl
text_is (InParagraph text) line tree = refl
text_is LazyParagraph line tree = refl
text_is InTable line tree = row_is_text line tree (is_blank_line line) (nat_le 4 (indent line))

text_at : (rules : Rules) (s : Situation) (line : Line) (tree : Tree) (blank goes code : Bool) → is_blank_line line ≡ blank
    → goes_on_with s line ≡ goes → Ready s tree →
    Adds rules tree (text_moved rules line (path_of rules tree) blank goes code) (text_tree line tree blank goes code)
unfolding leaf_path leaf_references open_of ends_blank
text_at rules s line tree true goes code e f h = new_leaf rules tree BlankLine (Here (closed rules (path_of rules tree)) NoLeaf true) refl
    refl (ready_made s tree h) tt
text_at rules s line tree false true code e f h = (
  same (continued_path rules line tree) (append-nil (left_references rules tree)
      ∙ continued_left rules line tree),
  continued_made line tree (ready_made s tree h),
  continued_empty line tree
      ∙ ready_goes s line tree f h,
)
text_at rules s line tree false false true e f h = new_leaf rules tree (IndentedLines (text_of (skip 4 line) ∷ [])) _
    (code_path rules line (path_of rules tree) e) refl (ready_made s tree h) tt
text_at rules s line tree false false false e f h = new_leaf rules tree (ParagraphLines (line_text line)) _ refl refl (ready_made s tree h)
    tt

text_adds : (rules : Rules) (s : Situation) (line : Line) (tree : Tree) → Ready s tree
    → Adds rules tree (text_put rules s line (path_of rules tree)) (add_text s line tree)
unfolding text_put
text_adds rules s line tree h =
    subst (λ (new : Tree). Adds rules tree (text_put rules s line (path_of rules tree)) new) (text_is s line tree)
    (text_at rules s line tree (is_blank_line line) (goes_on_with s line) (nat_le 4 (indent line)) refl refl h)

-- ---- leaves

put_same : (rules : Rules) (level : Level) (leaf : LeafLines) (start : OpenLeaf)
    → leaf_put rules level leaf start ≡ leaf_at rules level leaf false start
unfolding leaf_put
put_same rules level leaf NoLeaf = refl
put_same rules level leaf start = refl

begun_path : (rules : Rules) (path : Path) (leaf : LeafLines) → ends_blank (none ▹ leaf) ≡ false
    → leaf_put rules (level_for rules path) leaf (open_of rules leaf) ≡ leaf_path rules path leaf
unfolding leaf_path ends_blank
begun_path rules path BlankLine e = absurd cc
begun_path rules path leaf e =
    put_same rules (level_for rules path) leaf (open_of rules leaf)
    ∙ ap (λ b. leaf_at rules (level_for rules path) leaf b (open_of rules leaf)) (sym e)

underlined_adds : (rules : Rules) (level : ℕ) (tree : Tree) → IsMade tree → is_empty_tree tree ≡ false
    → Adds rules tree (underlined_path rules level (path_of rules tree)) (underlined level tree)
unfolding underlined_path underlined path_of leaf_path open_of ends_blank left_references is_empty_tree finished_list with_leaf
    leaf_references
underlined_adds rules level none h e = absurd cc
underlined_adds rules level (before ▹ ParagraphLines text) h e =
    (same refl (ap (λ front. front ++ (definitions_of rules text).0) (append-nil (references_of rules before))), h, refl)
underlined_adds rules level (before ▹ FencedLines true fence info lines) h
    e = (same refl (append-nil (references_of rules before ++ [])), h, refl)
underlined_adds rules level (before ▹ FencedLines false fence info lines) h
    e = (same refl (append-nil (references_of rules before ++ [])), h, refl)
underlined_adds rules level (before ▹ HtmlLines true kind lines) h e = (same refl (append-nil (references_of rules before ++ [])), h, refl)
underlined_adds rules level (before ▹ HtmlLines false kind lines) h e = (same refl (append-nil (references_of rules before ++ [])), h, refl)
underlined_adds rules level (before ▹ leaf) h e = (
  same refl (append-nil (references_of rules before ++ closed_references rules leaf)),
  h,
  refl,
)
underlined_adds rules level (node before container inside) h
    e = (same refl (append-nil (references_of rules before ++ left_references rules inside)), h, refl)

start_adds : (rules : Rules) (s : Situation) (tree : Tree) (start : LeafStart) → IsBegun rules s start → Ready s tree →
    Adds rules tree (leaf_begun rules (path_of rules tree) start) (with_start tree start)
unfolding leaf_begun with_start
start_adds rules s tree (NewLeaf leaf) g h = new_leaf rules tree leaf _ (begun_path rules (path_of rules tree) leaf g.0) g.2
    (ready_made s tree h) g.1
start_adds rules s tree (Underline level) g h = underlined_adds rules level tree (ready_made s tree h) (ready_filled s tree g h)

start_or : (rules : Rules) (s : Situation) (tree : Tree) (start : Option LeafStart) (m : Moved) (new : Tree) → IfBegun rules s start
    → Ready s tree → Adds rules tree m new →
    Adds rules tree (elim start [ Some b ↦ leaf_begun rules (path_of rules tree) b | None ↦ m ])
    (elim start [ Some b ↦ with_start tree b | None ↦ new ])
start_or rules s tree None m new g h more = more
start_or rules s tree (Some b) m new g h more = start_adds rules s tree b g h

leaf_adds : (rules : Rules) (s : Situation) (line : Line) (tree : Tree) → Ready s tree
    → Adds rules tree (leaf_step rules s line (path_of rules tree)) (add_leaf rules s line tree)
unfolding leaf_step add_leaf
leaf_adds rules s line tree h =
    start_or rules s tree (leaf_begins rules s line) (text_put rules s line (path_of rules tree)) (add_text s line tree)
    (leaf_begun_plain rules s line) h (text_adds rules s line tree h)

-- ---- containers

inside_adds : (rules : Rules) (tree : Tree) (container : ContainerLines) (m : Moved) (new : Tree) (is_empty : Bool)
    → m ≡ moved_of rules new → is_empty_tree new ≡ is_empty → IsMade (node tree container new) →
    Adds rules tree
    (moved (Inside (container_level rules (path_of rules tree) container) (container_open is_empty container) m.path)
    (path_references rules (path_of rules tree) ++ m.refs))
    (node tree container new)
unfolding path_of left_references is_empty_tree
inside_adds rules tree container m new is_empty e f h = (
  same
      (ap₂ (λ b path. Inside (container_level rules (path_of rules tree) container) (container_open b container) path) (sym f)
      (ap (λ (x : Moved). x.path) e))
      (sym (append_assoc (left_references rules tree) (path_references rules (path_of rules tree)) m.refs)
      ∙ ap₂ (λ front more. front ++ more) (all_references rules tree) (ap (λ (x : Moved). x.refs) e)),
  h,
  refl,
)

-- what a line begins inside a new container, on both sides
abbrev Begins : Rules → (Line → Moved) → (Line → Tree) → Type 0
Begins rules inside inside_tree = (first : Line) → Adds rules none (inside first) (inside_tree first)

abbrev first_moved : ItemStart → (Line → Moved) → Bool → Moved
first_moved item inside blank = elim blank [ true ↦ moved empty_path [] | false ↦ inside item.first ]

abbrev item_moved : Rules → Path → ItemStart → (Line → Moved) → Bool → Moved
item_moved rules path item inside blank = record {
  path = Inside (item_begun_at (closed rules path) (path_blank path) item.kind item.start) (OpenItem item.columns blank)
      (first_moved item inside blank).path;
  refs = path_references rules path ++ (first_moved item inside blank).refs;
}

item_put_at : (rules : Rules) (tree : Tree) (item : ItemStart) (inside : Line → Moved) (inside_tree : Line → Tree) → IsMade tree
    → Begins rules inside inside_tree → (blank : Bool) →
    Adds rules tree (item_moved rules (path_of rules tree) item inside blank)
    (node tree (ItemLines item.kind item.start item.columns) (elim blank [ true ↦ none | false ↦ inside_tree item.first ]))
unfolding path_of left_references is_empty_tree
item_put_at rules tree item inside inside_tree h more true = inside_adds rules tree (ItemLines item.kind item.start item.columns)
    (moved empty_path []) none true refl refl (h, tt)
item_put_at rules tree item inside inside_tree h more false =
    inside_adds rules tree (ItemLines item.kind item.start item.columns) (inside item.first) (inside_tree item.first) false
    (more item.first).0 (more item.first).2 (h, (more item.first).1)

item_at : (rules : Rules) (s : Situation) (line : Line) (tree : Tree) (inside : Line → Moved) (inside_tree : Line → Tree) → Ready s tree
    → Begins rules inside inside_tree → (found : Option ItemStart) →
    Adds rules tree
    (elim found [
      | None ↦ text_put rules s line (path_of rules tree)
      | Some item ↦ elim (item_may_begin s item) [
        | false ↦ text_put rules s line (path_of rules tree)
        | true ↦ item_put rules
            (path_of rules tree) item inside
      ]
    ])
    (elim found [
      | None ↦ add_text s line tree
      | Some item ↦ elim (item_may_begin s item) [
        | false ↦ add_text s line tree
        | true ↦ node tree (ItemLines item.kind item.start item.columns)
            (elim (is_blank_line item.first) [ true ↦ none | false ↦ inside_tree item.first ])
      ]
    ])
unfolding item_first
item_at rules s line tree inside inside_tree h more None = text_adds rules s line tree h
item_at rules s line tree inside inside_tree h more (Some item) = may (item_may_begin s item)
  where
    may : (b : Bool) →
        Adds rules tree (elim b [
          | false ↦ text_put rules s line (path_of rules tree)
          | true ↦ item_put rules (path_of rules tree) item
              inside
        ])
        (elim b [
          | false ↦ add_text s line tree
          | true ↦ node tree (ItemLines item.kind item.start item.columns)
              (elim (is_blank_line item.first) [ true ↦ none | false ↦ inside_tree item.first ])
        ])
    may false = text_adds rules s line tree h
    may true = item_put_at rules tree item inside inside_tree (ready_made s tree h) more (is_blank_line item.first)

item_adds : (rules : Rules) (s : Situation) (line : Line) (tree : Tree) (inside : Line → Moved) (inside_tree : Line → Tree) → Ready s tree
    → Begins rules inside inside_tree →
    Adds rules tree (item_step rules s line (path_of rules tree) inside) (add_item s line tree inside_tree)
unfolding item_step add_item
item_adds rules s line tree inside inside_tree h more = item_at rules s line tree inside inside_tree h more (item_start line)

leaf_or_item_adds : (rules : Rules) (s : Situation) (line : Line) (tree : Tree) (inside : Line → Moved) (inside_tree : Line → Tree)
    → Ready s tree → Begins rules inside inside_tree →
    Adds rules tree (leaf_or_item_step rules s line (path_of rules tree) inside) (add_leaf_or_item rules s line tree inside_tree)
unfolding leaf_or_item_step add_leaf_or_item
leaf_or_item_adds rules s line tree inside inside_tree h more =
    start_or rules s tree (leaf_begins rules s line) (item_step rules s line (path_of rules tree) inside)
    (add_item s line tree inside_tree) (leaf_begun_plain rules s line) h (item_adds rules s line tree inside inside_tree h more)

quote_at : (rules : Rules) (s : Situation) (line : Line) (tree : Tree) (inside : Line → Moved) (inside_tree : Line → Tree) → Ready s tree
    → Begins rules inside inside_tree → (found : Option Line) →
    Adds rules tree
    (elim found [
      | Some rest ↦ quote_put rules (path_of rules tree) (inside rest)
      | None ↦ leaf_or_item_step rules s line
          (path_of rules tree) inside
    ])
    (elim found [ Some rest ↦ node tree QuoteLines (inside_tree rest) | None ↦ add_leaf_or_item rules s line tree inside_tree ])
unfolding left_references
quote_at rules s line tree inside inside_tree h more None = leaf_or_item_adds rules s line tree inside inside_tree h more
quote_at rules s line tree inside inside_tree h more (Some rest) =
    inside_adds rules tree QuoteLines (inside rest) (inside_tree rest) false (more rest).0 (more rest).2
    (ready_made s tree h, (more rest).1)

blocks_add : (room : ℕ) (rules : Rules) (s : Situation) (line : Line) (tree : Tree) → Ready s tree
    → Adds rules tree (start_step room rules s line (path_of rules tree)) (add_blocks room rules s line tree)
unfolding start_step add_blocks path_of
blocks_add zero rules s line tree h = leaf_adds rules s line tree h
blocks_add (suc room) rules s line tree h =
    quote_at rules s line tree (λ first. start_step room rules NoParagraph first empty_path)
    (λ first. add_blocks room rules NoParagraph first none) h
    (λ first. blocks_add room rules NoParagraph first none tt) (quote_start line)

-- ---- the open leaf

has_more : (lines : List Text) (line : Text) → HasLine (lines ++ line ∷ [])
has_more [] line = tt
has_more (first ∷ more) line = tt

code_adds : (room : ℕ) (rules : Rules) (line : Line) (before : Tree) (lines : List Text) → IsMade before → (goes_on : Bool) →
    Adds rules (before ▹ IndentedLines lines)
    (leaf_takes room rules line (level_for rules (path_of rules before)) (OpenCode (ended lines) (ended (without_last_blanks lines)))
    (is_last_blank lines)
    (elim goes_on [
      | true ↦ GoesOn (OpenCode (code_with line (ended lines))
          (kept_with line (code_with line (ended lines)) (ended (without_last_blanks lines)))) (is_blank_line line)
      | false ↦ NotTaken
    ]))
    (elim goes_on [
      | true ↦ before ▹ IndentedLines (lines ++ text_of (skip 4 line) ∷ [])
      | false ↦ add_blocks room rules NoParagraph line
          (before ▹ IndentedLines lines)
    ])
unfolding leaf_takes path_of leaf_path open_of ends_blank left_references leaf_references is_empty_tree
code_adds room rules line before lines h true =
    let text : Text = text_of (skip 4 line) in
    let level : Level = level_for rules (path_of rules before) in (
      same
          (ap₂ (λ a k. Here level (OpenCode a k) (is_blank_line line)) (sym (ended_more lines text))
          (code_kept line lines text (blank_skip 4 line))
          ∙ ap (λ b. Here level (OpenCode (ended (lines ++ text ∷ [])) (ended (without_last_blanks (lines ++ text ∷ [])))) b)
          (sym (last_blank lines text ∙ blank_skip 4 line)))
          (append-nil (references_of rules before ++ [])),
      (h, tt),
      refl,
    )
code_adds room rules line before lines h false = blocks_add room rules NoParagraph line (before ▹ IndentedLines lines) (h, tt)

fence_adds : (room : ℕ) (rules : Rules) (line : Line) (before : Tree) (fence : Fence) (info : Text) (lines : List Text) → IsMade before
    → (closes : Bool) →
    Adds rules (before ▹ FencedLines true fence info lines)
    (leaf_takes room rules line (level_for rules (path_of rules before)) (OpenFence fence (unescape rules info) (ended lines)) false
    (elim closes [
      | true ↦ Closes (OpenFence fence (unescape rules info) (ended lines)) false
      | false ↦ GoesOn
          (OpenFence fence (unescape rules info) (fence_with fence line (ended lines))) false
    ]))
    (elim closes [
      | true ↦ before ▹ FencedLines false fence info lines
      | false ↦ before ▹ FencedLines true fence info
          (lines ++ text_of (skip fence.indent line) ∷ [])
    ])
unfolding leaf_takes path_of leaf_path open_of ends_blank left_references leaf_references is_empty_tree leaf_closed with_open with_leaf
    finished_list
fence_adds room rules line before fence info lines h true = (same refl (append-nil (references_of rules before ++ [])), (h, tt), refl)
fence_adds room rules line before fence info lines h false = (
  same (ap (λ t. Here (level_for rules (path_of rules before)) (OpenFence fence (unescape rules info) t) false)
      (sym (ended_more lines (text_of (skip fence.indent line)))))
      (append-nil (references_of rules before ++ [])),
  (h, tt),
  refl,
)

html_adds : (room : ℕ) (rules : Rules) (line : Line) (before : Tree) (kind : HtmlKind) (lines : List Text) → IsMade before → HasLine lines
    → (ends_before ends : Bool) →
    Adds rules (before ▹ HtmlLines true kind lines)
    (leaf_takes room rules line (level_for rules (path_of rules before))
    (OpenHtml kind (joined lines) (joined (without_last_blanks lines))) (is_last_blank lines)
    (elim ends_before [
      | true ↦ Closes (OpenHtml kind (joined lines) (joined (without_last_blanks lines))) true
      | false ↦ elim ends [
        | true ↦ Closes (OpenHtml kind (html_with line (joined lines))
            (kept_with line (html_with line (joined lines)) (joined (without_last_blanks lines)))) (is_blank_line line)
        | false ↦ GoesOn (OpenHtml kind (html_with line (joined lines))
            (kept_with line (html_with line (joined lines)) (joined (without_last_blanks lines)))) (is_blank_line line)
      ]
    ]))
    (elim ends_before [
      | true ↦ before ▹ HtmlLines false kind lines ▹ BlankLine
      | false ↦ before ▹ HtmlLines (not ends) kind
          (lines ++ text_of line ∷ [])
    ])
unfolding leaf_takes path_of leaf_path open_of ends_blank left_references references_of leaf_references is_empty_tree closed leaf_closed
    with_open with_leaf finished_list
html_adds room rules line before kind lines h g true ends = (same refl refl, ((h, g), tt), refl)
html_adds room rules line before kind lines h g false true =
    let level : Level = level_for rules (path_of rules before) in (
      same
          (ap₂ (λ k b. Here (with_blocks level (level.blocks ▹ HtmlBlock k)) NoLeaf b) (html_kept line lines g)
          (sym (last_blank lines (text_of line) ∙ blank_text line)))
          (append-nil (references_of rules before ++ [])),
      (h, has_more lines (text_of line)),
      refl,
    )
html_adds room rules line before kind lines h g false false =
    let level : Level = level_for rules (path_of rules before) in (
      same
          (ap₂ (λ a k. Here level (OpenHtml kind a k) (is_blank_line line)) (sym (joined_more lines (text_of line) g))
          (html_kept line lines g)
          ∙ ap (λ b. Here level (OpenHtml kind (joined (lines ++ text_of line ∷ []))
          (joined (without_last_blanks (lines ++ text_of line ∷ [])))) b) (sym (last_blank lines (text_of line) ∙ blank_text line)))
          (append-nil (references_of rules before ++ [])),
      (h, has_more lines (text_of line)),
      refl,
    )

leaf_line_adds : (room : ℕ) (rules : Rules) (line : Line) (before : Tree) (leaf : LeafLines) → IsMade (before ▹ leaf) →
    Adds rules (before ▹ leaf) (line_step room rules line (path_of rules (before ▹ leaf))) (add_to_leaf room rules line before leaf)
unfolding line_step leaf_takes taken path_of leaf_path open_of ends_blank add_to_leaf is_empty_tree
leaf_line_adds room rules line before (ParagraphLines text) h = blocks_add room rules (paragraph_situation rules text) line
    (before ▹ ParagraphLines text) (ready_in (paragraph_situation rules text) (before ▹ ParagraphLines text) h refl)
leaf_line_adds room rules line before (IndentedLines lines) h = code_adds room rules line before lines h.0
    (nat_le 4 (indent line) || is_blank_line line)
leaf_line_adds room rules line before (FencedLines true fence info lines) h = fence_adds room rules line before fence info lines h.0
    (closes_fence fence line)
leaf_line_adds room rules line before (HtmlLines true kind lines) h = html_adds room rules line before kind lines h.0 h.1
    (ends_before_blank kind && is_blank_line line) (ends_html kind (text_of line))
leaf_line_adds room rules line before (FencedLines false fence info lines) h = blocks_add room rules NoParagraph line
    (before ▹ FencedLines false fence info lines) h
leaf_line_adds room rules line before (HtmlLines false kind lines) h = blocks_add room rules NoParagraph line
    (before ▹ HtmlLines false kind lines) h
leaf_line_adds room rules line before leaf h = blocks_add room rules NoParagraph line (before ▹ leaf) h

-- ---- a line

lazy_adds : (room : ℕ) (rules : Rules) (line : Line) (before : Tree) (container : ContainerLines) (inside : Tree)
    → IsMade (node before container inside) →
    Adds rules (node before container inside) (start_step room rules (lazy_path_situation rules (path_of rules inside)) line
    (path_of rules (node before container inside)))
    (add_blocks room rules (lazy_situation rules inside) line (node before container inside))
unfolding is_empty_tree
lazy_adds room rules line before container inside h =
    let tree : Tree = node before container inside in
    subst (λ s. Adds rules tree (start_step room rules s line (path_of rules tree))
    (add_blocks room rules (lazy_situation rules inside) line tree)) (sym (same_situation rules inside))
    (blocks_add room rules (lazy_situation rules inside) line tree (ready_in (lazy_situation rules inside) tree h refl))

node_adds : (room : ℕ) (rules : Rules) (line : Line) (before : Tree) (container : ContainerLines) (inside : Tree)
    → IsMade (node before container inside) →
    ((new : Tree) → IsMade new → IsMade (node before container new))
    → gone_on (container_open (is_empty_tree inside) container) ≡ container_open false container →
    ((rest : Line) → Adds rules inside (line_step (room - 1) rules rest (path_of rules inside)) (add_line (room - 1) rules rest inside))
    → (found : Option Line) →
    Adds rules (node before container inside)
    (elim found [
      | Some rest ↦ moved_inside (container_level rules (path_of rules before) container)
          (gone_on (container_open (is_empty_tree inside) container)) (line_step (room - 1) rules rest (path_of rules inside))
      | None ↦ start_step room rules (lazy_path_situation rules (path_of rules inside)) line (path_of rules (node before container inside))
    ])
    (elim found [
      | Some rest ↦ node before container (add_line (room - 1) rules rest inside)
      | None ↦ add_blocks room rules
          (lazy_situation rules inside) line (node before container inside)
    ])
unfolding path_of left_references is_empty_tree
node_adds room rules line before container inside h makes e more None = lazy_adds room rules line before container inside h
node_adds room rules line before container inside h makes e more (Some rest) =
    let level : Level = container_level rules (path_of rules before) container in
    let new : Tree = add_line (room - 1) rules rest inside in
    let step : Moved = line_step (room - 1) rules rest (path_of rules inside) in (
      same
          (ap₂ (λ c path. Inside level c path) (e ∙ ap (λ b. container_open b container) (sym (more rest).2))
          (ap (λ (x : Moved). x.path) (more rest).0))
          (append_assoc (references_of rules before) (left_references rules inside) step.refs
          ∙ ap (λ refs. references_of rules before ++ refs) (ap (λ (x : Moved). x.refs) (more rest).0)),
      makes new (more rest).1,
      refl,
    )

pub line_adds : (room : ℕ) (rules : Rules) (line : Line) (tree : Tree) → IsMade tree
    → Adds rules tree (line_step room rules line (path_of rules tree)) (add_line room rules line tree)
unfolding line_step leaf_takes taken path_of add_line matched matched_open
line_adds room rules line none h = blocks_add room rules NoParagraph line none tt
line_adds room rules line (before ▹ leaf) h = leaf_line_adds room rules line before leaf h
line_adds room rules line (node before QuoteLines inside) h =
    node_adds room rules line before QuoteLines inside h (λ new g. (h.0, g)) refl (λ rest. line_adds (room - 1) rules rest inside h.1)
    (quote_start line)
line_adds room rules line (node before (ItemLines kind start columns) inside) h =
    node_adds room rules line before (ItemLines kind start columns) inside h (λ new g. (h.0, g)) refl
    (λ rest. line_adds (room - 1) rules rest inside h.1) (matched (ItemLines kind start columns) inside line)
line_adds room rules line (node before (ListLines kind start tight) inside) h = absurd h
