-- Lists, tight and loose (CommonMark 0.31.2, section 5.3): made when all lines are there, before definitions leave paragraphs.
use Rattle.std.specs.Prelude.{ℕ, Bool, true, false, not, ◌&&◌, ◌||◌, List, [], ◌∷◌, Option, Some, None}
use Rattle.doc_rules.specs.Characters.{Text, is_blank_text}
use Rattle.doc_rules.specs.ContainerStarts.{ListKind, is_same_kind}
use Rattle.doc_rules.specs.Forests.{none, ◌▹◌, node}
use Rattle.doc_rules.specs.Trees.{IndentedLines, HtmlLines, BlankLine, QuoteLines, ItemLines, ListLines, Tree}

-- ---- blank lines between blocks

-- the last of these lines is blank
unfoldable pub is_last_blank : List Text → Bool
is_last_blank [] = false
is_last_blank (line ∷ []) = is_blank_text line
is_last_blank (line ∷ next ∷ more) = is_last_blank (next ∷ more)

-- behind the last block stands a blank line that is no part of it: blank lines at the end of indented code and of an HTML block
-- are none of theirs, those in a fence and in a quote are (this project's choice)
unfoldable pub ends_blank : Tree → Bool
ends_blank none = false
ends_blank (before ▹ BlankLine) = true
ends_blank (before ▹ IndentedLines lines) = is_last_blank lines
ends_blank (before ▹ HtmlLines goes_on kind lines) = is_last_blank lines
ends_blank (before ▹ leaf) = false
ends_blank (node before QuoteLines inside) = false
ends_blank (node before (ItemLines kind start columns) inside) = ends_blank inside
ends_blank (node before (ListLines kind start tight) inside) = ends_blank inside

-- a blank line stands between two of the blocks; a paragraph of definitions alone counts as one (this project's choice)
unfoldable pub has_gap : Tree → Bool
has_gap none = false
has_gap (before ▹ BlankLine) = has_gap before
has_gap (before ▹ leaf) = ends_blank before || has_gap before
has_gap (node before container inside) = ends_blank before || has_gap before

-- ---- lists

-- a list at the end of a tree, and the tree before it
pub record LastList : Type 0 where
  pub before : Tree
  pub start : ℕ
  pub tight : Bool
  pub items : Tree

-- the list of this kind that a tree ends with, but for blank lines
unfoldable pub last_list : ListKind → Tree → Option LastList
last_list kind none = None
last_list kind (before ▹ BlankLine) = last_list kind before
last_list kind (before ▹ leaf) = None
last_list kind (node before (ListLines other start tight) items) =
    elim (is_same_kind other kind) [ true ↦ Some (record { before = before; start = start; tight = tight; items = items }) | false ↦ None ]
last_list kind (node before container inside) = None

-- an item goes into the list before it, or begins one. A list is loose where a blank line stands between two items, or between
-- two blocks directly in an item
unfoldable pub with_item : ListKind → ℕ → ℕ → Tree → Tree → Tree
with_item kind start columns inside before =
    elim (last_list kind before) [
      | Some l ↦ node l.before (ListLines kind l.start (l.tight && not (ends_blank before || has_gap inside)))
          (node l.items (ItemLines kind start columns) inside)
      | None ↦ node before (ListLines kind start (not (has_gap inside))) (node none (ItemLines kind start columns) inside)
    ]

-- the tree with its items in lists: a list is a run of items of one kind; no blank line is left between them
unfoldable pub listed : Tree → Tree
listed none = none
listed (before ▹ leaf) = listed before ▹ leaf
listed (node before (ItemLines kind start columns) inside) = with_item kind start columns (listed inside) (listed before)
listed (node before container inside) = node (listed before) container (listed inside)
