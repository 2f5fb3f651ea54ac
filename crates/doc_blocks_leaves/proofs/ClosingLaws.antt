-- What a path becomes when all that is open in it closes: the blocks of its tree with the items in lists, and the definitions.
use Rattle.std.proofs.Common.{◌≡◌, ℕ, Bool, true, false, List, ◌++◌, refl, ap, ap₂, sym, ◌∙◌, Option, Some, None, append_assoc, append-nil}
use Rattle.std.proofs.Common.{eqb-true}
use Rattle.std.specs.Prelude.{◌&&◌, ◌||◌, not, ⊤}
use Rattle.doc_rules.specs.Rules.{Rules}
use Rattle.doc_rules.specs.Definitions.{Definition}
use Rattle.doc_rules.specs.ContainerStarts.{ListKind, Bullet, Ordered, is_same_kind}
use Rattle.doc_rules.specs.Forests.{none, ◌▹◌, node}
use Rattle.doc_rules.specs.Trees.{LeafLines, FencedLines, HtmlLines, BlankLine, QuoteLines, ItemLines, ListLines, Tree}
use Rattle.doc_rules.specs.Lists.{ends_blank, has_gap, LastList, last_list, with_item, listed}
use Rattle.doc_rules.specs.Blocks.{tasks_read, Blocks, BlockQuote, ListItem, with_leaf, container_of, blocks_of, leaf_references}
use Rattle.doc_rules.specs.Blocks.{references_of}
use Rattle.doc_rules.specs.Blocks.{Document, tree_document}
use Rattle.doc_blocks_leaves.specs.Leaves.{open_of, with_open}
use Rattle.doc_blocks_leaves.specs.Paths.{OpenList, Level, empty_level, Path, finished_list, finished, first_item, one_more_item}
use Rattle.doc_blocks_leaves.specs.Paths.{item_begun_in, item_begun_at}
use Rattle.doc_blocks_leaves.specs.Closing.{leaf_closed, item_closed, container_closed, closed, path_blank}
use Rattle.doc_blocks_leaves.specs.OpenBlocks.{path_document}
use Rattle.doc_blocks_leaves.proofs.TreePaths.{leaf_path, path_of, moved_of, IsMade, all_references}

-- ---- the level of a tree with lists

abbrev level_with : Blocks → Option OpenList → Bool → Level
level_with blocks list gap = record { blocks = blocks; list = list; gap = gap }

abbrev list_with : ListKind → ℕ → Bool → Blocks → OpenList
list_with kind start tight items = record { kind = kind; start = start; tight = tight; items = items }

-- its last list is open, also behind blank lines
abbrev level_of : Rules → Tree → Level
level_of rules none = empty_level
level_of rules (before ▹ BlankLine) = level_of rules before
level_of rules (before ▹ leaf) = level_with (with_leaf rules leaf (blocks_of rules before)) None (ends_blank before || has_gap before)
level_of rules (node before (ListLines kind start tight) items) = level_with (blocks_of rules before)
    (Some (list_with kind start tight (blocks_of rules items))) (ends_blank before || has_gap before)
level_of rules (node before container inside) = level_with (node (blocks_of rules before) (container_of container)
    (blocks_of rules inside)) None (ends_blank before || has_gap before)

finished_level : (rules : Rules) (tree : Tree) → finished (level_of rules tree) ≡ blocks_of rules tree
unfolding finished_list blocks_of container_of with_leaf
finished_level rules none = refl
finished_level rules (before ▹ BlankLine) = finished_level rules before
finished_level rules (before ▹ leaf) = refl
finished_level rules (node before (ListLines kind start tight) items) = refl
finished_level rules (node before container inside) = refl

level_gap : (rules : Rules) (tree : Tree) → (level_of rules tree).gap ≡ has_gap tree
unfolding has_gap
level_gap rules none = refl
level_gap rules (before ▹ BlankLine) = level_gap rules before
level_gap rules (before ▹ leaf) = refl
level_gap rules (node before (ListLines kind start tight) items) = refl
level_gap rules (node before container inside) = refl

-- ---- blank lines behind the last block

with_item_blank : (kind : ListKind) (start columns : ℕ) (inside before : Tree)
    → ends_blank (with_item kind start columns inside before) ≡ ends_blank inside
unfolding with_item ends_blank
with_item_blank kind start columns inside before = at (last_list kind before)
  where
    at : (found : Option LastList) →
        ends_blank (elim found [
          | Some l ↦ node l.before (ListLines kind l.start (l.tight && not (ends_blank before || has_gap inside)))
              (node l.items (ItemLines kind start columns) inside)
          | None ↦ node before (ListLines kind start (not (has_gap inside))) (node none (ItemLines kind start columns) inside)
        ]) ≡ ends_blank inside
    at None = refl
    at (Some l) = refl

listed_blank : (tree : Tree) → ends_blank (listed tree) ≡ ends_blank tree
unfolding listed ends_blank
listed_blank none = refl
listed_blank (before ▹ leaf) = same_leaf leaf
  where
    same_leaf : (leaf : LeafLines) → ends_blank (listed before ▹ leaf) ≡ ends_blank (before ▹ leaf)
    same_leaf BlankLine = refl
    same_leaf leaf = refl
listed_blank (node before QuoteLines inside) = refl
listed_blank (node before (ItemLines kind start columns) inside) = with_item_blank kind start columns (listed inside) (listed before)
    ∙ listed_blank inside
listed_blank (node before (ListLines kind start tight) inside) = listed_blank inside

leaf_path_blank : (rules : Rules) (path : Path) (before : Tree) (leaf : LeafLines)
    → path_blank (leaf_path rules path leaf) ≡ ends_blank (before ▹ leaf)
unfolding leaf_path path_blank open_of ends_blank
leaf_path_blank rules path before (FencedLines true fence info lines) = refl
leaf_path_blank rules path before (FencedLines false fence info lines) = refl
leaf_path_blank rules path before (HtmlLines true kind lines) = refl
leaf_path_blank rules path before (HtmlLines false kind lines) = refl
leaf_path_blank rules path before leaf = refl

path_of_blank : (rules : Rules) (tree : Tree) → IsMade tree → path_blank (path_of rules tree) ≡ ends_blank tree
unfolding path_of path_blank ends_blank
path_of_blank rules none h = refl
path_of_blank rules (before ▹ leaf) h = leaf_path_blank rules (path_of rules before) before leaf
path_of_blank rules (node before QuoteLines inside) h = refl
path_of_blank rules (node before (ItemLines kind start columns) inside) h = path_of_blank rules inside h.1
path_of_blank rules (node before (ListLines kind start tight) inside) h = absurd h

-- ---- items

-- an item behind a level: of the list that was found, or of a new one
abbrev IsListOf : Rules → ListKind → Level → Option LastList → Type 0
IsListOf rules kind level None = (blank : Bool) (start : ℕ) → item_begun_at level blank kind start ≡ first_item level blank kind start
IsListOf rules kind level (Some l) = (blank : Bool) (start : ℕ) →
    item_begun_at level blank kind start ≡ level_with (blocks_of rules l.before)
    (Some (list_with kind l.start (l.tight && not blank) (blocks_of rules l.items))) (ends_blank l.before || has_gap l.before)

same_kind : (a b : ListKind) → is_same_kind a b ≡ true → a ≡ b
unfolding is_same_kind
same_kind (Bullet a) (Bullet b) e = ap Bullet (eqb-true a b e)
same_kind (Ordered a) (Ordered b) e = ap Ordered (eqb-true a b e)
same_kind (Bullet a) (Ordered b) e = absurd cc
same_kind (Ordered a) (Bullet b) e = absurd cc

list_at : (rules : Rules) (kind other : ListKind) (before items : Tree) (start : ℕ) (tight : Bool) (b : Bool)
    → is_same_kind other kind ≡ b →
    IsListOf rules kind (level_of rules (node before (ListLines other start tight) items))
    (elim b [ true ↦ Some (record { before = before; start = start; tight = tight; items = items }) | false ↦ None ])
unfolding item_begun_in
list_at rules kind other before items start tight true e = λ blank first.
    let level : Level = level_of rules (node before (ListLines other start tight) items) in
    let list : OpenList = list_with other start tight (blocks_of rules items) in
    ap (λ b. elim b [ true ↦ one_more_item level list blank | false ↦ first_item level blank kind first ]) e
    ∙ ap (λ k. level_with (blocks_of rules before) (Some (list_with k start (tight && not blank) (blocks_of rules items)))
    (ends_blank before || has_gap before)) (same_kind other kind e)
list_at rules kind other before items start tight false e = λ blank first.
    let level : Level = level_of rules (node before (ListLines other start tight) items) in
    let list : OpenList = list_with other start tight (blocks_of rules items) in
    ap (λ b. elim b [ true ↦ one_more_item level list blank | false ↦ first_item level blank kind first ]) e

last_list_level : (rules : Rules) (kind : ListKind) (tree : Tree) → IsListOf rules kind (level_of rules tree) (last_list kind tree)
unfolding last_list item_begun_in
last_list_level rules kind none = λ blank start. refl
last_list_level rules kind (before ▹ BlankLine) = last_list_level rules kind before
last_list_level rules kind (before ▹ leaf) = λ blank start. refl
last_list_level rules kind (node before (ListLines other start tight) items) = list_at rules kind other before items start tight
    (is_same_kind other kind) refl
last_list_level rules kind (node before container inside) = λ blank start. refl

tight_with : (tight a b : Bool) → (tight && not a) && not b ≡ tight && not (a || b)
tight_with true true b = refl
tight_with true false b = refl
tight_with false a b = refl

or_swap : (a b : Bool) → (a || b) ≡ (b || a)
or_swap true true = refl
or_swap true false = refl
or_swap false true = refl
or_swap false false = refl

-- an open item closes
abbrev item_done : Level → Level → Level
item_done level inside = item_closed level level.list inside

item_level_at : (rules : Rules) (kind : ListKind) (start columns : ℕ) (inside before : Tree) (found : Option LastList)
    → IsListOf rules kind (level_of rules before) found →
    item_done (item_begun_at (level_of rules before) (ends_blank before) kind start) (level_of rules inside)
    ≡ level_of rules (elim found [
      | Some l ↦ node l.before (ListLines kind l.start (l.tight && not (ends_blank before || has_gap inside)))
          (node l.items (ItemLines kind start columns) inside)
      | None ↦ node before (ListLines kind start (not (has_gap inside))) (node none (ItemLines kind start columns) inside)
    ])
unfolding item_closed blocks_of container_of
item_level_at rules kind start columns inside before None agrees =
    ap (λ level. item_done level (level_of rules inside)) (agrees (ends_blank before) start)
    ∙ (ap₂ (λ blocks gap. level_with blocks
    (Some (list_with kind start (not (level_of rules inside).gap) (node none ListItem (finished (level_of rules inside))))) gap)
    (finished_level rules before) (ap (λ b. b || ends_blank before) (level_gap rules before) ∙ or_swap (has_gap before) (ends_blank before))
    ∙ ap₂ (λ gap items. level_with (blocks_of rules before) (Some (list_with kind start (not gap) (node none ListItem items)))
    (ends_blank before || has_gap before))
    (level_gap rules inside) (finished_level rules inside))
item_level_at rules kind start columns inside before (Some l) agrees =
    ap (λ level. item_done level (level_of rules inside)) (agrees (ends_blank before) start)
    ∙ ap₂ (λ tight items. level_with (blocks_of rules l.before)
    (Some (list_with kind l.start tight (node (blocks_of rules l.items) ListItem items))) (ends_blank l.before || has_gap l.before))
    (ap (λ b. (l.tight && not (ends_blank before)) && not b) (level_gap rules inside)
    ∙ tight_with l.tight (ends_blank before) (has_gap inside)) (finished_level rules inside)

item_level : (rules : Rules) (kind : ListKind) (start columns : ℕ) (inside before : Tree) →
    item_done (item_begun_at (level_of rules before) (ends_blank before) kind start) (level_of rules inside)
    ≡ level_of rules (with_item kind start columns inside before)
unfolding with_item
item_level rules kind start columns inside before = item_level_at rules kind start columns inside before (last_list kind before)
    (last_list_level rules kind before)

-- ---- the blocks

-- a block behind a path that closed, and behind a tree with lists
block_behind : (rules : Rules) (path : Path) (before : Tree) (put : Blocks → Blocks) → closed rules path ≡ level_of rules (listed before)
    → path_blank path ≡ ends_blank before →
    level_with (put (finished (closed rules path))) None ((closed rules path).gap || path_blank path)
    ≡ level_with (put (blocks_of rules (listed before))) None (ends_blank (listed before) || has_gap (listed before))
block_behind rules path before put e f =
    ap₂ (λ blocks gap. level_with (put blocks) None gap)
    (ap (λ (level : Level). finished level) e ∙ finished_level rules (listed before))
    (ap₂ (λ a b. a || b) (ap (λ (level : Level). level.gap) e ∙ level_gap rules (listed before)) (f ∙ sym (listed_blank before))
    ∙ or_swap (has_gap (listed before)) (ends_blank (listed before)))

closed_leaf : (rules : Rules) (path : Path) (before : Tree) (leaf : LeafLines) → closed rules path ≡ level_of rules (listed before)
    → path_blank path ≡ ends_blank before →
    closed rules (leaf_path rules path leaf) ≡ level_of rules (listed (before ▹ leaf))
unfolding closed leaf_closed leaf_path open_of with_open with_leaf listed finished_list
closed_leaf rules path before BlankLine e f = e
closed_leaf rules path before (FencedLines true fence info lines) e f = block_behind rules path before
    (with_leaf rules (FencedLines true fence info lines)) e f
closed_leaf rules path before (FencedLines false fence info lines) e f = block_behind rules path before
    (with_leaf rules (FencedLines false fence info lines)) e f
closed_leaf rules path before (HtmlLines true kind lines) e f = block_behind rules path before
    (with_leaf rules (HtmlLines true kind lines)) e f
closed_leaf rules path before (HtmlLines false kind lines) e f = block_behind rules path before
    (with_leaf rules (HtmlLines false kind lines)) e f
closed_leaf rules path before leaf e f = block_behind rules path before (with_leaf rules leaf) e f

closed_path : (rules : Rules) (tree : Tree) → IsMade tree → closed rules (path_of rules tree) ≡ level_of rules (listed tree)
unfolding closed leaf_closed container_closed path_of listed finished_list container_of
closed_path rules none h = refl
closed_path rules (before ▹ leaf) h = closed_leaf rules (path_of rules before) before leaf (closed_path rules before h.0)
    (path_of_blank rules before h.0)
closed_path rules (node before QuoteLines inside) h =
    ap (λ (level : Level). level_with (node (finished (closed rules (path_of rules before))) BlockQuote (finished level)) None
    ((closed rules (path_of rules before)).gap || path_blank (path_of rules before)))
    (closed_path rules inside h.1)
    ∙ (ap (λ blocks. level_with (node (finished (closed rules (path_of rules before))) BlockQuote blocks) None
    ((closed rules (path_of rules before)).gap || path_blank (path_of rules before)))
    (finished_level rules (listed inside))
    ∙ block_behind rules (path_of rules before) before (λ blocks. node blocks BlockQuote (blocks_of rules (listed inside)))
    (closed_path rules before h.0) (path_of_blank rules before h.0))
closed_path rules (node before (ItemLines kind start columns) inside) h =
    ap₂ (λ level within. item_done (item_begun_at level (path_blank (path_of rules before)) kind start) within)
    (closed_path rules before h.0) (closed_path rules inside h.1)
    ∙ (ap (λ blank. item_done (item_begun_at (level_of rules (listed before)) blank kind start) (level_of rules (listed inside)))
    (path_of_blank rules before h.0 ∙ sym (listed_blank before))
    ∙ item_level rules kind start columns (listed inside) (listed before))
closed_path rules (node before (ListLines kind start tight) inside) h = absurd h

-- ---- the definitions

abbrev IfListReferences : Rules → Tree → Option LastList → Type 0
IfListReferences rules tree None = ⊤
IfListReferences rules tree (Some l) = references_of rules tree ≡ references_of rules l.before ++ references_of rules l.items

blank_references : (rules : Rules) (before : Tree) (found : Option LastList) → IfListReferences rules before found
    → IfListReferences rules (before ▹ BlankLine) found
unfolding references_of leaf_references
blank_references rules before None h = tt
blank_references rules before (Some l) h = append-nil (references_of rules before) ∙ h

list_references_at : (rules : Rules) (other : ListKind) (before items : Tree) (start : ℕ) (tight : Bool) (b : Bool) →
    IfListReferences rules (node before (ListLines other start tight) items)
    (elim b [ true ↦ Some (record { before = before; start = start; tight = tight; items = items }) | false ↦ None ])
unfolding references_of
list_references_at rules other before items start tight true = refl
list_references_at rules other before items start tight false = tt

last_list_references : (rules : Rules) (kind : ListKind) (tree : Tree) → IfListReferences rules tree (last_list kind tree)
unfolding last_list
last_list_references rules kind none = tt
last_list_references rules kind (before ▹ BlankLine) = blank_references rules before (last_list kind before)
    (last_list_references rules kind before)
last_list_references rules kind (before ▹ leaf) = tt
last_list_references rules kind (node before (ListLines other start tight) items) = list_references_at rules other before items start tight
    (is_same_kind other kind)
last_list_references rules kind (node before container inside) = tt

item_references_at : (rules : Rules) (kind : ListKind) (start columns : ℕ) (inside before : Tree) (found : Option LastList)
    → IfListReferences rules before found →
    references_of rules (elim found [
      | Some l ↦ node l.before (ListLines kind l.start (l.tight && not (ends_blank before || has_gap inside)))
          (node l.items (ItemLines kind start columns) inside)
      | None ↦ node before (ListLines kind start (not (has_gap inside))) (node none (ItemLines kind start columns) inside)
    ]) ≡ references_of rules before ++ references_of rules inside
unfolding references_of
item_references_at rules kind start columns inside before None h = refl
item_references_at rules kind start columns inside before (Some l) h =
    sym (append_assoc (references_of rules l.before) (references_of rules l.items) (references_of rules inside))
    ∙ ap (λ refs. refs ++ references_of rules inside) (sym h)

item_references : (rules : Rules) (kind : ListKind) (start columns : ℕ) (inside before : Tree) →
    references_of rules (with_item kind start columns inside before) ≡ references_of rules before ++ references_of rules inside
unfolding with_item
item_references rules kind start columns inside before = item_references_at rules kind start columns inside before (last_list kind before)
    (last_list_references rules kind before)

listed_references : (rules : Rules) (tree : Tree) → references_of rules (listed tree) ≡ references_of rules tree
unfolding listed references_of
listed_references rules none = refl
listed_references rules (before ▹ leaf) = ap (λ refs. refs ++ leaf_references rules leaf) (listed_references rules before)
listed_references rules (node before (ItemLines kind start columns) inside) =
    item_references rules kind start columns (listed inside) (listed before)
    ∙ ap₂ (λ front more. front ++ more) (listed_references rules before) (listed_references rules inside)
listed_references rules (node before container inside) = ap₂ (λ front more. front ++ more) (listed_references rules before)
    (listed_references rules inside)

-- ---- the document

pub path_gives_document : (rules : Rules) (tree : Tree) → IsMade tree
    → path_document rules (moved_of rules tree) ≡ tree_document rules (listed tree)
unfolding path_document tree_document
path_gives_document rules tree h =
    ap₂ (λ blocks refs. document blocks refs)
    (ap (tasks_read rules) (ap (λ (level : Level). finished level) (closed_path rules tree h) ∙ finished_level rules (listed tree)))
    (all_references rules tree
    ∙ sym (listed_references rules tree))
  where
    document : Blocks → List Definition → Document
    document blocks refs = record { blocks = blocks; refs = refs }
