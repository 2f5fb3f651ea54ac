-- What is known of a document after some of its lines, and what a line changes of it.
use Rattle.std.specs.Prelude.{◌≡◌, ℕ, suc, ◌+◌, Bool, true, false, List, [], ◌∷◌, take, drop, Option, Some, None}
use Rattle.doc_rules.specs.Characters.{Text}
use Rattle.doc_rules.specs.Lines.{line_content}
use Rattle.doc_rules.specs.Columns.{Line, cells_of}
use Rattle.doc_rules.specs.Rules.{Rules}
use Rattle.doc_rules.specs.ContainerStarts.{ListKind, ItemStart}
use Rattle.doc_rules.specs.Trees.{Situation, LeafLines, item_may_begin}
use Rattle.doc_rules.specs.Blocks.{Blocks, Heading, with_leaf, with_text, tasks_read}
use Rattle.doc_rules.specs.Definitions.{definitions_of}
use Rattle.doc_refs_parts.specs.Targets.{Targets, targets_of, joined}
use Rattle.doc_blocks_leaves.specs.Leaves.{OpenLeaf, NoLeaf, open_references, open_of}
use Rattle.doc_blocks_leaves.specs.Paths.{OpenQuote, OpenItem, Path, Here, finished}
use Rattle.doc_blocks_leaves.specs.Closing.{leaf_closed, closed, path_references}
use Rattle.doc_blocks_leaves.specs.OpenBlocks.{Moved, start_step, line_step}
use Rattle.doc_blocks.specs.StackSteps.{Stack, inside, path_at, with_inner_blocks, block_begun, item_begun, container_opened}
use Rattle.doc_blocks.specs.PathSteps.{situation_in, closed_to}

-- the path without its leaf, the open leaf, and what labels name so far
pub record State : Type 0 where
  pub stack : Stack
  pub leaf : OpenLeaf
  pub refs : Targets

-- the path inside the first so many containers
abbrev pub below : ℕ → State → Path
below depth s = inside (drop depth s.stack.outer) (Here s.stack.inner s.leaf s.stack.blank)

-- the paragraph that a line meets there
abbrev pub met : Rules → ℕ → State → Situation
met rules depth s = situation_in rules (drop depth s.stack.outer) s.leaf

-- the whole path, and what labels name
abbrev pub shown : State → Path × Targets
shown s = (path_at s.stack s.leaf, s.refs)

-- the same after a move inside the first so many containers
abbrev pub reached : ℕ → State → Moved → Path × Targets
reached depth s m = (inside (take depth s.stack.outer) m.path, joined s.refs (targets_of m.refs))

-- ---- steps

-- the open leaf has closed
abbrev pub leaf_done : Rules → State → State
leaf_done rules s = record {
  stack = record s.stack { inner = leaf_closed rules s.stack.inner s.leaf };
  leaf = NoLeaf;
  refs = joined s.refs (targets_of (open_references rules s.leaf));
}

-- all that is open inside the first so many containers has closed
abbrev pub all_closed : Rules → ℕ → State → State
all_closed rules depth s = record (leaf_done rules s) { stack = closed_to depth (leaf_done rules s).stack }

-- then a quote opened
abbrev pub quote_opened : Rules → ℕ → State → State
quote_opened rules depth s = record (all_closed rules depth s) {
  stack = container_opened (block_begun (all_closed rules depth s).stack)
      OpenQuote;
}

-- or an item
abbrev pub item_opened : Rules → ℕ → State → ListKind → ℕ → (columns : ℕ) → (is_empty : Bool) → State
item_opened rules depth s kind start columns is_empty =
    record (all_closed rules depth s) {
      stack = container_opened (item_begun (all_closed rules depth s).stack kind start)
          (OpenItem columns is_empty);
    }

-- or a leaf
abbrev pub leaf_opened : Rules → ℕ → State → OpenLeaf → State
leaf_opened rules depth s leaf = record (all_closed rules depth s) { stack = block_begun (all_closed rules depth s).stack; leaf = leaf }

-- or a blank line stands there
abbrev pub blank_met : Rules → ℕ → State → State
blank_met rules depth s = record (all_closed rules depth s) { stack = record (all_closed rules depth s).stack { blank = true } }

-- ---- containers that a line begins

-- the item that a line begins there
abbrev pub item_met : Situation → Option ItemStart → Option ItemStart
item_met situation None = None
item_met situation (Some item) = elim (item_may_begin situation item) [ true ↦ Some item | false ↦ None ]

-- one step of what a line begins: it is done, or a container began and this is left of the line
abbrev pub StepsTo : Rules → ℕ → ℕ → State → Line → State → Option Line → Type 0
StepsTo rules room depth old line new None = reached depth old (start_step (suc room) rules (met rules depth old) line (below depth old))
    ≡ shown new
StepsTo rules room depth old line new (Some rest) =
    reached depth old (start_step (suc room) rules (met rules depth old) line (below depth old))
    ≡ reached (depth + 1) new (start_step room rules (met rules (depth + 1) new) rest (below (depth + 1) new))

-- ---- leaves

-- these blocks when a leaf of one line has begun behind them: it is one of them where it is no open leaf
abbrev pub leaf_behind : Rules → LeafLines → OpenLeaf → Blocks → Blocks
leaf_behind rules lines NoLeaf before = with_leaf rules lines before
leaf_behind rules lines leaf before = before

-- a leaf of one line began inside the first so many containers
abbrev pub lines_opened : Rules → ℕ → State → LeafLines → State
lines_opened rules depth s lines = record (all_closed rules depth s) {
  stack = with_inner_blocks (block_begun (all_closed rules depth s).stack)
      (leaf_behind rules lines (open_of rules lines) (block_begun (all_closed rules depth s).stack).inner.blocks);
  leaf = open_of rules lines;
}

-- the open paragraph became a heading
abbrev pub heading_made : Rules → ℕ → State → Text → State
heading_made rules level s text = record {
  stack = record (with_inner_blocks s.stack (with_text (Heading level) (definitions_of rules text).1 (finished s.stack.inner))) {
    blank = false;
  };
  leaf = NoLeaf;
  refs = joined s.refs (targets_of (definitions_of rules text).0);
}

-- ---- lines

-- the path behind a line, and what labels name then
abbrev pub after_line : Rules → State → Line → Path × Targets
after_line rules s line = (
  (line_step 100 rules line (path_at s.stack s.leaf)).path,
  joined s.refs
      (targets_of (line_step 100 rules line (path_at s.stack s.leaf)).refs),
)

-- the blocks of a document and what its labels name, when these lines are left, and this path and what labels name so far
unfoldable pub document_left : Rules → List Text → Path × Targets → Blocks × Targets
document_left rules [] now = (tasks_read rules (finished (closed rules now.0)), joined now.1 (targets_of (path_references rules now.0)))
document_left rules (line ∷ more) now =
    document_left rules more (
      (line_step 100 rules (cells_of (line_content line)) now.0).path,
      joined now.1
          (targets_of (line_step 100 rules (cells_of (line_content line)) now.0).refs),
    )
