-- A path as the containers that are open, the outermost first, and the level inside them; words in which the steps on it are said.
use Rattle.std.specs.Prelude.{◌≡◌, Bool, false, ◌&&◌, not, List, [], ◌∷◌, ◌++◌, ℕ, Option, Some, None}
use Rattle.doc_rules.specs.ContainerStarts.{ListKind, is_same_kind}
use Rattle.doc_rules.specs.Blocks.{Blocks}
use Rattle.doc_blocks_leaves.specs.Leaves.{OpenLeaf}
use Rattle.doc_blocks_leaves.specs.Paths.{OpenList, Level, OpenContainer, OpenQuote, OpenItem, Path, Here, Inside, empty_level}
use Rattle.doc_blocks_leaves.specs.Paths.{with_blocks, begun_at, item_begun_at}
use Rattle.doc_blocks_leaves.specs.Closing.{container_closed}

-- an open container and the level that it stands in
abbrev pub Outer : Type 0
Outer = Level × OpenContainer

-- a path without its open leaf
pub record Stack : Type 0 where
  pub outer : List Outer
  pub inner : Level
  pub blank : Bool

-- a path inside open containers
abbrev pub inside : List Outer → Path → Path
inside [] path = path
inside (o ∷ more) path = Inside o.0 o.1 (inside more path)

-- a stack with a leaf at its innermost level
abbrev pub path_at : Stack → OpenLeaf → Path
path_at s leaf = inside s.outer (Here s.inner leaf s.blank)

-- no container is open, and nothing stands there
abbrev pub empty_stack : Stack
empty_stack = record { outer = []; inner = empty_level; blank = false }

-- ---- steps

-- the innermost level's list closes, and these blocks stand there
abbrev pub with_inner_blocks : Stack → Blocks → Stack
with_inner_blocks s blocks = record s { inner = with_blocks s.inner blocks }

-- a block begins at the innermost level
abbrev pub block_begun : Stack → Stack
block_begun s = record s { inner = begun_at s.inner s.blank; blank = false }

-- an item begins there
abbrev pub item_begun : Stack → ListKind → ℕ → Stack
item_begun s kind start = record s { inner = item_begun_at s.inner s.blank kind start; blank = false }

-- a container opens there
abbrev pub container_opened : Stack → OpenContainer → Stack
container_opened s container = record { outer = s.outer ++ (s.inner, container) ∷ []; inner = empty_level; blank = false }

-- whether a blank line behind what stands in a container stands behind the container
abbrev pub container_blank : OpenContainer → Bool → Bool
container_blank OpenQuote blank = false
container_blank (OpenItem columns is_empty) blank = blank

-- a blank line between two blocks of an item makes the list round it loose
unfoldable pub loosened : Level → (gap : Bool) → Option OpenList → Level
loosened level gap None = level
loosened level gap (Some list) = record level { list = Some (record list { tight = list.tight && not gap }) }

abbrev pub stack_loosened : Stack → (gap : Bool) → Stack
stack_loosened s gap = record s { inner = loosened s.inner gap s.inner.list }

-- no list is open, or one of another kind
abbrev pub IsNotOf : ListKind → Option OpenList → Type 0
IsNotOf kind None = Unit {0}
IsNotOf kind (Some list) = is_same_kind list.kind kind ≡ false

-- the innermost container closes
pub record ClosesLast (old new : Stack) : Type 0 where
  pub last : Outer
  pub outer : old.outer ≡ new.outer ++ last ∷ []
  pub inner : new.inner ≡ container_closed last.0 last.1 old.inner
  pub blank : new.blank ≡ container_blank last.1 old.blank
