-- The tags of all levels in a row: what each level has of them.
use Rattle.std.specs.Prelude.{◌≡◌, Bool, true, List, [], ◌∷◌, ◌++◌, map, reverse, length, Option, Some, None}
use Rattle.doc_rules.specs.Forests.{none, node}
use Rattle.doc_rules.specs.Blocks.{Blocks, Container, BlockQuote, ListBlock, ListItem, list_start}
use Rattle.doc_blocks_starts.specs.Items.{kind_of}
use Rattle.doc_blocks_leaves.specs.Paths as paths
use Rattle.doc_blocks_starts.specs.Tags.{tags_shown}
use Rattle.doc_blocks_starts.specs.OpenTags as tags
use Rattle.doc_blocks.specs.StackSteps.{Outer, Stack}
use Rattle.doc_blocks.specs.Containers.{container_shown, block_of}
use Rattle.doc_blocks.specs.declared.levels.OpenList.{OpenList}
use Rattle.doc_blocks.specs.declared.levels.Level.{Level}
use Rattle.doc_blocks.specs.declared.levels.Open.{Open}
use Rattle.doc_blocks.specs.declared.levels.Left.{Left}
use Rattle.doc_blocks.specs.declared.levels.Levels.{Levels}

-- an open list with these items
abbrev pub list_shown : Blocks → OpenList → paths.OpenList
list_shown items list = record { kind = kind_of list.kind; start = list.start; tight = list.tight; items = items }

-- an open list as a container, tight or not
abbrev pub list_of : OpenList → (tight : Bool) → Container
list_of list tight = ListBlock (list_start (kind_of list.kind) list.start) tight

-- ---- levels, by the containers that are open in the tags, the innermost first, and the blocks inside the innermost one

-- a level: these blocks are its own, or the items of its open list, whose container is the first one
abbrev pub level_at : List tags.Entry → Blocks → (gap : Bool) → Option OpenList → paths.Level
level_at entries last gap None = record { blocks = last; list = None; gap = gap }
level_at [] last gap (Some list) = record { blocks = none; list = Some (list_shown last list); gap = gap }
level_at (entry ∷ entries) last gap (Some list) = record { blocks = entry.1; list = Some (list_shown last list); gap = gap }

-- the containers round a level
abbrev pub round : Option OpenList → List tags.Entry → List tags.Entry
round None entries = entries
round (Some list) [] = []
round (Some list) (entry ∷ entries) = entries

-- an open container with the level that it stands in
abbrev pub Frame : Type 0
Frame = Level × Container

-- those of the code, the innermost first
abbrev pub frames_of : List Open → List Frame
frames_of outer = reverse (map (λ (o : Open). (o.level, block_of o.container)) outer)

abbrev pub levels_in : List Frame → List tags.Entry → List paths.Level
levels_in [] entries = []
levels_in (frame ∷ more) [] = level_at [] none frame.0.gap frame.0.list ∷ levels_in more []
levels_in (frame ∷ more) (entry ∷ entries) =
    level_at entries entry.1 frame.0.gap frame.0.list ∷ levels_in more (round frame.0.list entries)

-- levels with the containers that stand in them
abbrev pub with_containers : List paths.Level → List Open → List Outer
with_containers [] outer = []
with_containers (level ∷ levels) [] = []
with_containers (level ∷ levels) (o ∷ outer) = (level, container_shown o.container) ∷ with_containers levels outer

abbrev pub outers_at : List Open → List tags.Entry → List Outer
outers_at outer entries = with_containers (reverse (levels_in (frames_of outer) entries)) outer

-- the stack in parts
abbrev pub stack_at : List Open → (gap : Bool) → Option OpenList → (blank : Bool) → tags.Open → Stack
stack_at outer gap list blank state = record {
  outer = outers_at outer (round list state.0);
  inner = level_at state.0 state.1 gap list;
  blank = blank;
}

abbrev pub stack_of : Levels → Stack
stack_of s = stack_at s.outer.items s.inner.gap s.inner.list s.blank (tags.read (tags_shown s.tags.items))

-- ---- what holds of the tags

-- an item stands in a list, a quote in none
abbrev pub Suits : Container → Option OpenList → Type 0
Suits BlockQuote None = Unit {0}
Suits ListItem (Some list) = Unit {0}
Suits container list = ⊥

-- the first of these containers is the open list, which starts where the list says and is tight there, and the others are so
abbrev pub ListFits : OpenList → List tags.Entry → (List tags.Entry → Type 0) → Type 0
ListFits list [] AreSo = ⊥
ListFits list (entry ∷ entries) AreSo =
    (entry.0 ≡ list_of list true) × ((list.place ≡ length (tags.open_tags entries entry.1)) × AreSo entries)

-- where a list is open
abbrev pub LevelFits : Option OpenList → List tags.Entry → (List tags.Entry → Type 0) → Type 0
LevelFits None entries AreSo = AreSo entries
LevelFits (Some list) entries AreSo = ListFits list entries AreSo

-- these containers are those of the frames and of their levels' lists
abbrev pub AreSound : List Frame → List tags.Entry → Type 0
AreSound [] [] = Unit {0}
AreSound [] (entry ∷ entries) = ⊥
AreSound (frame ∷ more) [] = ⊥
AreSound (frame ∷ more) (entry ∷ entries) =
    (entry.0 ≡ frame.1) × (Suits frame.1 frame.0.list × LevelFits frame.0.list entries (AreSound more))

-- the tags are of open containers, which are those that the levels say
pub record IsSound (s : Levels) : Type 0 where
  pub entries : List tags.Entry
  pub last : Blocks
  pub woven : tags_shown s.tags.items ≡ tags.open_tags entries last
  pub fits : LevelFits s.inner.list entries (AreSound (frames_of s.outer.items))

-- ---- a container that is left

-- a level with one more item in its open list
abbrev pub item_put_in : paths.Level → Blocks → Option paths.OpenList → paths.Level
item_put_in level inside None = level
item_put_in level inside (Some list) = record level { list = Some (record list { items = node list.items ListItem inside }) }

-- the level in which a container stands, with the container closed round these blocks, where blank lines count for nothing
abbrev pub put_inside : paths.Level → paths.OpenContainer → Blocks → paths.Level
put_inside level paths.OpenQuote inside = paths.with_blocks level (node (paths.finished level) BlockQuote inside)
put_inside level (paths.OpenItem columns is_empty) inside = item_put_in level inside level.list

-- the innermost container was taken off, and closed
pub record Leaves (old new : Stack) (left : Left) : Type 0 where
  pub level : paths.Level
  pub outer : old.outer ≡ new.outer ++ (level, container_shown left.container) ∷ []
  pub inner : new.inner ≡ put_inside level (container_shown left.container) (paths.finished old.inner)
  pub gap : left.gap ≡ old.inner.gap
  pub blank : new.blank ≡ old.blank
