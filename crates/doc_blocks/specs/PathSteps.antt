-- What a line does on a path, said of the open containers in a row: those that go on with it, and the rest.
use Rattle.std.specs.Prelude.{◌≡◌, ℕ, zero, suc, ◌+◌, ◌-◌, Bool, List, [], ◌∷◌, ◌++◌, take, drop, Option, Some, None, ◌&&◌, if◌then◌else◌}
use Rattle.doc_rules.specs.Columns.{Line}
use Rattle.doc_rules.specs.Rules.{Rules}
use Rattle.doc_rules.specs.ContainerStarts.{ListKind}
use Rattle.doc_rules.specs.Characters.{Text}
use Rattle.doc_rules.specs.Tables.{has_table}
use Rattle.doc_rules.specs.Trees.{Situation, NoParagraph, LazyParagraph, paragraph_situation}
use Rattle.doc_blocks_leaves.specs.Leaves.{OpenLeaf, OpenParagraph, taken}
use Rattle.doc_blocks_leaves.specs.Paths.{Level, OpenItem, Path, Here, Inside, item_begun_at, matched_open, gone_on, lazy_path_situation}
use Rattle.doc_blocks_leaves.specs.Closing.{container_closed, closed, path_blank, path_references}
use Rattle.doc_blocks_leaves.specs.OpenBlocks.{Moved, start_step, leaf_takes}
use Rattle.doc_blocks.specs.StackSteps.{Outer, Stack, inside, container_blank}

-- ---- going down

-- the open containers that go on with a line, those below, and the line inside the former
pub record Descent : Type 0 where
  pub passed : List Outer
  pub below : List Outer
  pub rest : Line

abbrev pub further : Outer → Descent → Descent
further o d = record d { passed = (o.0, gone_on o.1) ∷ d.passed }

-- behind containers that went on with the line already
abbrev pub behind_these : List Outer → Descent → Descent
behind_these outer d = record d { passed = outer ++ d.passed }

unfoldable pub descended : List Outer → Line → Descent
descended [] line = record { passed = []; below = []; rest = line }
descended (o ∷ more) line =
    elim (matched_open o.1 line) [
      | Some rest ↦ further o (descended more rest)
      | None ↦
          record { passed = []; below = o ∷ more; rest = line }
    ]

-- a line went down a stack, so many containers
pub record GoesDown (old : Stack) (line : Line) (new : Stack) (depth : ℕ) (rest : Line) : Type 0 where
  pub descent : descended old.outer line ≡ record { passed = take depth new.outer; below = drop depth new.outer; rest = rest }
  pub inner : new.inner ≡ old.inner
  pub blank : new.blank ≡ old.blank

-- these containers, of which the one at this place went on with a line
abbrev pub gone_on_at : ℕ → List Outer → List Outer
gone_on_at n [] = []
gone_on_at zero (o ∷ more) = (o.0, gone_on o.1) ∷ more
gone_on_at (suc n) (o ∷ more) = o ∷ gone_on_at n more

-- a move inside open containers
abbrev pub moved_within : List Outer → Moved → Moved
moved_within outer m = record { path = inside outer m.path; refs = m.refs }

-- the room that containers leave
abbrev pub room_behind : ℕ → List Outer → ℕ
room_behind room [] = room
room_behind room (o ∷ more) = room_behind (room - 1) more

-- what the line does where it stops, above these containers
abbrev pub stopped : ℕ → Rules → Line → List Outer → Level → OpenLeaf → Bool → Moved
stopped room rules line [] level leaf blank = leaf_takes room rules line level leaf blank (taken line leaf)
stopped room rules line (o ∷ more) level leaf blank =
    start_step room rules (lazy_path_situation rules (inside more (Here level leaf blank))) line (inside (o ∷ more) (Here level leaf blank))

-- the paragraph that the line meets there: one with a table in it is none, but that the line may be a row where all containers go on
abbrev pub lazy_leaf : Rules → OpenLeaf → Situation
lazy_leaf rules (OpenParagraph text) = if rules.tables && has_table text then NoParagraph else LazyParagraph
lazy_leaf rules leaf = NoParagraph

abbrev pub situation_in : Rules → List Outer → OpenLeaf → Situation
situation_in rules [] (OpenParagraph text) = paragraph_situation rules text
situation_in rules [] leaf = NoParagraph
situation_in rules (o ∷ more) leaf = lazy_leaf rules leaf

-- the open paragraph, where none of these containers stands round it
abbrev pub paragraph_in : List Outer → OpenLeaf → Option Text
paragraph_in [] (OpenParagraph text) = Some text
paragraph_in outer leaf = None

-- ---- closing

-- the level of the outermost of these containers when all have closed, the innermost level being this one
abbrev pub closed_in : List Outer → Level → Level
closed_in [] level = level
closed_in (o ∷ more) level = container_closed o.0 o.1 (closed_in more level)

-- whether a blank line stands behind its last block then
abbrev pub blank_in : List Outer → Bool → Bool
blank_in [] blank = blank
blank_in (o ∷ more) blank = container_blank o.1 (blank_in more blank)

-- all but the first so many containers have closed
abbrev pub closed_to : ℕ → Stack → Stack
closed_to depth s = record {
  outer = take depth s.outer;
  inner = closed_in (drop depth s.outer) s.inner;
  blank = blank_in
      (drop depth s.outer) s.blank;
}

-- ---- what begins

-- an item begins behind a path, and this is inside
abbrev pub item_moved : Rules → Path → ListKind → ℕ → (columns : ℕ) → (is_empty : Bool) → Moved → Moved
item_moved rules path kind start columns is_empty m = record {
  path = Inside (item_begun_at (closed rules path) (path_blank path) kind start) (OpenItem columns is_empty) m.path;
  refs = path_references rules path ++ m.refs;
}

-- ---- places

-- this is what the container at this place makes of the line
pub record MatchesAt (place : ℕ) (outer : List Outer) (line : Line) (found : Option Line) : Type 0 where
  pub here : Outer
  pub split : drop place outer ≡ here ∷ drop (place + 1) outer
  pub found_is : found ≡ matched_open here.1 line
