-- Tags among which containers are open: what was read of them so far.
use Rattle.std.specs.Prelude.{List, [], ◌∷◌, ◌++◌}
use Rattle.doc_rules.specs.Forests.{none, ◌▹◌, node}
use Rattle.doc_rules.specs.Blocks.{Container, Blocks}
use Rattle.doc_blocks_starts.specs.Tags.{Tag, OneLeaf, Start, End, tags_of}

-- an open container, and the blocks before it
abbrev pub Entry : Type 0
Entry = Container × Blocks

-- the open containers, the innermost one first, and the blocks inside the innermost one
abbrev pub Open : Type 0
Open = List Entry × Blocks

-- one more tag is read; what a start says of its container counts for nothing where the end says otherwise
unfoldable pub read_one : Tag → Open → Open
read_one (OneLeaf leaf) state = (state.0, state.1 ▹ leaf)
read_one (Start container) state = ((container, state.1) ∷ state.0, none)
read_one (End container) ([], last) = ([], last)
read_one (End container) (entry ∷ outer, last) = (outer, node entry.1 container last)

unfoldable pub read_on : List Tag → Open → Open
read_on [] state = state
read_on (tag ∷ more) state = read_on more (read_one tag state)

-- what was read of tags
abbrev pub read : List Tag → Open
read tags = read_on tags ([], none)

-- the tags of which this is read, where each end says what its start says
unfoldable pub open_tags : List Entry → Blocks → List Tag
open_tags [] last = tags_of last
open_tags (entry ∷ outer) last = open_tags outer entry.1 ++ Start entry.0 ∷ tags_of last
