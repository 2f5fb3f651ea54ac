-- What a line begins, seen as the rules see it (CommonMark 0.31.2, sections 4.1 to 4.6).
use Rattle.std.specs.Prelude.{true, [], ◌∷◌, Option, Some, None, option_map, chars}
use Rattle.doc_rules.specs.Columns.{Line, text_of}
use Rattle.doc_rules.specs.Trees as rules
use Rattle.doc_blocks_starts.specs.Fences.{fence_shown}
use Rattle.doc_blocks_starts.specs.HtmlKinds.{kind_of}
use Rattle.doc_blocks_leaves.specs.declared.start.Situation.{Situation}
use Rattle.doc_blocks_leaves.specs.declared.start.Situation.TheVariants.{NoParagraph, InParagraph, LazyParagraph, InTable}
use Rattle.doc_blocks_leaves.specs.declared.start.NewLeaf.{NewLeaf}
use Rattle.doc_blocks_leaves.specs.declared.start.NewLeaf.TheVariants as leaves
use Rattle.doc_blocks_leaves.specs.declared.start.LeafStart.{LeafStart}
use Rattle.doc_blocks_leaves.specs.declared.start.LeafStart.TheVariants as starts

abbrev pub situation_of : Situation → rules.Situation
situation_of NoParagraph = rules.NoParagraph
situation_of (InParagraph text) = rules.InParagraph (chars text.now)
situation_of LazyParagraph = rules.LazyParagraph
situation_of InTable = rules.InTable

-- a leaf that this line begins
unfoldable pub leaf_lines : Line → NewLeaf → rules.LeafLines
leaf_lines line (leaves.Heading heading) = rules.AtxLine heading.level (chars heading.text.now)
leaf_lines line (leaves.Fenced start) = rules.FencedLines true (fence_shown start.fence) (chars start.info.now) []
leaf_lines line (leaves.Html kind goes_on) = rules.HtmlLines goes_on (kind_of kind) (text_of line ∷ [])
leaf_lines line leaves.Break = rules.BreakLine

-- what this line begins
unfoldable pub start_shown : Line → LeafStart → rules.LeafStart
start_shown line (starts.New leaf) = rules.NewLeaf (leaf_lines line leaf)
start_shown line (starts.Underline level) = rules.Underline level

-- what it begins, if anything
abbrev pub start_of : Line → Option LeafStart → Option rules.LeafStart
start_of line start = option_map (start_shown line) start

-- the first of two that there is
abbrev pub or_else : {A : Type 0} → Option A → Option A → Option A
or_else first second = elim first [ Some start ↦ Some start | None ↦ second ]
