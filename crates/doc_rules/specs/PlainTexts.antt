-- Plain texts: of images' texts (CommonMark 0.31.2, section 6.4), of headings and of blocks (this project's choice).
use Rattle.std.specs.Prelude.{ℕ, List, [], ◌∷◌, ◌++◌, map, flat_map}
use Rattle.doc_rules.specs.Characters.{Text}
use Rattle.doc_rules.specs.Rules.{Rules}
use Rattle.doc_rules.specs.Definitions.{Definition}
use Rattle.doc_rules.specs.Inlines.{Inline, Literal, Code, Reference, SoftBreak, HardBreak}
use Rattle.doc_rules.specs.CodeSpans.{spaced}
use Rattle.doc_rules.specs.Reading.{inlines_of}
use Rattle.doc_rules.specs.Tables.{TableSource}
use Rattle.doc_rules.specs.Forests.{none, ◌▹◌, node}
use Rattle.doc_rules.specs.Blocks.{Leaf, Paragraph, Heading, IndentedCode, FencedCode, TableBlock, Task, Blocks, Document}

-- texts and code as they are, a break as one space, raw HTML as nothing (this project's choice); an image's text stands inside it
unfoldable pub plain : Inline → Text
plain (Literal c) = c ∷ []
plain (Code text) = spaced text
plain (Reference source characters) = characters
plain SoftBreak = 32 ∷ []
plain HardBreak = 32 ∷ []
plain inline = []

-- the plain texts of inlines, joined
unfoldable pub plain_text : List Inline → Text
plain_text = flat_map plain

-- the plain text of a leaf's inlines
abbrev pub text_in : Rules → List Definition → Text → Text
text_in rules refs text = plain_text (inlines_of rules refs text)

-- ---- headings

-- the heading that a leaf is, if it is one
unfoldable pub leaf_headings : Rules → List Definition → Leaf → List (ℕ × Text)
leaf_headings rules refs (Heading level text) = (level, text_in rules refs text) ∷ []
leaf_headings rules refs leaf = []

-- the headings of blocks, in their order
unfoldable pub headings_in : Rules → List Definition → Blocks → List (ℕ × Text)
headings_in rules refs none = []
headings_in rules refs (before ▹ leaf) = headings_in rules refs before ++ leaf_headings rules refs leaf
headings_in rules refs (node before container inside) = headings_in rules refs before ++ headings_in rules refs inside

-- the level and the text of each heading, in the order of the document
abbrev pub headings_of : Rules → Document → List (ℕ × Text)
headings_of rules document = headings_in rules document.refs document.blocks

-- ---- block texts

-- the text of each cell that stands in its row, the header first
unfoldable pub table_texts : Rules → List Definition → TableSource → List Text
table_texts rules refs table = flat_map (map (text_in rules refs)) (table.header ∷ table.rows)

-- the texts that a leaf has
unfoldable pub leaf_texts : Rules → List Definition → Leaf → List Text
leaf_texts rules refs (Paragraph text) = text_in rules refs text ∷ []
leaf_texts rules refs (Heading level text) = text_in rules refs text ∷ []
leaf_texts rules refs (IndentedCode text) = text ∷ []
leaf_texts rules refs (FencedCode info text) = text ∷ []
leaf_texts rules refs (TableBlock table) = table_texts rules refs table
leaf_texts rules refs (Task done text) = text_in rules refs text ∷ []
leaf_texts rules refs leaf = []

-- the texts of blocks, in their order
unfoldable pub texts_in : Rules → List Definition → Blocks → List Text
texts_in rules refs none = []
texts_in rules refs (before ▹ leaf) = texts_in rules refs before ++ leaf_texts rules refs leaf
texts_in rules refs (node before container inside) = texts_in rules refs before ++ texts_in rules refs inside

-- the text of each paragraph, heading and cell and the content of each code block, in the order of the document
abbrev pub texts_of : Rules → Document → List Text
texts_of rules document = texts_in rules document.refs document.blocks
