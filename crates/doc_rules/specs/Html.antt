-- Inlines and blocks as HTML (CommonMark 0.31.2; the layout is that of its examples).
use Rattle.std.specs.Prelude.{ℕ, zero, suc, Bool, true, false, ◌==◌, List, [], ◌∷◌, ◌++◌, map, flat_map, decimal, drop, Option, Some, None}
use Rattle.std.specs.Prelude.{if◌then◌else◌, codes}
use Rattle.doc_rules.specs.Characters.{Text, is_space_or_tab, strip_front}
use Rattle.doc_rules.specs.Rules.{Rules}
use Rattle.doc_rules.specs.Destinations.{Target}
use Rattle.doc_rules.specs.Definitions.{Definition}
use Rattle.doc_rules.specs.Inlines.{Span, Emphasis, Strong, Strike, Link, Image, Inline, Literal, Code, Raw, Reference, SoftBreak}
use Rattle.doc_rules.specs.Inlines.{HardBreak, Start}
use Rattle.doc_rules.specs.Inlines.{End}
use Rattle.doc_rules.specs.CodeSpans.{spaced}
use Rattle.doc_rules.specs.Reading.{inlines_of}
use Rattle.doc_rules.specs.declared.alignment.Alignment.{Alignment}
use Rattle.doc_rules.specs.declared.alignment.Alignment.TheVariants.{Default, Left, Center, Right}
use Rattle.doc_rules.specs.Tables.{TableSource}
use Rattle.doc_rules.specs.Forests.{none, ◌▹◌, node}
use Rattle.doc_rules.specs.Blocks.{Leaf, Paragraph, Heading, IndentedCode, FencedCode, HtmlBlock, ThematicBreak, TableBlock, Task}
use Rattle.doc_rules.specs.Blocks.{Container, BlockQuote}
use Rattle.doc_rules.specs.Blocks.{ListBlock, ListItem, Blocks, Document, document_of}
use Rattle.doc_rules.specs.Escaping.{html_escape, url_escape}
use Rattle.doc_rules.specs.PlainTexts.{plain}
use Rattle.doc_page_parts.specs.Pages.{title_attribute, opening_tag}
use Rattle.doc_page_parts.specs.declared.linker.Shown.TheVariants as page

-- what is written: characters, and opening tags of links, which a linker shows later; and where an image begins a note of its destination,
-- which is shown as nothing
pub data Written : Type 0 where
  Character : ℕ → Written
  LinkTag : Target → Written
  ImageNote : Text → Written

-- what is written, in its order
abbrev pub Output : Type 0
Output = List Written

-- a text as it is written
unfoldable pub characters : Text → Output
characters = map Character

-- ---- inlines

-- what stands before a span; of an image its text comes next, as plain text
unfoldable pub span_start : Span → Output
span_start Emphasis = characters (codes "<em>")
span_start Strong = characters (codes "<strong>")
span_start Strike = characters (codes "<del>")
span_start (Link target) = LinkTag target ∷ []
span_start (Image target) = ImageNote target.dest ∷ characters (codes "<img src=\"" ++ url_escape target.dest ++ codes "\" alt=\"")

-- what stands behind a span; the attribute of a title is doc_page's, over characters
unfoldable pub span_end : Span → Text
span_end Emphasis = codes "</em>"
span_end Strong = codes "</strong>"
span_end Strike = codes "</del>"
span_end (Link target) = codes "</a>"
span_end (Image target) = codes "\"" ++ title_attribute target.title ++ codes " />"

-- an inline that stands in no image
unfoldable pub inline_html : Inline → Output
inline_html (Literal c) = characters (html_escape (c ∷ []))
inline_html (Code text) = characters (codes "<code>" ++ html_escape (spaced text) ++ codes "</code>")
inline_html (Raw text) = characters text
inline_html (Reference source text) = characters (html_escape text)
inline_html SoftBreak = characters (codes "\n")
inline_html HardBreak = characters (codes "<br />\n")
inline_html (Start span) = span_start span
inline_html (End span) = characters (span_end span)
inline_html inline = []

-- how many images stand around what follows an inline, where n stand around it
unfoldable pub images_after : ℕ → Inline → ℕ
images_after n (Start (Image target)) = suc n
images_after (suc n) (End (Image target)) = n
images_after n inline = n

-- an inline with so many images around what stands before and behind it: inside an image its plain text alone is written (6.4)
unfoldable pub html_among : ℕ → ℕ → Inline → Output
html_among zero after inline = inline_html inline
html_among (suc n) zero inline = inline_html inline
html_among (suc n) (suc after) inline = characters (html_escape (plain inline))

-- inlines with so many images around them
unfoldable pub inlines_html : ℕ → List Inline → Output
inlines_html n [] = []
inlines_html n (inline ∷ more) = html_among n (images_after n inline) inline ++ inlines_html (images_after n inline) more

-- ---- writing

-- what was written, and the anchors of the headings that come
pub record Writing : Type 0 where
  pub output : Output
  pub anchors : List Text

-- more behind what was written
unfoldable pub write : Output → Writing → Writing
write more w = record w { output = w.output ++ more }

-- a text behind what was written
abbrev pub write_text : Text → Writing → Writing
write_text text = write (characters text)

-- nothing was written, or a LF was written last
unfoldable pub is_fresh : Output → Bool
is_fresh [] = true
is_fresh (Character c ∷ []) = c == 10
is_fresh (LinkTag target ∷ []) = false
is_fresh (ImageNote dest ∷ []) = false
is_fresh (x ∷ y ∷ more) = is_fresh (y ∷ more)

-- a LF, unless nothing was written yet or a LF was written last
unfoldable pub new_line : Writing → Writing
new_line w = elim (is_fresh w.output) [ true ↦ w | false ↦ write_text (codes "\n") w ]

-- ---- leaves

-- a paragraph directly in an item of a tight list is its inlines alone (5.3)
unfoldable pub paragraph_html : Bool → Output → Writing → Writing
paragraph_html true inside w = write inside w
paragraph_html false inside w = write (characters (codes "<p>") ++ inside ++ characters (codes "</p>\n")) (new_line w)

-- the attribute with the next anchor, where anchors are given (this project's choice)
unfoldable pub id_attribute : List Text → Text
id_attribute [] = []
id_attribute (anchor ∷ more) = codes " id=\"" ++ html_escape anchor ++ codes "\""

-- a heading over these inlines, with the next anchor
unfoldable pub heading_html : ℕ → Output → Writing → Writing
heading_html level inside w =
    write (characters (codes "<h" ++ decimal level ++ id_attribute w.anchors ++ codes ">") ++ inside
    ++ characters (codes "</h" ++ decimal level ++ codes ">\n"))
    (record w { anchors = drop 1 w.anchors })

-- what stands before the first space or tab
unfoldable pub first_word : Text → Text
first_word [] = []
first_word (c ∷ rest) = elim (is_space_or_tab c) [ true ↦ [] | false ↦ c ∷ first_word rest ]

-- the attribute for this word, if there is one (4.5)
unfoldable pub language_class : Text → Text
language_class [] = []
language_class (c ∷ rest) = codes " class=\"language-" ++ html_escape (c ∷ rest) ++ codes "\""

-- the attribute for the first word of an info string, whose escapes and references are read (4.5)
abbrev pub class_attribute : Text → Text
class_attribute info = language_class (first_word (strip_front is_space_or_tab info))

-- a code block with this attribute (4.4, 4.5)
unfoldable pub code_html : Text → Text → Writing → Writing
code_html class text = write_text (codes "<pre><code" ++ class ++ codes ">" ++ html_escape text ++ codes "</code></pre>\n")

-- ---- tables (GFM 4.10)

-- the attribute of a cell in a column that says where its texts stand
unfoldable pub align_attribute : Alignment → Text
align_attribute Default = []
align_attribute Left = codes " align=\"left\""
align_attribute Center = codes " align=\"center\""
align_attribute Right = codes " align=\"right\""

-- a cell over these inlines: 'th' in the header, 'td' in a row
unfoldable pub cell_html : Text → Alignment → Output → Output
cell_html name column inside =
    characters (codes "<" ++ name ++ align_attribute column ++ codes ">") ++ (inside ++ characters (codes "</" ++ name ++ codes ">\n"))

-- a cell for each of these columns: those that the row doesn't have are empty
unfoldable pub cells_html : Rules → List Definition → Text → List Alignment → List Text → Output
cells_html rules refs name [] cells = []
cells_html rules refs name (column ∷ columns) [] = cell_html name column [] ++ cells_html rules refs name columns []
cells_html rules refs name (column ∷ columns) (text ∷ more) =
    cell_html name column (inlines_html 0 (inlines_of rules refs text)) ++ cells_html rules refs name columns more

-- a row of these cells
unfoldable pub row_html : Rules → List Definition → Text → List Alignment → List Text → Output
row_html rules refs name columns cells =
    characters (codes "<tr>\n") ++ (cells_html rules refs name columns cells ++ characters (codes "</tr>\n"))

-- the rows behind the header
unfoldable pub rows_html : Rules → List Definition → List Alignment → List (List Text) → Output
rows_html rules refs columns rows = flat_map (row_html rules refs (codes "td") columns) rows

-- all rows behind the header in their tag, which isn't there where they aren't
unfoldable pub body_html : Rules → List Definition → List Alignment → List (List Text) → Output
body_html rules refs columns [] = []
body_html rules refs columns (row ∷ more) =
    characters (codes "<tbody>\n") ++ (rows_html rules refs columns (row ∷ more) ++ characters (codes "</tbody>\n"))

-- a table
unfoldable pub table_html : Rules → List Definition → TableSource → Output
table_html rules refs table =
    characters (codes "<table>\n<thead>\n")
    ++ (row_html rules refs (codes "th") table.columns table.header
    ++ (characters (codes "</thead>\n") ++ (body_html rules refs table.columns table.rows ++ characters (codes "</table>\n"))))

-- ---- tasks (GFM 5.3)

-- the box before the text of a task
unfoldable pub task_box : Bool → Text
task_box true = codes "<input type=\"checkbox\" checked=\"\" disabled=\"\" /> "
task_box false = codes "<input type=\"checkbox\" disabled=\"\" /> "

-- ---- all leaves

-- a leaf behind what was written; directly in an item of a tight list or not
unfoldable pub leaf_html : Rules → List Definition → Bool → Leaf → Writing → Writing
leaf_html rules refs tight (Paragraph text) w = paragraph_html tight (inlines_html 0 (inlines_of rules refs text)) w
leaf_html rules refs tight (Heading level text) w = heading_html level (inlines_html 0 (inlines_of rules refs text)) (new_line w)
leaf_html rules refs tight (IndentedCode text) w = code_html [] text (new_line w)
leaf_html rules refs tight (FencedCode info text) w = code_html (class_attribute info) text (new_line w)
leaf_html rules refs tight (HtmlBlock text) w = new_line (write_text text (new_line w))
leaf_html rules refs tight ThematicBreak w = write_text (codes "<hr />\n") (new_line w)
leaf_html rules refs tight (TableBlock table) w = write (table_html rules refs table) (new_line w)
leaf_html rules refs tight (Task done text) w =
    paragraph_html tight (characters (task_box done) ++ inlines_html 0 (inlines_of rules refs text)) w

-- ---- containers

-- what is inside stands directly in an item of a tight list
unfoldable pub is_tight_inside : Bool → Container → Bool
is_tight_inside tight BlockQuote = false
is_tight_inside tight (ListBlock start is_tight) = is_tight
is_tight_inside tight ListItem = tight

-- the opening tag of a list: its start is written where it isn't 1 (5.3)
unfoldable pub list_tag : Option ℕ → Text
list_tag None = codes "<ul>\n"
list_tag (Some start) = if start == 1 then codes "<ol>\n" else codes "<ol start=\"" ++ decimal start ++ codes "\">\n"

-- the closing tag of a list
unfoldable pub list_end : Option ℕ → Text
list_end None = codes "</ul>\n"
list_end (Some start) = codes "</ol>\n"

-- what stands before the blocks of a container
unfoldable pub container_start : Container → Writing → Writing
container_start BlockQuote w = write_text (codes "<blockquote>\n") (new_line w)
container_start (ListBlock start tight) w = write_text (list_tag start) (new_line w)
container_start ListItem w = write_text (codes "<li>") w

-- what stands behind the blocks of a container
unfoldable pub container_end : Container → Writing → Writing
container_end BlockQuote w = write_text (codes "</blockquote>\n") (new_line w)
container_end (ListBlock start tight) w = write_text (list_end start) (new_line w)
container_end ListItem w = write_text (codes "</li>\n") w

-- blocks behind what was written
unfoldable pub blocks_html : Rules → List Definition → Bool → Blocks → Writing → Writing
blocks_html rules refs tight none w = w
blocks_html rules refs tight (before ▹ leaf) w = leaf_html rules refs tight leaf (blocks_html rules refs tight before w)
blocks_html rules refs tight (node before container inside) w =
    container_end container (blocks_html rules refs (is_tight_inside tight container) inside
    (container_start container (blocks_html rules refs tight before w)))

-- ---- documents

-- what is written for a document; where no anchors are given, headings carry none
unfoldable pub output_of : Rules → List Text → Document → Output
output_of rules anchors document = (blocks_html rules document.refs false document.blocks
    (record { output = []; anchors = anchors })).output

-- how a link is shown: with the text of its href as it is written, or as a link to nothing that its reader sees
pub data Shown : Type 0 where
  Href : Text → Shown
  Missing : Shown

-- how the link with this destination is shown
abbrev pub Linker : Type 0
Linker = Text → Shown

-- the opening tag of a link with this title: doc_page's, over characters in the place of bytes
unfoldable pub link_tag : Shown → Option Text → Text
link_tag (Href href) title = opening_tag title (page.Href href)
link_tag Missing title = opening_tag title page.Missing

-- a character as it is, the tag of a link as the linker shows it, a note not at all
unfoldable pub written_text : Linker → Written → Text
written_text linker (Character c) = c ∷ []
written_text linker (LinkTag target) = link_tag (linker target.dest) target.title
written_text linker (ImageNote dest) = []

-- a document as HTML
unfoldable pub html_of : Rules → Linker → List Text → Document → Text
html_of rules linker anchors document = flat_map (written_text linker) (output_of rules anchors document)

-- the linker of the specification's examples: each destination as it stands, escaped
unfoldable pub plain_linker : Linker
plain_linker dest = Href (url_escape dest)

-- a text as HTML, in the form of the specification's examples
unfoldable pub rendered_plain : Rules → Text → Text
rendered_plain rules text = html_of rules plain_linker [] (document_of rules text)
