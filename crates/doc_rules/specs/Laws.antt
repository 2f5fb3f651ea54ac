-- Laws of the definitions; the proofs are in proofs/.
use Rattle.std.specs.Prelude.{◌≡◌, ℕ, zero, suc, ◌+◌, ◌%◌, ◌^◌, ◌<◌, ◌≤◌, ⊤, Bool, false, ◌==◌, bytes_eq, List, [], ◌∷◌, ◌++◌, map}
use Rattle.std.specs.Prelude.{flat_map, drop, length, encode_utf8_all, Option, Some, None, codes}
use Rattle.std.specs.Bool.{MatchBool}
use Rattle.std.specs.List.{concat, AllByRecursion, IsDistinct, list_any}
use Rattle.doc_rules.specs.Characters.{Text}
use Rattle.doc_rules.specs.Lines.{lines_of, without_ending}
use Rattle.doc_rules.specs.Columns.{Column, columns_of}
use Rattle.doc_rules.specs.Rules.{Rules}
use Rattle.doc_rules.specs.Destinations.{Target}
use Rattle.doc_rules.specs.Definitions.{Definition, find_reference}
use Rattle.doc_rules.specs.Inlines.{Inline}
use Rattle.doc_rules.specs.Emphasis.{wrap_first, wrap_at_most, weight}
use Rattle.doc_rules.specs.Forests.{none, ◌▹◌, node}
use Rattle.doc_rules.specs.Trees.{QuoteLines, Tree, tree_within}
use Rattle.doc_rules.specs.Blocks.{BlockQuote, Blocks, Document, document_of, document_within}
use Rattle.doc_rules.specs.PlainTexts.{headings_in, headings_of}
use Rattle.doc_rules.specs.Anchors.{anchors_of}
use Rattle.doc_rules.specs.Escaping.{html_escape}
use Rattle.doc_rules.specs.Html.{Output, Writing, blocks_html, Linker, written_text, html_of}
use Rattle.doc_rules.specs.Pages.{PagePiece, HtmlPiece, LinkPiece, Page, pieces_of, document_anchors, document_page, filled, encoded}
use Rattle.doc_rules.specs.Pages.{encoded_shown, rendered_of}
use Rattle.doc_page.specs.Laws as pages
use Rattle.doc_page_parts.specs.Escaping.{escaped}
use Rattle.doc_page_parts.specs.Lines.{lines as page_lines, without_ending as page_without_ending}
use Rattle.doc_page_parts.specs.Pages.{filled as page_filled}
use Rattle.doc_page_parts.specs.declared.linker.Shown.{Shown as PageShown}

-- ---- lines (2.1)

-- the lines of a text join to it
abbrev pub LinesJoin : Type 0
LinesJoin = (text : Text) → concat (lines_of text) ≡ text

-- doc_page reads the same lines, and takes the same endings off
abbrev pub PageLinesAgree : Type 0
PageLinesAgree = (text : Text) →
    (page_lines text ≡ lines_of text) × (map page_without_ending (lines_of text) ≡ map without_ending (lines_of text))

-- ---- columns (2.2)

-- the characters of the columns of a line are the line
abbrev pub ColumnsSpell : Type 0
ColumnsSpell = (line : Text) → map (λ column. column.char) (columns_of line) ≡ line

-- the columns of characters one after another
abbrev pub total_width : List Column → ℕ
total_width [] = 0
total_width (column ∷ more) = column.width + total_width more

-- a character's first column is the sum of the widths before it
abbrev pub ColumnsAreContiguous : Type 0
ColumnsAreContiguous = (line : Text) (before : List Column) (column : Column) (after : List Column) →
    columns_of line ≡ before ++ column ∷ after → column.first ≡ total_width before

-- a tab ends at a multiple of 4 and has 1 to 4 columns, another character has one
abbrev pub IsWide : Column → Type 0
IsWide column = MatchBool (column.char == 9) (((column.first + column.width) % 4 ≡ 0) × (1 ≤ column.width)
    × (column.width ≤ 4)) (column.width ≡ 1)

-- this holds of each column of a line
abbrev pub TabsReachStops : Type 0
TabsReachStops = (line : Text) → AllByRecursion IsWide (columns_of line)

-- ---- references (4.7)

-- the first target, or where there is none the second
abbrev pub or_else : Option Target → Option Target → Option Target
or_else first second = elim first [ Some target ↦ Some target | None ↦ second ]

-- a later definition never replaces an earlier one
abbrev pub FirstWins : Type 0
FirstWins = (first more : List Definition) (name : Text) →
    find_reference (first ++ more) name ≡ or_else (find_reference first name) (find_reference more name)

-- ---- emphasis (6.2)

-- wrapping a pair leaves fewer delimiters
abbrev pub WrappingLeavesFewer : Type 0
WrappingLeavesFewer = (inlines next : List Inline) → wrap_first [] inlines ≡ Some next → weight next < weight inlines

-- in the end no run has an opener
abbrev pub WrappingEnds : Type 0
WrappingEnds = (inlines : List Inline) → wrap_first [] (wrap_at_most (weight inlines) inlines) ≡ None

-- ---- anchors

-- the anchors of a page's headings are pairwise distinct
abbrev pub AnchorsDiffer : Type 0
AnchorsDiffer = (headings : List Text) → length headings < 2 ^ 64 → IsDistinct bytes_eq (anchors_of headings)

-- there are as many anchors as headings
abbrev pub AnchorsAreAsMany : Type 0
AnchorsAreAsMany = (headings : List Text) → length (anchors_of headings) ≡ length headings

-- writing blocks takes one anchor for each of their headings
abbrev pub HeadingsTakeAnchors : Type 0
HeadingsTakeAnchors = (rules : Rules) (refs : List Definition) (tight : Bool) (blocks : Blocks) (w : Writing) →
    (blocks_html rules refs tight blocks w).anchors ≡ drop (length (headings_in rules refs blocks)) w.anchors

-- a page lists the headings of its document in order, each with its anchor
abbrev pub HeadingsHaveAnchors : Type 0
HeadingsHaveAnchors = (rules : Rules) (document : Document) →
    (map (λ heading. (heading.level, heading.text)) (document_page rules document).headings ≡ headings_of rules document)
    × (map (λ heading. heading.anchor) (document_page rules document).headings ≡ document_anchors rules document)

-- ---- escaping

-- escaping the characters of a text is escaping its bytes in UTF-8
abbrev pub EscapingIsByBytes : Type 0
EscapingIsByBytes = (text : Text) → encode_utf8_all (html_escape text) ≡ escaped (encode_utf8_all text)

-- ---- pieces

-- no HTML piece is empty, and no two stand side by side
abbrev pub IsCut : List PagePiece → Type 0
IsCut [] = ⊤
IsCut (LinkPiece target ∷ more) = IsCut more
IsCut (HtmlPiece [] ∷ more) = ⊥
IsCut (HtmlPiece (c ∷ text) ∷ []) = ⊤
IsCut (HtmlPiece (c ∷ text) ∷ LinkPiece target ∷ more) = IsCut more
IsCut (HtmlPiece (c ∷ text) ∷ HtmlPiece other ∷ more) = ⊥

-- this holds of the pieces of whatever is written
abbrev pub PiecesAreCut : Type 0
PiecesAreCut = (output : Output) → IsCut (pieces_of output)

-- this holds of the page of each text
abbrev pub RenderedIsCut : Type 0
RenderedIsCut = (rules : Rules) (text : Text) → pages.IsCut (rendered_of rules text).pieces

-- the pieces joined are what was written
abbrev pub PiecesJoin : Type 0
PiecesJoin = (linker : Linker) (output : Output) → filled linker (pieces_of output) ≡ flat_map (written_text linker) output

-- ---- filling

-- a linker of texts in UTF-8 shows the link to each destination as this one does
abbrev pub ShowsAlike : (List ℕ → PageShown) → Linker → Type 0
ShowsAlike shown linker = (dest : Text) → shown (encode_utf8_all dest) ≡ encoded_shown (linker dest)

-- filling a page in UTF-8 with its links is filling it as characters
abbrev pub FillingIsByBytes : Type 0
FillingIsByBytes = (linker : Linker) (shown : List ℕ → PageShown) → ShowsAlike shown linker → (page : Page) →
    page_filled shown (encoded page) ≡ encode_utf8_all (filled linker page.pieces)

-- the page of a text, filled with its links, is the text as HTML in UTF-8
abbrev pub FilledPagesAreHtml : Type 0
FilledPagesAreHtml = (rules : Rules) (text : Text) (linker : Linker) (shown : List ℕ → PageShown) → ShowsAlike shown linker →
    page_filled shown (rendered_of rules text)
    ≡ encode_utf8_all (html_of rules linker (document_anchors rules (document_of rules text)) (document_of rules text))

-- ---- quoted texts (5.1)

-- '> ' before each of these lines
abbrev pub quoted_lines : List Text → Text
quoted_lines lines = flat_map (λ line. codes "> " ++ line) lines

-- a text with '> ' before each line
abbrev pub quoted : Text → Text
quoted text = quoted_lines (lines_of text)

-- a tab stands in the text
abbrev pub has_tab : Text → Bool
has_tab = list_any (λ c. c == 9)

-- the tree of a quoted text is one quote over the tree of the text with room for one container fewer
abbrev pub QuotedTree : Type 0
QuotedTree = (room : ℕ) (rules : Rules) (c : ℕ) (rest : Text) → has_tab (c ∷ rest) ≡ false →
    tree_within (suc room) rules (quoted (c ∷ rest)) ≡ node none QuoteLines (tree_within room rules (c ∷ rest))

-- the document with one quote over all its blocks
abbrev pub quote_over : Document → Document
quote_over document = record document { blocks = node none BlockQuote document.blocks }

-- the same of documents
abbrev pub QuotedDocument : Type 0
QuotedDocument = (room : ℕ) (rules : Rules) (c : ℕ) (rest : Text) → has_tab (c ∷ rest) ≡ false →
    document_within (suc room) rules (quoted (c ∷ rest)) ≡ quote_over (document_within room rules (c ∷ rest))

-- containers stand at most n deep
abbrev pub IsWithin : ℕ → Tree → Type 0
IsWithin n none = ⊤
IsWithin n (before ▹ leaf) = IsWithin n before
IsWithin zero (node before container inside) = ⊥
IsWithin (suc n) (node before container inside) = IsWithin (suc n) before × IsWithin n inside

-- room that isn't used doesn't matter
abbrev pub RoomIsEnough : Type 0
RoomIsEnough = (room : ℕ) (rules : Rules) (text : Text) → IsWithin room (tree_within (suc room) rules text)
    → tree_within room rules text ≡ tree_within (suc room) rules text

-- a quoted text is one quote over the text, where that opens at most 99 quotes and items at once
abbrev pub QuotedWithin : Type 0
QuotedWithin = (rules : Rules) (c : ℕ) (rest : Text) → has_tab (c ∷ rest) ≡ false → IsWithin 99 (tree_within 100 rules (c ∷ rest)) →
    document_of rules (quoted (c ∷ rest)) ≡ quote_over (document_of rules (c ∷ rest))
