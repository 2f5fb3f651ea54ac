-- Tables as they are written, step by step.
use Rattle.std.specs.Prelude.{List, [], ◌∷◌, map, take, length, codes}
use Rattle.doc_rules.specs.Characters.{Text}
use Rattle.doc_rules.specs.Rules.{Rules}
use Rattle.doc_rules.specs.Definitions.{Definition}
use Rattle.doc_rules.specs.Reading.{inlines_of}
use Rattle.doc_rules.specs.declared.alignment.Alignment.{Alignment}
use Rattle.doc_rules.specs.Tables.{TableSource, cells_of_line}
use Rattle.doc_rules.specs.Html.{characters, inlines_html, cell_html}
use Rattle.doc_rules.specs.PlainTexts.{text_in}
use Rattle.doc_html.specs.ProgressSteps.{Progress, told, on_new_line, text_met, Goes}

-- a cell of this text in a column
unfoldable pub cell_told : Rules → List Definition → Text → Alignment → Text → Progress → Progress
cell_told rules refs name column text p =
    told (cell_html name column (inlines_html 0 (inlines_of rules refs text))) (text_met (text_in rules refs text) p)

-- a cell in each column: one that the row doesn't have is empty, and of one that has no column the text alone is met
unfoldable pub cells_told : Rules → List Definition → Text → List Alignment → List Text → Progress → Progress
cells_told rules refs name [] [] p = p
cells_told rules refs name [] (text ∷ more) p = cells_told rules refs name [] more (text_met (text_in rules refs text) p)
cells_told rules refs name (column ∷ columns) [] p = cells_told rules refs name columns [] (told (cell_html name column []) p)
cells_told rules refs name (column ∷ columns) (text ∷ more) p =
    cells_told rules refs name columns more (cell_told rules refs name column text p)

unfoldable pub row_told : Rules → List Definition → Text → List Alignment → List Text → Progress → Progress
row_told rules refs name columns cells p =
    told (characters (codes "</tr>\n")) (cells_told rules refs name columns cells (told (characters (codes "<tr>\n")) p))

-- the rows behind the header
unfoldable pub rows_told : Rules → List Definition → List Alignment → List (List Text) → Progress → Progress
rows_told rules refs columns [] p = p
rows_told rules refs columns (row ∷ more) p = rows_told rules refs columns more (row_told rules refs (codes "td") columns row p)

unfoldable pub body_told : Rules → List Definition → List Alignment → List (List Text) → Progress → Progress
body_told rules refs columns [] p = p
body_told rules refs columns (row ∷ more) p =
    told (characters (codes "</tbody>\n")) (rows_told rules refs columns (row ∷ more) (told (characters (codes "<tbody>\n")) p))

unfoldable pub table_told : Rules → List Definition → TableSource → Progress → Progress
table_told rules refs table p =
    told (characters (codes "</table>\n")) (body_told rules refs table.columns table.rows (told (characters (codes "</thead>\n"))
    (row_told rules refs (codes "th") table.columns table.header (told (characters (codes "<table>\n<thead>\n")) (on_new_line p)))))

-- ---- cells that are cut

-- a cell in each column: one that the row doesn't have is empty, and those that have no column aren't read
unfoldable pub cut_told : Rules → List Definition → Text → List Alignment → List Text → Progress → Progress
cut_told rules refs name [] cells p = p
cut_told rules refs name (column ∷ columns) [] p = cut_told rules refs name columns [] (told (cell_html name column []) p)
cut_told rules refs name (column ∷ columns) (text ∷ more) p =
    cut_told rules refs name columns more (cell_told rules refs name column text p)

-- the cells of a line that have a column
abbrev pub cut_cells : List Alignment → Text → List Text
cut_cells columns line = take (length columns) (cells_of_line line)

abbrev pub cut_rows : List Alignment → List Text → List (List Text)
cut_rows columns lines = map (cut_cells columns) lines

-- ---- a writer that goes along a table

-- what still comes makes all of it, whatever writer it leads to
abbrev pub Leads : {W : Type 0} → (W → Progress → Type 0) → W → W → (Progress → Progress) → (Progress → Progress) → Type 0
Leads {W} holds old new rest all = (end : W) → Goes holds new end rest → Goes holds old end all

-- one cell of a row is written, in this column, of which these cells are left
abbrev pub IsCellStep : {W : Type 0} → (W → Progress → Type 0) → W → W → Rules → List Definition → Text → Alignment → List Text → List Text
    → Type 0
IsCellStep holds old new rules refs name column cells rest =
    (columns : List Alignment)
    → Leads holds old new (cut_told rules refs name columns rest) (cut_told rules refs name (column ∷ columns) cells)
