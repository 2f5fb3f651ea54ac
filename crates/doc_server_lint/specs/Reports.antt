-- All findings, as they are printed.
use Rattle.std.specs.Prelude.{◌≡◌, ℕ, ◌-◌, List, [], ◌∷◌, ◌++◌, codes, Option, Some, None, IfSome, IsNone}
use Rattle.toml.specs.Data.{Data, Members, at, get, get_member}
use Rattle.doc_server_config.specs.PageRows.{path_at}
use Rattle.doc_server_config.specs.ReaderNames.{name_at as name_of}
use Rattle.doc_server_lint_faults.specs.declared.finding.Finding.{Finding}
use Rattle.doc_server_lint_faults.specs.declared.place.Place.{Place}
use Rattle.doc_server_lint_faults.specs.declared.place.Place.TheVariants.{Document, Markdown, Listen, Browse, Reader, Page, Folder}
use Rattle.doc_server_lint.specs.Lines.{finding_line}
use Rattle.doc_server_lint_faults.specs.RowPlaces.{IsLineOf}

-- the line that is told of a place is that of its row, where one is told
abbrev pub IsLine : List ℕ → Place → Option ℕ → Type 0
IsLine text Document line = IsNone line
IsLine text Markdown line = IsNone line
IsLine text Listen line = IsNone line
IsLine text Browse line = IsNone line
IsLine text (Reader row) line = IfSome line (IsLineOf (codes "reader") text row)
IsLine text (Page row) line = IfSome line (IsLineOf (codes "page") text row)
IsLine text (Folder row) line = IfSome line (IsLineOf (codes "folder") text row)

-- the row of this number of what a document holds under a key
abbrev pub row_at : ℕ → Option Data → Option Data
row_at row None = None
row_at row (Some rows) = at (row - 1) rows

-- the name of a reader, where it is one
abbrev pub name_in : Option Data → Option (List ℕ)
name_in None = None
name_in (Some reader) = name_of (get (codes "name") reader)

-- the path of a page, where it is one
abbrev pub path_in : Option Data → Option (List ℕ)
path_in None = None
path_in (Some page) = path_at (get (codes "path") page)

-- the name of the row of a place: that of a reader and the path of a page, where it is good
abbrev pub name_at : Members → Place → Option (List ℕ)
name_at document (Reader row) = name_in (row_at row (get_member (codes "reader") document))
name_at document (Page row) = path_in (row_at row (get_member (codes "page") document))
name_at document other = None

-- these bytes are the lines of some findings
abbrev pub IsReport : List ℕ → List ℕ → Members → List Finding → List ℕ → Type 0
IsReport file text document [] bytes = bytes ≡ []
IsReport file text document (finding ∷ rest) bytes =
    (line : Option ℕ) × (more : List ℕ) × IsLine text finding.place line
    × (bytes ≡ finding_line file line (name_at document finding.place) finding ++ more)
    × IsReport file text document rest more
