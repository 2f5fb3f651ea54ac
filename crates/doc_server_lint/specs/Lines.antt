-- How a finding is printed, a line each. No token is printed, since no finding holds one.
use Rattle.std.specs.Prelude.{ℕ, List, [], ◌++◌, Bool, true, false, codes, decimal, Option, Some, None}
use Rattle.doc_server_config.specs.BadFiles.{shown_name}
use Rattle.doc_server_lint_faults.specs.declared.finding.Finding.{Finding}
use Rattle.doc_server_lint_faults.specs.declared.place.Place.{Place}
use Rattle.doc_server_lint_faults.specs.declared.place.Place.TheVariants.{Document, Markdown, Listen, Browse, Reader, Page, Folder}
use Rattle.doc_server_lint_faults.specs.declared.what.Kind.{Kind}
use Rattle.doc_server_lint_faults.specs.declared.what.Kind.TheVariants as kind
use Rattle.doc_server_lint_faults.specs.declared.what.What.{What}
use Rattle.doc_server_lint_faults.specs.declared.what.What.TheVariants.{MustBe, Bad, Missing, Unknown, NoToken, TwoTokens, TokenOf, ShortToken, ClearToken, NoName}
use Rattle.doc_server_lint_faults.specs.declared.what.What.TheVariants.{NoReaders}
use Rattle.doc_server_lint_faults.specs.declared.what.What.TheVariants.{NoOwner}
use Rattle.doc_server_lint_faults.specs.declared.what.What.TheVariants.{NoGroup, ManyGroups, Unheld, NoPath, NoSource, TwoSources, LongText}
use Rattle.doc_server_lint_faults.specs.declared.what.What.TheVariants.{Covers}
use Rattle.doc_server_lint_faults.specs.declared.what.What.TheVariants.{ManyPages, NotUtf8, CannotRead, PathOfPage, PathOfFolder, BadRow}
use Rattle.doc_server_lint_faults.specs.declared.what.What.TheVariants.{NameAgain}
use Rattle.doc_server_lint_faults.specs.declared.what.What.TheVariants.{NoPage, Edited, Journal}

-- a text of the configuration between two others: control characters don't stand as they are
abbrev pub named : List ℕ → List ℕ → List ℕ → List ℕ
named before name behind = before ++ shown_name name ++ behind

abbrev pub numbered : List ℕ → ℕ → List ℕ → List ℕ
numbered before number behind = before ++ decimal number ++ behind

-- ---- what is told

abbrev pub kind_text : Kind → List ℕ
kind_text kind.Boolean = codes "a boolean"
kind_text kind.Text = codes "a string"
kind_text kind.Texts = codes "an array of strings"
kind_text (kind.Integer most) = numbered (codes "an integer from 1 to ") most []
kind_text kind.Table = codes "a table"
kind_text kind.Tables = codes "an array of tables"

abbrev pub meant_text : Option (List ℕ) → List ℕ
meant_text None = []
meant_text (Some other) = named (codes ": is `") other (codes "` meant?")

-- of a key, or of a table or the document, whose key is the empty text
abbrev pub what_text : List ℕ → What → List ℕ
what_text key (MustBe kind) = named (codes "`") key (codes "` must be ") ++ kind_text kind
what_text key Bad = named (codes "`") key (codes "` is bad")
what_text key Missing = named (codes "no `") key (codes "`")
what_text key (Unknown other) = named (codes "unknown key `") key (codes "`") ++ meant_text other
what_text key NoToken = named (codes "`") key (codes "` is no bearer token")
what_text key TwoTokens = codes "both `token` and `token_sha256`"
what_text key (TokenOf reader) = numbered (codes "the token of reader ") reader []
what_text key ShortToken = codes "a token of fewer than 22 characters can be guessed"
what_text key ClearToken = codes "a token in clear text; `docs_server token` makes one that isn't"
what_text key NoName = named (codes "`") key (codes "` must be 1 to 32 of a-z, 0-9, `-`, `_`, `.` and `@`")
what_text key NoReaders = codes "no readers"
what_text key NoOwner = codes "no owner"
what_text key (NoGroup name) = named (codes "`") key (codes "`: \"") ++ named [] name (codes "\" is no name of a group")
what_text key ManyGroups = named (codes "`") key (codes "`: more than 32")
what_text key (Unheld name) = named (codes "a group that no reader has: ") name []
what_text key NoPath = named (codes "`") key (codes "` is no path of a page")
what_text key NoSource = codes "neither `text` nor `file`"
what_text key TwoSources = codes "both `text` and `file`"
what_text key LongText = named (codes "`") key (codes "` has more than 1048576 bytes")
what_text key (Covers page) = numbered (codes "the path of page ") page (codes ", which this one covers")
what_text key ManyPages = codes "more than 10000 pages"
what_text key NotUtf8 = codes "not UTF-8"
what_text key (CannotRead file reason) = named (codes "cannot read ") file (codes ": ") ++ named [] reason []
what_text key (PathOfPage path page) = named [] path (codes ": the path of page ") ++ numbered [] page []
what_text key (PathOfFolder path folder) = named [] path (codes ": a page of folder ") ++ numbered [] folder []
what_text key (BadRow line) = numbered (codes "line ") line (codes ": bad row")
what_text key (NameAgain line) = numbered (codes "line ") line (codes ": a name that has other characters")
what_text key NoPage = codes "no page"
what_text key (Edited path) = named [] path (codes ": an edit of the journal stands in its place")
what_text key (Journal told) = named [] told []

-- ---- where

abbrev pub name_text : Option (List ℕ) → List ℕ
name_text None = []
name_text (Some name) = named (codes " (") name (codes ")")

-- a place, where the row has this name
abbrev pub place_text : Option (List ℕ) → Place → List ℕ
place_text name Document = []
place_text name Markdown = codes "[markdown]: "
place_text name Listen = codes "[listen]: "
place_text name Browse = codes "[browse]: "
place_text name (Reader row) = numbered (codes "reader ") row [] ++ name_text name ++ codes ": "
place_text name (Page row) = numbered (codes "page ") row [] ++ name_text name ++ codes ": "
place_text name (Folder row) = numbered (codes "folder ") row [] ++ name_text name ++ codes ": "

abbrev pub line_text : Option ℕ → List ℕ
line_text None = []
line_text (Some line) = numbered (codes ":") line []

-- ---- a line

abbrev pub warning_text : Bool → List ℕ
warning_text true = []
warning_text false = codes "warning: "

abbrev pub key_text : Option (List ℕ) → List ℕ
key_text None = []
key_text (Some key) = key

-- the line of a finding in a file, where the line and the name of its row can be told
abbrev pub finding_line : List ℕ → Option ℕ → Option (List ℕ) → Finding → List ℕ
finding_line file line name finding =
    file ++ line_text line ++ codes ": " ++ place_text name finding.place ++ warning_text finding.is_fault
    ++ what_text (key_text finding.key) finding.what
    ++ codes "\n"
