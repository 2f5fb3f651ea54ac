-- Who asked, as the log names them.
use Rattle.std.specs.Prelude.{List, ℕ, ◌++◌, codes, decimal, IsTrue}
use Rattle.doc_server_log.specs.declared.reader.Reader.{Reader}
use Rattle.doc_server_log.specs.declared.reader.Reader.TheVariants.{Named, Row, Nobody}
use Rattle.doc_server_names.specs.Names.{is_name}

-- the name, or `reader-` and the number of the row, or `-` for nobody
abbrev pub shown_reader : Reader → List ℕ
shown_reader (Named name) = name.now
shown_reader (Row row) = codes "reader-" ++ decimal row
shown_reader Nobody = codes "-"

-- a name is one that the configuration may give
abbrev pub IsNamed : Reader → Type 0
IsNamed (Named name) = IsTrue (is_name name.now)
IsNamed (Row row) = Unit {0}
IsNamed Nobody = Unit {0}
