-- What `--version` prints.
use Rattle.std.specs.Prelude.{ℕ, List, ◌++◌, codes}
use Rattle.doc_server_arguments.specs.declared.version.TheConstants.{VERSION}

-- the program's name and version, and the forms of journals that it reads
abbrev pub version_lines : List ℕ
version_lines = codes "docs_server " ++ (VERSION.now ++ codes "\njournal 2\njournal 1 (compact alone)")
