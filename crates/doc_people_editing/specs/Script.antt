-- The script of the pages for editing, and the element that it stands in. All of this is this project's choice.
use Rattle.std.specs.Prelude.{ℕ, List, ◌++◌, codes}
use Rattle.doc_people_editing.specs.declared.script.TheConstants.{SCRIPT}

-- the script, byte by byte as its digest is of it
unfoldable pub script : List ℕ
script = SCRIPT.now

-- its element
abbrev pub script_element : List ℕ
script_element = codes "<script>" ++ script ++ codes "</script>\n"
