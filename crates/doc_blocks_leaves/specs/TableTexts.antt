-- The table in a paragraph's text, as the lines that it stands in.
use Rattle.std.specs.Prelude.{◌≡◌, Some, chars}
use Rattle.doc_rules.specs.Characters.{Text}
use Rattle.doc_rules.specs.Rules.{Rules}
use Rattle.doc_rules.specs.Blocks.{table_of}
use Rattle.doc_rules.specs.Tables.{TableSource}
use Rattle.doc_blocks_starts.specs.Tables.{source_of}
use Rattle.doc_tables.specs.LineSteps.{row_lines}
use Rattle.doc_tables.specs.declared.table.TableText.{TableText}

abbrev pub table_shown : TableText → TableSource
table_shown found = source_of (chars found.header.now) (chars found.delimiters.now) (row_lines found)

-- this is the table in a text, and what stands before it, where tables are read
abbrev pub IsTableOf : Rules → Text → TableText → Type 0
IsTableOf rules text found = table_of rules text ≡ Some (chars found.before.now, table_shown found)
