-- Names to unfold where an example computes.
use Rattle.doc_rules.specs.Characters.{strip_front, strip_end}
use Rattle.doc_rules.specs.Lines.{onto_first}
use Rattle.doc_rules.specs.Tables.{parts_behind, parts, without_pipe, without_blank_end, unescape_pipes, cells_of_line, aligned}
use Rattle.doc_rules.specs.Tables.{colon_end, dashes, some_dashes, alignment_of, alignments_of, has_columns, table_with, table_in}
use Rattle.doc_rules.specs.Tables.{text_lines, has_table}

-- cells, delimiter rows and tables
unfoldable pub table_words : Unit {0}
unfolding strip_front strip_end onto_first parts_behind parts without_pipe without_blank_end unescape_pipes cells_of_line aligned colon_end
    dashes some_dashes alignment_of alignments_of has_columns table_with table_in text_lines has_table
table_words = tt
