-- A law of the lines.
use Rattle.doc_server_log.specs.declared.entry.Entry.{Entry}
use Rattle.doc_server_log.specs.JsonLines.{IsOneLine, json_line}
use Rattle.doc_server_log.specs.Readers.{IsNamed}

-- the line of an entry is one line
abbrev pub IsALine : Type 0
IsALine = (entry : Entry) → IsNamed entry.reader → IsOneLine (json_line entry)
