-- Lines of the log in its plain form.
use Rattle.std.specs.Prelude.{List, ℕ, ◌++◌, codes, decimal}
use Rattle.doc_server_log.specs.declared.entry.Entry.{Entry}
use Rattle.doc_server_log.specs.RequestLines.{shown_method, shown_target}

-- the number of the connection, the method, the target, the code, the bytes of the reply and its microseconds, with a space between
abbrev pub plain_line : Entry → List ℕ
plain_line entry =
    decimal entry.connection ++ codes " " ++ shown_method entry.method.now ++ codes " " ++ shown_target entry.target.now
    ++ codes " " ++ decimal entry.code ++ codes " " ++ decimal entry.bytes ++ codes " " ++ decimal entry.micros ++ codes "\n"
