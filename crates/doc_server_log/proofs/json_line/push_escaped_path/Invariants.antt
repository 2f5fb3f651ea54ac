use Rattle.std.proofs.Common.{◌≡◌, ◌++◌, string_bytes, take}
use Rattle.percent_encoding.specs.Percent.{percent_encode}
use Rattle.doc_server_log.specs.JsonLines.{escaped}
use Rattle.doc_server_log.specs.declared.request_line.TheConstants.{HIDDEN}
use Rattle.doc_server_log.proofs.json_line.push_escaped_path.Given as goal

-- what was written so far is the front of the path
abbrev pub invariant-loop-byte : goal.invariant-loop-byte
invariant-loop-byte l =
    string_bytes l.out ≡ string_bytes l.fn.out ++ escaped (percent_encode HIDDEN (take l.byte-index l.byte-items))
