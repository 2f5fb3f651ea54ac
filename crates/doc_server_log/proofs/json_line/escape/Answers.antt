use Rattle.std.proofs.Common.{sym, ◌∙◌, arith}
use Rattle.percent_encoding.proofs.AsciiSetLemmas.{ascii_from_kept}
use Rattle.doc_server_log.specs.declared.request_line.TheConstants.{HIDDEN}
use Rattle.doc_server_log.proofs.EscapingSteps.{backslash, hidden_byte, kept_byte, quote}
use Rattle.doc_server_log.proofs.json_line.escape.Goals as goal

pub returns-then-should_percent_encode-clause-written : goal.returns-then-should_percent_encode-clause-written
returns-then-should_percent_encode-clause-written c =
    c.percent_encode_byte.ensures ∙ hidden_byte c.args.byte (sym c.should_percent_encode.ensures ∙ c.if-should_percent_encode.true)

pub returns-in-34-clause-written : goal.returns-in-34-clause-written
returns-in-34-clause-written c = rw c.in-34.is quote

pub returns-in-92-clause-written : goal.returns-in-92-clause-written
returns-in-92-clause-written c = rw c.in-92.is backslash

pub returns-in_default-clause-plain : goal.returns-in_default-clause-plain
returns-in_default-clause-plain c =
    kept_byte c.args.byte (sym c.should_percent_encode.ensures ∙ c.if-should_percent_encode.false) (omega arith) (omega arith)

pub returns-in_default-clause-ascii : goal.returns-in_default-clause-ascii
returns-in_default-clause-ascii c =
    ascii_from_kept HIDDEN c.args.byte (sym c.should_percent_encode.ensures ∙ c.if-should_percent_encode.false)
