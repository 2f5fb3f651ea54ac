use Rattle.std.proofs.Common.{append_assoc}
use Rattle.doc_server_log.specs.Readers.{shown_reader}
use Rattle.doc_server_log.proofs.PlainSteps.{nothing_escaped, reader_plain}
use Rattle.doc_server_log.proofs.json_line.push_asking.Goals as goal

pub returns-clause-written : goal.returns-clause-written
returns-clause-written c =
    rw (
      c.in_ok-push_str.ensures.bytes,
      c.in_ok-push.ensures.written,
      c.in_ok-write.ensures.bytes,
      nothing_escaped (shown_reader c.args.entry.now.reader) (reader_plain c.args.entry.now.reader c.in_ok-push.ensures.named),
    )
    (simp append_assoc)
