use Rattle.std.proofs.Common.{rules, string_bytes}
use Rattle.doc_server_restore.proofs.WriterLaws.{finished, finished_now, nothing_in}
use Rattle.doc_server_restore.proofs.compact.finish.Goals as goal

pub returns-then-is_empty : goal.returns-then-is_empty
returns-then-is_empty g c = λ edits h.
    finished g.D.Device.seen g.D.Device.may_leave g.D.Device.failed g.D.Device.stale c.args.writer edits h
    (nothing_in (string_bytes c.args.writer.text) c.is_empty.result (search rules) c.if-is_empty.true)

pub returns : goal.returns
returns g c =
    finished_now g.D.Device.seen g.D.Device.may_leave g.D.Device.failed g.D.Device.stale c.args.writer c.end_record.new.self
    c.in_ok-end_record.ensures.wrote c.in_ok-end_record.ensures.none
