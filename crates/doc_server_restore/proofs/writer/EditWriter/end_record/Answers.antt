use Rattle.std.proofs.Common.{subst, sym, ◌∷◌, ◌++◌, []}
use Rattle.doc_server_journal.specs.Journals.{IsOpen}
use Rattle.doc_server_journal_records.specs.Records.{IsPlain}
use Rattle.doc_server_restore.proofs.WriterLaws.{ended}
use Rattle.doc_server_restore.proofs.writer.EditWriter.end_record.Goals as goal

pub returns-clause-wrote : goal.returns-clause-wrote
returns-clause-wrote g c =
    ended g.D.Device.seen g.D.Device.may_leave g.D.Device.failed g.D.Device.stale c.args.self.now
    (record { journal = c.append.new.self; text = c.clear.new.self; seconds = c.args.self.now.seconds })
    (λ texts is. subst (λ t. IsOpen g.D.Device.seen g.D.Device.may_leave g.D.Device.failed g.D.Device.stale c.append.new.self
    (texts ++ t ∷ [])) c.as_bytes.ensures.value (c.in_ok-append.ensures.acknowledged texts (c.in_ok-make_room.ensures.open texts is))) c.clear.ensures.bytes

pub append-requires-clause-plain : goal.append-requires-clause-plain
append-requires-clause-plain g c = subst IsPlain (sym c.as_bytes.ensures.value) c.requires.1.plain
