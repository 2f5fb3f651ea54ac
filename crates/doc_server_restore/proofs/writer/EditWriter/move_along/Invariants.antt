use Rattle.std.proofs.Common.{drop}
use Rattle.doc_store_readers.specs.Groups.{texts_of}
use Rattle.doc_server_script.specs.Compactions.{moves}
use Rattle.doc_server_restore.specs.WriterSteps.{IsWriter, WroteUpTo}
use Rattle.doc_server_restore.proofs.writer.EditWriter.move_along.Given as goal

-- the moves so far are written, and those from the last name on are left
abbrev pub invariant-names : goal.invariant-names
invariant-names g l = record {
  writer : IsWriter g.D.Device.seen g.D.Device.may_leave g.D.Device.failed g.D.Device.stale l.self;
  written : WroteUpTo g.D.Device.seen g.D.Device.may_leave g.D.Device.failed g.D.Device.stale l.fn.self l.self
      (moves l.from (texts_of l.names)) (moves l.last (texts_of (drop l.name-index l.names)));
}
