use Rattle.std.proofs.Common.{arith, ap, refl}
use Rattle.std.proofs.lemmas.List.{drop_all}
use Rattle.doc_store_readers.specs.Groups.{texts_of}
use Rattle.doc_server_script.specs.Compactions.{moves}
use Rattle.doc_server_restore.proofs.WriterLaws.{begins, goes_on, has_all, next_move, still_writer}
use Rattle.doc_server_restore.proofs.writer.EditWriter.move_along.Goals as goal

pub names-init : goal.names-init
names-init g c = record {
  writer = c.requires;
  written = begins g.D.Device.seen g.D.Device.may_leave g.D.Device.failed g.D.Device.stale c.args.self.now _ _ refl;
}

pub names-preserved : goal.names-preserved
names-preserved g c = record {
  writer = still_writer g.D.Device.seen g.D.Device.may_leave g.D.Device.failed g.D.Device.stale c.names.self
      c.move_page.new.self _ c.names.invariant.writer c.in_ok-move_page.ensures;
  written = goes_on g.D.Device.seen g.D.Device.may_leave g.D.Device.failed g.D.Device.stale c.args.self.now c.names.self
      c.move_page.new.self _ _ _ _ c.names.invariant.written c.in_ok-move_page.ensures
      (next_move c.names.last.now c.args.names.now c.names.name-index c.name-item.result (omega (arith, c.names-test.true)) c.name-item.is);
}

pub returns : goal.returns
returns g c =
    has_all g.D.Device.seen g.D.Device.may_leave g.D.Device.failed g.D.Device.stale c.args.self.now c.names.self _ _
    c.names.invariant.written
    (ap (λ left. moves c.names.last.now (texts_of left)) (drop_all c.names.name-index c.args.names.now c.names-test.false))
