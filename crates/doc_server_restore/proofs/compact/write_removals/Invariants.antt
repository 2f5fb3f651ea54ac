use Rattle.doc_store_readers.specs.Pages.{without_stamps}
use Rattle.doc_server_script.specs.Compactions.{other_pages}
use Rattle.doc_server_restore.specs.WriterSteps.{IsWriter, WroteUpTo, removals}
use Rattle.doc_server_restore.proofs.WriterLaws.{Stand, removals_left}
use Rattle.doc_server_restore.proofs.compact.write_removals.Given as goal

-- the removals so far are written, and those of the pages that are left are still to be
abbrev pub invariant-entries : goal.invariant-entries
invariant-entries g l = record {
  writer : IsWriter g.D.Device.seen g.D.Device.may_leave g.D.Device.failed g.D.Device.stale l.writer;
  written : WroteUpTo g.D.Device.seen g.D.Device.may_leave g.D.Device.failed g.D.Device.stale l.fn.writer l.writer
      (removals (other_pages l.config.site l.site.site l.config.site.pages))
      (removals_left l.config.site l.site.site (without_stamps l.path-iterator));
  left : Stand l.config.site.pages (without_stamps l.path-iterator);
}
