use Rattle.std.specs.List.{flat_map}
use Rattle.doc_store_readers.specs.Pages.{without_stamps}
use Rattle.doc_server_script.specs.Compactions.{made, other_pages}
use Rattle.doc_server_restore.specs.WriterSteps.{IsWriter, WroteUpTo}
use Rattle.doc_server_restore.proofs.WriterLaws.{Stand, made_left}
use Rattle.doc_server_restore.proofs.compact.write_pages.Given as goal

-- the pages so far are written, and those that are left are still to be
abbrev pub invariant-entries : goal.invariant-entries
invariant-entries g l = record {
  writer : IsWriter g.D.Device.seen g.D.Device.may_leave g.D.Device.failed g.D.Device.stale l.writer;
  written : WroteUpTo g.D.Device.seen g.D.Device.may_leave g.D.Device.failed g.D.Device.stale l.fn.writer l.writer
      (flat_map (made l.site.site) (other_pages l.config.site l.site.site l.site.site.pages))
      (made_left l.config.site l.site.site (without_stamps l.path-iterator));
  left : Stand l.site.site.pages (without_stamps l.path-iterator);
}
