use Rattle.std.proofs.Common.{◌≡◌, ◌++◌}
use Rattle.std.specs.List.{flat_map}
use Rattle.doc_store_readers.specs.Pages.{without_stamps}
use Rattle.doc_server_script.specs.Compactions.{other_pages}
use Rattle.doc_server_reload.specs.Leads.{led_page}
use Rattle.doc_server_reload.proofs.PushSteps.{Stand, led_left}
use Rattle.doc_server_reload.proofs.lead.push_pages.Given as goal

-- the edits of the pages so far are added, and those of the pages that are left are still to be
abbrev pub invariant-entries : goal.invariant-entries
invariant-entries l = record {
  added : l.fn.edits.items ++ flat_map (led_page l.old.site l.new.site) (other_pages l.old.site l.new.site l.new.site.pages)
      ≡ l.edits.items ++ led_left l.old.site l.new.site (without_stamps l.path-iterator);
  left : Stand l.new.site.pages (without_stamps l.path-iterator);
}
