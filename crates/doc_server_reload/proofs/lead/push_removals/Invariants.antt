use Rattle.std.proofs.Common.{◌≡◌, ◌++◌}
use Rattle.doc_store_readers.specs.Pages.{without_stamps}
use Rattle.doc_server_script.proofs.Without.{removals}
use Rattle.doc_server_reload.specs.Leads.{gone_pages}
use Rattle.doc_server_reload.proofs.PushSteps.{removals_left}
use Rattle.doc_server_reload.proofs.lead.push_removals.Given as goal

-- the removals so far are added, and those of the pages that are left are still to be
abbrev pub invariant-entries : goal.invariant-entries
invariant-entries l = record {
  added : l.fn.edits.items ++ removals (gone_pages l.old.site l.new.site)
      ≡ l.edits.items ++ removals_left l.old.site l.new.site (without_stamps l.path-iterator);
}
