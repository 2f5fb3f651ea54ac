use Rattle.std.proofs.Common.{ap, sym, ◌∙◌, ◌++◌}
use Rattle.doc_store_readers.specs.Pages.{without_stamps}
use Rattle.doc_server_reload.proofs.PushSteps.{goes_on, removals_left, removals_more}
use Rattle.doc_server_reload.proofs.lead.push_removals.Goals as goal

pub entries-init : goal.entries-init
entries-init c =
    let start = ap without_stamps c.into_iter-path-iterator.ensures.into_iter_gives ∙ c.pages-path-items.ensures in
    record {
      added = ap (λ entries. c.args.edits.now.items ++ removals_left c.args.old.now.site c.args.new.now.site entries) (sym start);
    }

pub entries-preserved : goal.entries-preserved
entries-preserved c =
    let old = c.args.old.now.site in
    let new = c.args.new.now.site in
    let rest = without_stamps c.next.new.self in
    record {
      added = goes_on c.args.edits.now.items c.entries.edits.items c.push_removal_of.new.edits.items _ _ _ _ c.entries.invariant.added
          c.in_ok-push_removal_of.ensures
          (ap (removals_left old new) (ap without_stamps c.in-Some.ensures.steps)
          ∙ removals_more old new (c.in-Some.path.now, c.in-Some._page.now.page) rest);
    }
