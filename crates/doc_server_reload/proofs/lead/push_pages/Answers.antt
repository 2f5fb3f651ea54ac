use Rattle.std.proofs.Common.{ap, subst, sym, ◌∙◌, ◌++◌}
use Rattle.std.specs.List.{flat_map}
use Rattle.doc_store_readers.specs.Pages.{without_stamps}
use Rattle.doc_server_script.specs.Compactions.{other_pages}
use Rattle.doc_server_reload.specs.Leads.{led_page}
use Rattle.doc_server_reload.proofs.PushSteps.{Stand, all_stand, first_stands, goes_on, later_stand, led_left, led_more}
use Rattle.doc_server_reload.proofs.lead.push_pages.Goals as goal

pub entries-init : goal.entries-init
entries-init c =
    let new = c.args.new.now.site in
    let start = ap without_stamps c.into_iter-path-iterator.ensures.into_iter_gives ∙ c.pages-path-items.ensures in
    record {
      added = ap (λ entries. c.args.edits.now.items ++ led_left c.args.old.now.site new entries) (sym start);
      left = subst (Stand new.pages) (sym start) (all_stand new.pages);
    }

pub push_page-requires : goal.push_page-requires
push_page-requires c =
    let pages = c.args.new.now.site.pages in
    record {
      stands = first_stands pages (c.in-Some.path.now, c.in-Some.page.now.page) (without_stamps c.next.new.self)
          (subst (Stand pages) (ap without_stamps c.in-Some.ensures.steps) c.entries.invariant.left);
    }

pub entries-preserved : goal.entries-preserved
entries-preserved c =
    let old = c.args.old.now.site in
    let new = c.args.new.now.site in
    let rest = without_stamps c.next.new.self in
    let steps = ap without_stamps c.in-Some.ensures.steps in
    record {
      added = goes_on c.args.edits.now.items c.entries.edits.items c.push_page.new.edits.items
          (flat_map (led_page c.args.old.now.site c.args.new.now.site)
          (other_pages c.args.old.now.site c.args.new.now.site c.args.new.now.site.pages)) _ _ _ c.entries.invariant.added
          c.in_ok-push_page.ensures
          (ap (led_left old new) steps ∙ led_more old new (c.in-Some.path.now, c.in-Some.page.now.page) rest);
      left = later_stand new.pages (c.in-Some.path.now, c.in-Some.page.now.page) rest
          (subst (Stand new.pages) steps c.entries.invariant.left);
    }
