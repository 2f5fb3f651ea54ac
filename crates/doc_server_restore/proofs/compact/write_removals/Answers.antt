use Rattle.std.proofs.Common.{ap, subst, sym, ◌∙◌}
use Rattle.doc_store_readers.specs.Pages.{without_stamps}
use Rattle.doc_server_restore.proofs.WriterLaws.{Stand, all_stand, first_stands, others_stand, begins, goes_on, still_writer}
use Rattle.doc_server_restore.proofs.WriterLaws.{removals_left, removals_more}
use Rattle.doc_server_restore.proofs.compact.write_removals.Goals as goal

pub entries-init : goal.entries-init
entries-init g c =
    let config = c.args.config.now.site in
    let site = c.args.site.now.site in
    let start = ap without_stamps c.into_iter-path-iterator.ensures.into_iter_gives ∙ c.pages-path-items.ensures in
    record {
      writer = c.requires;
      written = begins g.D.Device.seen g.D.Device.may_leave g.D.Device.failed g.D.Device.stale c.args.writer.now _ _
          (ap (removals_left config site) (sym start));
      left = subst (Stand config.pages) (sym start) (all_stand config.pages);
    }

pub write_removal-requires-clause-stands : goal.write_removal-requires-clause-stands
write_removal-requires-clause-stands g c =
    let pages = c.args.config.now.site.pages in
    first_stands pages (c.in-Some.path.now, c.in-Some._page.now.page) (without_stamps c.next.new.self)
    (subst (Stand pages) (ap without_stamps c.in-Some.ensures.steps) c.entries.invariant.left)

pub entries-preserved : goal.entries-preserved
entries-preserved g c =
    let config = c.args.config.now.site in
    let site = c.args.site.now.site in
    let rest = without_stamps c.next.new.self in
    let steps = ap without_stamps c.in-Some.ensures.steps in
    record {
      writer = still_writer g.D.Device.seen g.D.Device.may_leave g.D.Device.failed g.D.Device.stale c.entries.writer
          c.write_removal.new.writer _ c.entries.invariant.writer c.in_ok-write_removal.ensures;
      written = goes_on g.D.Device.seen g.D.Device.may_leave g.D.Device.failed g.D.Device.stale c.args.writer.now c.entries.writer
          c.write_removal.new.writer _ _ _ _ c.entries.invariant.written c.in_ok-write_removal.ensures
          (ap (removals_left config site) steps ∙ removals_more config site (c.in-Some.path.now, c.in-Some._page.now.page) rest);
      left = others_stand config.pages (c.in-Some.path.now, c.in-Some._page.now.page) rest
          (subst (Stand config.pages) steps c.entries.invariant.left);
    }
