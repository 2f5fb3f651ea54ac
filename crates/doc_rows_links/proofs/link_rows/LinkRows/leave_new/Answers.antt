use Rattle.std.proofs.Common.{◌∷◌, ap, sym, ◌∙◌}
use Rattle.std.specs.Prelude.{map as mapped, option_copied, string_bytes}
use Rattle.doc_rows.specs.Rows.{rows_beside, rows_of, rows_of_some}
use Rattle.doc_rows_links.specs.LinkSteps.{added_at}
use Rattle.doc_rows_links.proofs.PlaceSteps.{all_left, next_left, none_left_yet}
use Rattle.doc_rows_links.proofs.link_rows.LinkRows.leave_new.Goals as goal

pub loop-target-init : goal.loop-target-init
loop-target-init c =
    none_left_yet c.args.change.new.now (added_at
    (option_copied c.args.change.before) c.args.change.old.now c.args.change.groups.now) c.args.self.now c.args.path.now
    (mapped string_bytes c.into_iter-target-iterator.result)
    (ap (mapped string_bytes) c.into_iter-target-iterator.ensures.into_iter_gives ∙ c.iter-target-items.ensures)

pub loop-target-preserved : goal.loop-target-preserved
loop-target-preserved c =
    next_left c.args.change.new.now (added_at (option_copied c.args.change.before) c.args.change.old.now c.args.change.groups.now)
    c.args.self.now c.args.path.now c.as_str-target.result.now
    (mapped string_bytes c.loop-target.target-iterator) (mapped string_bytes c.next.new.self) c.loop-target.self c.leave_at.new.self
    (rows_beside (rows_of c.args.change.groups.now) (rows_of_some (option_copied c.groups_if-before.result)))
    (ap (mapped string_bytes) c.in-Some.ensures.steps
    ∙ ap (λ k. k ∷ mapped string_bytes c.next.new.self) (sym c.as_str-target.ensures.value))
    (ap (λ g. rows_beside (rows_of c.args.change.groups.now)
    (rows_of_some g)) c.groups_if-before.ensures) c.loop-target.invariant c.leave_at.ensures

pub returns : goal.returns
returns c =
    all_left c.args.change.new.now (added_at (option_copied c.args.change.before) c.args.change.old.now c.args.change.groups.now)
    c.args.self.now c.args.path.now
    (mapped string_bytes c.loop-target.target-iterator) c.loop-target.self (ap (mapped string_bytes) c.in-None.ensures.steps.0)
    c.loop-target.invariant
