use Rattle.std.proofs.Common.{rules, ◌≡◌, ◌<◌, ◌≤◌, true, false, length, refl}
use Rattle.doc_blocks.proofs.TaskLaws.{none_read, one_read, all_are_read, not_among, among}
use Rattle.doc_blocks.proofs.tasks.with_tasks.Goals as goal

pub returns-then-not-tasks : goal.returns-then-not-tasks
returns-then-not-tasks c =
    let off : c.args.entities.now.tasks ≡ false = search rules in
    not_among c.args.entities.now _ off

pub tags-init : goal.tags-init
tags-init c = none_read _ _ refl

pub tags-preserved : goal.tags-preserved
tags-preserved c =
    let within : c.tags.place < length c.tags.tags.items = search rules in
    one_read _ _ _ _ _ _ _ _ _ c.tags.invariant within c.index-tag.ensures c.tag_read.ensures refl c.starts_item-first.ensures refl

pub returns : goal.returns
returns c =
    let on : c.args.entities.now.tasks ≡ true = search rules in
    let full : length c.tags.tags.items ≤ c.tags.place = search rules in
    among c.args.entities.now _ _ on (all_are_read _ _ _ _ c.tags.invariant full)
