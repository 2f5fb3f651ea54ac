use Rattle.std.proofs.Common.{◌-◌, length}
use Rattle.doc_blocks.proofs.TaskLaws.{AreRead}
use Rattle.doc_blocks.proofs.tasks.with_tasks.Given as goal

abbrev pub invariant-tags : goal.invariant-tags
invariant-tags l = AreRead l.fn.tags.items l.tags.items l.place l.first

abbrev pub decreases-tags : goal.decreases-tags
decreases-tags l = length l.tags.items - l.place
