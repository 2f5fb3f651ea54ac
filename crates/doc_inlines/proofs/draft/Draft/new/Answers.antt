use Rattle.doc_inlines.proofs.DraftLaws.{nothing_made, nothing_open}
use Rattle.doc_inlines.proofs.LiveLaws.{none_tell}
use Rattle.std.proofs.Common.{arith}
use Rattle.doc_inlines.proofs.draft.Draft.new.Goals as goal

pub returns-clause-made : goal.returns-clause-made
returns-clause-made c = nothing_made _ _ _ c.new.ensures.items c.new.ensures.runs c.new-2.ensures.items

pub returns-clause-sound : goal.returns-clause-sound
returns-clause-sound c = record {
  marks = c.new.ensures.sound;
  brackets = nothing_open _ _ _ c.new.ensures.items c.new.ensures.runs c.new-2.ensures.items;
  dead = omega arith;
  images = none_tell c.new-2.result.items c.new-2.ensures.items;
}
