use Rattle.doc_inlines.proofs.DraftLaws.{nothing_made, nothing_open}
use Rattle.doc_inlines.proofs.LiveLaws.{none_tell}
use Rattle.std.proofs.Common.{arith}
use Rattle.doc_inlines.proofs.draft.Draft.clear.Goals as goal

pub returns-clause-made : goal.returns-clause-made
returns-clause-made c = nothing_made _ _ _ c.clear.ensures.items c.clear.ensures.runs c.clear-2.ensures.items

pub returns-clause-sound : goal.returns-clause-sound
returns-clause-sound c = record {
  marks = c.clear.ensures.sound;
  brackets = nothing_open _ _ _ c.clear.ensures.items c.clear.ensures.runs c.clear-2.ensures.items;
  dead = omega arith;
  images = none_tell c.clear-2.new.self.items c.clear-2.ensures.items;
}
