use Rattle.std.proofs.Common.{[], ap}
use Rattle.doc_rules.specs.Forests.{none}
use Rattle.doc_blocks_starts.specs.Tags.{tags_of, tags_shown}
use Rattle.doc_blocks_starts.specs.OpenTags.{open_tags}
use Rattle.doc_blocks.proofs.LevelLemmas.{stack_empty}
use Rattle.doc_blocks.proofs.levels.Levels.new.Goals as goal

pub returns-clause-stack : goal.returns-clause-stack
returns-clause-stack c = stack_empty c.new.result.items c.new-2.result.items c.new.ensures.items c.new-2.ensures.items

pub returns-clause-sound : goal.returns-clause-sound
unfolding open_tags tags_of
returns-clause-sound c = record { entries = []; last = none; woven = ap tags_shown c.new-2.ensures.items; fits = rw c.new.ensures.items tt }
