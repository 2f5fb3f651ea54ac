use Rattle.doc_blocks.specs.LevelSteps.{stack_of}
use Rattle.doc_blocks.proofs.LevelLemmas.{closes_quote, closes_item}
use Rattle.doc_blocks.proofs.levels.Levels.close_last.Goals as goal

pub returns-in-Quote-clause-closes : goal.returns-in-Quote-clause-closes
returns-in-Quote-clause-closes c =
    closes_quote (stack_of c.args.self.now) (stack_of c.leave.new.self) (stack_of c.set_blank.new.self) c.in_ok-left.left
    c.in_ok-left.ensures.left c.in-Quote.is c.set_blank.ensures.stack

pub returns-in-Item-clause-closes : goal.returns-in-Item-clause-closes
returns-in-Item-clause-closes c =
    closes_item (stack_of c.args.self.now) (stack_of c.leave.new.self) (stack_of c.loosen.new.self) c.in_ok-left.left c.in-Item.columns
    c.in-Item.is_empty c.in_ok-left.ensures.left c.in-Item.is c.loosen.ensures.stack
