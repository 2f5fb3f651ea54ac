use Rattle.doc_blocks.specs.LevelSteps.{stack_of}
use Rattle.doc_blocks.proofs.BuilderLaws.{one_put, two_put}
use Rattle.doc_blocks.proofs.levels.Levels.put_closed.Goals as goal

pub returns-in_default-clause-stack : goal.returns-in_default-clause-stack
returns-in_default-clause-stack c =
    one_put (stack_of c.args.self.now) (stack_of c.put.new.self) c.args.closed c.in_default.is c.in_ok-put.ensures.stack

pub returns-clause-stack : goal.returns-clause-stack
returns-clause-stack c =
    two_put (stack_of c.args.self.now) (stack_of c.put.new.self) (stack_of c.put-2.new.self) c.args.closed c.in-Some.lines c.in-Some.is
    c.in_ok-put.ensures.stack c.in_ok-put-2.ensures.stack
