use Rattle.doc_shelf_bodies.proofs.BodySteps.{nothing_at_most}
use Rattle.doc_shelf_bodies.proofs.bodies.Bodies.keep.Goals as goal

pub returns-then-is_err : goal.returns-then-is_err
returns-then-is_err c = nothing_at_most c.args.self.now c.clear.new.self _ c.clear.ensures
