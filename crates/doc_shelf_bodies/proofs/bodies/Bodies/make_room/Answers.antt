use Rattle.std.specs.Prelude.{Some}
use Rattle.doc_shelf_bodies.proofs.BodySteps.{nothing_more}
use Rattle.doc_shelf_bodies.proofs.bodies.Bodies.make_room.Goals as goal

pub returns-in_err-copy-clause-rows : goal.returns-in_err-copy-clause-rows
returns-in_err-copy-clause-rows c = nothing_more c.args.self.now c.clear.new.self c.clear.ensures

pub returns-clause-rows : goal.returns-clause-rows
returns-clause-rows c =
    nothing_more c.args.self.now (record c.clear.new.self { browse = Some c.in_ok-copy.field-0 }) c.clear.ensures
