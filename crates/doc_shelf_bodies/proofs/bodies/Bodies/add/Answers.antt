use Rattle.std.proofs.Common.{◌∙◌}
use Rattle.doc_shelf_bodies.proofs.BodySteps.{one_added}
use Rattle.doc_shelf_bodies.proofs.bodies.Bodies.add.Goals as goal

pub returns-in_err-add : goal.returns-in_err-add
returns-in_err-add c =
    one_added c.args.self.now c.make_room.new.self c.add.new.self c.make_room.new.self.count c.args.browse.now c.args.path.now _ _ _
    c.in_ok-make_room.ensures.rows c.in_ok-make_room.ensures.browse (c.in_ok-path.ensures.ok ∙ c.text-2.ensures)
    (λ i. record { reader = c.in_ok-copy.ensures i; offers = c.args.offers; text = c.args.text }) c.add.ensures

pub returns : goal.returns
returns c =
    one_added c.args.self.now c.make_room.new.self c.add.new.self c.saturating_add-self.result c.args.browse.now c.args.path.now _ _ _
    c.in_ok-make_room.ensures.rows c.in_ok-make_room.ensures.browse (c.in_ok-path.ensures.ok ∙ c.text-2.ensures)
    (λ i. record { reader = c.in_ok-copy.ensures i; offers = c.args.offers; text = c.args.text }) c.add.ensures
