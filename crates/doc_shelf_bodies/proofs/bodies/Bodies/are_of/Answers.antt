use Rattle.std.proofs.Common.{ap, sym, ◌∙◌}
use Rattle.std.specs.Prelude.{Some}
use Rattle.doc_shelf_bodies.proofs.EqualSteps.{settings_are}
use Rattle.doc_shelf_bodies.proofs.bodies.Bodies.are_of.Goals as goal

pub returns-in-Some : goal.returns-in-Some
returns-in-Some c = λ same.
    c.in-Some.is ∙ ap Some (settings_are c.in-Some.own c.args.browse.now (sym c.eq.ensures ∙ same))
