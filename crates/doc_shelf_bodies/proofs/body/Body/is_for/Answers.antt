use Rattle.std.proofs.Common.{sym, ◌∙◌}
use Rattle.doc_shelf_bodies.proofs.EqualSteps.{offers_are, readers_are}
use Rattle.doc_shelf_bodies.proofs.body.Body.is_for.Goals as goal

pub returns-then-eq : goal.returns-then-eq
returns-then-eq c = λ same. (
  offers_are c.args.self.now.offers c.args.offers (sym c.eq.ensures ∙ c.if-eq.true),
  readers_are c.args.self.now.reader c.args.reader.now (sym c.eq-then-eq.ensures ∙ same),
)
