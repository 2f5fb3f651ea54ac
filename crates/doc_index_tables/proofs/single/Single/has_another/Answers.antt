use Rattle.std.proofs.lemmas.Bool.{eqb-true, not-false}
use Rattle.doc_index_tables.proofs.SingleSteps.{set_again, set_alone}
use Rattle.doc_index_tables.proofs.single.Single.has_another.Goals as goal

pub returns-in-Some : goal.returns-in-Some
returns-in-Some c =
    λ same value. set_again c.self.inside.entry c.args.self.now c.self.view_is c.in-Some.known _ c.args.number c.in-Some.is
    (eqb-true c.in-Some.known c.args.number (not-false _ same)) value

pub returns-in-None : goal.returns-in-None
returns-in-None c = λ _ value. set_alone c.self.inside.entry c.args.self.now c.self.view_is c.args.number value c.in-None.is
