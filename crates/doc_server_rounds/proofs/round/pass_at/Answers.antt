use Rattle.doc_server_rounds.proofs.RoundSteps.{untouched, served_at}
use Rattle.doc_server_rounds.proofs.round.pass_at.Goals as goal

pub returns-then-not-is_open-clause-serves : goal.returns-then-not-is_open-clause-serves
returns-then-not-is_open-clause-serves g c =
    untouched (g.R.Renderer.page c.args.hub.now.0) c.args.hub.now.1 c.args.links.now c.args.place c.index-links-place.result

pub returns-clause-serves : goal.returns-clause-serves
returns-clause-serves g c =
    served_at (g.R.Renderer.page c.args.hub.now.0) c.args.hub.now.1 c.pass.new.hub.1 c.args.links.now c.args.place
    c.index-links-place.result c.pass.new.self c.requires c.pass.ensures.serves
