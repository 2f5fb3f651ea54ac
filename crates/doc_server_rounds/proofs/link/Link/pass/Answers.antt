use Rattle.std.proofs.Common.{◌∙◌}
use Rattle.doc_server_rounds.proofs.RoundLaws.{serves_join}
use Rattle.doc_server_rounds.proofs.link.Link.pass.Goals as goal

pub returns-then-not-is_open-2-clause-serves : goal.returns-then-not-is_open-2-clause-serves
returns-then-not-is_open-2-clause-serves g c =
    serves_join (g.R.Renderer.page c.args.hub.now.0) (g.R.Renderer.page c.read.new.hub.0) c.args.hub.now.1 c.read.new.hub.1
    c.push.new.hub.1 c.args.self.now c.read.new.self c.push.new.self c.read.ensures.same c.read.ensures.serves c.push.ensures.serves

pub returns-clause-serves : goal.returns-clause-serves
returns-clause-serves g c =
    serves_join (g.R.Renderer.page c.args.hub.now.0) (g.R.Renderer.page c.push.new.hub.0) c.args.hub.now.1 c.push.new.hub.1
    c.answer.new.hub.1 c.args.self.now c.push.new.self c.answer.new.self (c.push.ensures.same ∙ c.read.ensures.same)
    (serves_join (g.R.Renderer.page c.args.hub.now.0) (g.R.Renderer.page c.read.new.hub.0) c.args.hub.now.1 c.read.new.hub.1
    c.push.new.hub.1 c.args.self.now c.read.new.self c.push.new.self c.read.ensures.same c.read.ensures.serves c.push.ensures.serves)
    c.answer.ensures.serves
