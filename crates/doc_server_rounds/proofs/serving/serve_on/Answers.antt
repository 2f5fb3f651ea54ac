use Rattle.std.proofs.Common.{ap, ◌∙◌}
use Rattle.doc_server_rounds.specs.Rounds.{ids_of}
use Rattle.doc_server_rounds.specs.Dropped.{dropped_all}
use Rattle.doc_server_rounds.proofs.Together.{served_on, cleared_on, refused_on}
use Rattle.doc_server_rounds.proofs.serving.serve_on.Goals as goal

pub returns-clause-served : goal.returns-clause-served
returns-clause-served g c =
    served_on (g.R.Renderer.page c.args.hub.now.0) c.args.hub.now.1 c.serve_accepted-result.new.hub.1 c.disconnect_all.new.hub.1
    c.args.count
    c.args.turns c.serve_accepted-result.new.links.items (c.disconnect_all.ensures.world
    ∙ ap (λ l. dropped_all c.serve_accepted-result.new.hub.1 (ids_of l)) c.deref.ensures.value) c.serve_accepted-result.result
    c.serve_accepted-result.ensures.served

pub returns-clause-cleared : goal.returns-clause-cleared
returns-clause-cleared g c =
    cleared_on (g.R.Renderer.page c.args.hub.now.0) c.args.hub.now.1 c.serve_accepted-result.new.hub.1 c.disconnect_all.new.hub.1
    c.args.count
    c.args.turns c.serve_accepted-result.new.links.items (c.disconnect_all.ensures.world
    ∙ ap (λ l. dropped_all c.serve_accepted-result.new.hub.1 (ids_of l)) c.deref.ensures.value) c.serve_accepted-result.result
    c.serve_accepted-result.ensures.served

pub returns-clause-refused : goal.returns-clause-refused
returns-clause-refused g c =
    refused_on (g.R.Renderer.page c.args.hub.now.0) c.args.hub.now.1 c.serve_accepted-result.new.hub.1 c.disconnect_all.new.hub.1
    c.args.count
    c.args.turns c.serve_accepted-result.new.links.items (c.disconnect_all.ensures.world
    ∙ ap (λ l. dropped_all c.serve_accepted-result.new.hub.1 (ids_of l)) c.deref.ensures.value) c.serve_accepted-result.result
    c.serve_accepted-result.ensures.refused
