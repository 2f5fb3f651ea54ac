use Rattle.std.proofs.Common.{drop, length}
use Rattle.doc_server_rounds.proofs.Together.{rounds_in}
use Rattle.doc_server_rounds.proofs.serving.serve_accepted.Goals as goal

pub returns-clause-served : goal.returns-clause-served
returns-clause-served g c =
    let made = c.accept_links.new.links.items in
    let served = c.serve_round.new.links in
    let round = c.in_ok-serve_round.ensures in
    rounds_in (g.R.Renderer.page c.args.hub.now.0) (g.R.Renderer.page c.accept_links.new.hub.0) c.args.hub.now.1 c.accept_links.new.hub.1
    c.serve_round.new.hub.1 c.args.count c.args.turns c.accept_links.new.links.len c.in_ok-serve_round.field-0 made
    c.as_mut_slice.result.now served (drop (length served) made) c.accept_links.ensures.same c.accept_links.ensures.made
    c.in_ok-accept_links.ensures.all c.as_mut_slice.ensures.value c.as_mut_slice.ensures.len round.serves round.faults round.turns round.all
