use Rattle.std.proofs.Common.{◌∙◌}
use Rattle.doc_server_rounds.proofs.Counts.{all_dropped, one_dropped}
use Rattle.doc_server_rounds.proofs.dropping.disconnect_all.Goals as goal

pub links-preserved : goal.links-preserved
links-preserved g c = record {
  rest = one_dropped c.args.links.now c.links.link-index c.link-item.result c.links-test.true c.link-item.is c.links.hub.1
      c.disconnect.new.self.1 c.id.result c.disconnect.result c.id.ensures c.disconnect.ensures.world ∙ c.links.invariant.rest;
  same = c.disconnect.ensures.same ∙ c.links.invariant.same;
}

pub returns : goal.returns
returns g c = record {
  world = all_dropped c.args.links.now c.links.link-index c.links.hub.1 _ c.links-test.false c.links.invariant.rest;
  same = c.links.invariant.same;
}
