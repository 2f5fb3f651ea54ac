use Rattle.std.proofs.Common.{◌∙◌, sym}
use Rattle.doc_server_rounds.proofs.Counts.{one_closed}
use Rattle.doc_server_rounds.proofs.round.any_open.Goals as goal

pub links-preserved : goal.links-preserved
links-preserved g c =
    one_closed c.args.links.now c.links.link-index c.link-item.result c.links-test.true c.link-item.is
    (sym c.is_open.ensures ∙ c.if-is_open.false) c.links.invariant
