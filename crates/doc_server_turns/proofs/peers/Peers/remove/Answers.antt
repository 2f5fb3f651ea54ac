use Rattle.std.proofs.Common.{◌∙◌, ap}
use Rattle.std.specs.FinMap as map
use Rattle.std.proofs.lemmas.Cmp.{nat_cmp_total}
use Rattle.std.proofs.lemmas.Map.Lookups.{exact_unsigned}
use Rattle.doc_page_parts.proofs.Maps.{removed}
use Rattle.doc_server_turns.proofs.peers.Peers.remove.Goals as goal

pub returns : goal.returns
returns c =
    removed nat_cmp_total exact_unsigned c.self.inside.clients.entries c.remove.new.self.entries c.args.id c.remove.ensures.updates.0
    ∙ ap (λ m. map.remove m c.args.id) c.self.view_is
