use Rattle.std.proofs.Common.{◌∙◌, ap}
use Rattle.std.specs.FinMap as map
use Rattle.std.proofs.lemmas.Cmp.{nat_cmp_total}
use Rattle.std.proofs.lemmas.Map.Lookups.{exact_unsigned}
use Rattle.doc_page_parts.proofs.Maps.{len-sorted}
use Rattle.doc_server_turns.proofs.peers.Peers.count.Goals as goal

pub returns : goal.returns
returns c =
    c.len.ensures.len ∙ len-sorted nat_cmp_total exact_unsigned c.self.inside.clients.entries c.len.ensures.ordered ∙ ap map.len c.self.view_is
