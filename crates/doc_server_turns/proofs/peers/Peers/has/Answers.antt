use Rattle.std.proofs.Common.{◌∙◌, ap, is_some}
use Rattle.std.specs.FinMap as map
use Rattle.std.proofs.lemmas.Cmp.{nat_cmp_total}
use Rattle.std.proofs.lemmas.Map.Lookups.{exact_unsigned}
use Rattle.doc_page_parts.proofs.Maps.{looked_up}
use Rattle.doc_server_turns.proofs.peers.Peers.has.Goals as goal

pub returns : goal.returns
returns c =
    c.contains_key.ensures
    ∙ ap is_some (looked_up nat_cmp_total exact_unsigned c.self.inside.clients.entries c.args.id ∙ ap (λ m. map.get m c.args.id) c.self.view_is)
