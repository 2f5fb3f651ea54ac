use Rattle.std.proofs.Common.{◌∙◌, ap}
use Rattle.std.specs.FinMap as map
use Rattle.std.proofs.lemmas.Cmp.{nat_cmp_total}
use Rattle.std.proofs.lemmas.Map.Lookups.{exact_unsigned}
use Rattle.doc_page_parts.proofs.Maps.{inserted}
use Rattle.doc_server_turns.proofs.peers.Peers.insert.Goals as goal

pub returns-clause-taken : goal.returns-clause-taken
returns-clause-taken c =
    inserted nat_cmp_total exact_unsigned c.self.inside.clients.entries c.insert.new.self.entries c.args.id c.args.client
    c.in_ok-insert.ensures.updates.0
    ∙ ap (λ m. map.insert m c.args.id c.args.client) c.self.view_is
