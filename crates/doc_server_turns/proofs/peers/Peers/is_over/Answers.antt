use Rattle.std.proofs.Common.{◌∙◌, ap}
use Rattle.std.specs.FinMap as map
use Rattle.std.proofs.lemmas.Cmp.{nat_cmp_total}
use Rattle.std.proofs.lemmas.Map.Lookups.{exact_unsigned}
use Rattle.doc_page_parts.proofs.Maps.{looked_up}
use Rattle.doc_server_turns.specs.Parts.{is_over_at}
use Rattle.doc_server_turns.proofs.peers.Peers.is_over.Goals as goal

pub returns-in-Some : goal.returns-in-Some
returns-in-Some c =
    c.is_over.ensures
    ∙ ap is_over_at (c.in-Some.ensures.value ∙ looked_up nat_cmp_total exact_unsigned c.self.inside.clients.entries c.args.id
    ∙ ap (λ m. map.get m c.args.id) c.self.view_is)

pub returns-in-None : goal.returns-in-None
returns-in-None c =
    ap is_over_at (c.in-None.ensures.value ∙ looked_up nat_cmp_total exact_unsigned c.self.inside.clients.entries c.args.id
    ∙ ap (λ m. map.get m c.args.id) c.self.view_is)
