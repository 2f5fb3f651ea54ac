use Rattle.std.proofs.Common.{◌∙◌, ap, is_some}
use Rattle.std.specs.FinMap as map
use Rattle.std.proofs.lemmas.Cmp.{nat_cmp_total}
use Rattle.std.proofs.lemmas.Map.Lookups.{exact_unsigned}
use Rattle.doc_page_parts.proofs.Maps.{looked_up, removed}
use Rattle.doc_hub.proofs.connections.Connections.remove.Goals as goal

pub returns-clause-left : goal.returns-clause-left
returns-clause-left c =
    removed nat_cmp_total exact_unsigned c.self.inside.entries.entries c.remove.new.self.entries c.args.id c.remove.ensures.updates.0
    ∙ ap (λ m. map.remove m c.args.id) c.self.view_is

pub returns-clause-stood : goal.returns-clause-stood
returns-clause-stood c =
    c.is_some.ensures
    ∙ ap is_some (c.remove.ensures.value ∙ looked_up nat_cmp_total exact_unsigned c.self.inside.entries.entries c.args.id)
    ∙ ap (λ m. map.contains_key m c.args.id) c.self.view_is
