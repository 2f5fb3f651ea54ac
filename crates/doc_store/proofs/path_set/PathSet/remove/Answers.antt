use Rattle.std.proofs.Common.{◌∙◌, ap}
use Rattle.std.specs.FinMap as map
use Rattle.std.proofs.lemmas.Cmp.{nat_list_cmp_total}
use Rattle.std.proofs.lemmas.Map.Lookups.{exact_bytes}
use Rattle.doc_page_parts.proofs.Maps.{removed}
use Rattle.doc_store.proofs.path_set.PathSet.remove.Goals as goal

pub returns : goal.returns
returns c =
    removed nat_list_cmp_total exact_bytes c.self.inside.paths.entries c.remove.new.self.entries c.args.path.now
    c.remove.ensures.updates.0
    ∙ ap (λ m. map.remove m c.args.path.now) c.self.view_is
