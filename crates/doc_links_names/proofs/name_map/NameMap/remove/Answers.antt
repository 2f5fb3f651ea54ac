use Rattle.std.proofs.Common.{◌∙◌, ap}
use Rattle.std.specs.FinMap as map
use Rattle.doc_index_tables.proofs.TableSteps.{removed_text}
use Rattle.doc_links_names.proofs.name_map.NameMap.remove.Goals as goal

pub returns : goal.returns
returns c =
    removed_text c.self.inside.names c.remove.new.self c.args.text.now c.remove.ensures.updates
    ∙ ap (λ m. map.remove m c.args.text.now) c.self.view_is
