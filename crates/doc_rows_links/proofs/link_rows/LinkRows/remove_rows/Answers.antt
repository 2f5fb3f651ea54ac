use Rattle.std.proofs.Common.{◌∙◌, ap}
use Rattle.std.specs.FinMap as map
use Rattle.doc_index_tables.proofs.TableSteps.{removed_text}
use Rattle.doc_rows_links.proofs.link_rows.LinkRows.remove_rows.Goals as goal

pub returns : goal.returns
returns c =
    removed_text c.self.inside.rows c.remove.new.self c.args.target.now c.remove.ensures.updates
    ∙ ap (λ m. map.remove m c.args.target.now) c.self.view_is
