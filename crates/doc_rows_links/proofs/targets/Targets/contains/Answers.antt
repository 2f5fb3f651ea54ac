use Rattle.std.proofs.Common.{◌∙◌, ap, is_some}
use Rattle.std.specs.FinMap as map
use Rattle.doc_index_tables.proofs.TableSteps.{looked_up_text}
use Rattle.doc_rows_links.proofs.targets.Targets.contains.Goals as goal

pub returns : goal.returns
returns c =
    c.contains_key.ensures ∙ ap is_some (looked_up_text c.self.inside.paths.entries c.args.path.now)
    ∙ ap (λ m. is_some (map.get m c.args.path.now)) c.self.view_is
