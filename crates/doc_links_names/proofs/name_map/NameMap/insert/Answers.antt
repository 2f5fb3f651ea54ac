use Rattle.std.proofs.Common.{◌∙◌, ap, string_bytes}
use Rattle.std.specs.FinMap as map
use Rattle.doc_index_tables.proofs.TableSteps.{inserted_text}
use Rattle.doc_links_names.proofs.name_map.NameMap.insert.Goals as goal

pub returns-clause-ok : goal.returns-clause-ok
returns-clause-ok c =
    inserted_text c.self.inside.names c.insert.new.self (string_bytes c.args.text) c.args.name c.in_ok-insert.ensures.updates
    ∙ ap (λ m. map.insert m (string_bytes c.args.text) c.args.name) c.self.view_is
