use Rattle.std.proofs.Common.{◌∙◌, ap}
use Rattle.std.specs.FinMap as map
use Rattle.doc_index_tables.proofs.TableSteps.{looked_up_text}
use Rattle.doc_links_names.proofs.NameSteps.{number_in}
use Rattle.doc_links_names.proofs.name_map.NameMap.number.Goals as goal

pub returns-in_default : goal.returns-in_default
returns-in_default c =
    ap number_in (c.in_default.ensures.value ∙ looked_up_text c.self.inside.names.entries c.args.text.now
    ∙ ap (λ m. map.get m c.args.text.now) c.self.view_is)

pub returns : goal.returns
returns c =
    ap number_in (c.in-Some.ensures.value ∙ looked_up_text c.self.inside.names.entries c.args.text.now
    ∙ ap (λ m. map.get m c.args.text.now) c.self.view_is)
