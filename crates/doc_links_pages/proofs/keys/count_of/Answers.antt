use Rattle.std.proofs.Common.{ap, unwrap_or, ◌∙◌}
use Rattle.doc_index_tables.proofs.TableSteps.{looked_up_text}
use Rattle.doc_links_pages.proofs.keys.count_of.Goals as goal

pub returns-in_default : goal.returns-in_default
returns-in_default c = ap (λ o. unwrap_or o 0) (c.in_default.ensures.value ∙ looked_up_text c.args.keys.now.entries c.args.path.now)

pub returns : goal.returns
returns c = ap (λ o. unwrap_or o 0) (c.in-Some.ensures.value ∙ looked_up_text c.args.keys.now.entries c.args.path.now)
