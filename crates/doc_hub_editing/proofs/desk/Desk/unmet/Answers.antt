use Rattle.std.proofs.Common.{ap, ◌∙◌}
use Rattle.std.specs.Prelude.{not, option_map}
use Rattle.doc_hub_editing.specs.EditResponses.{only_reply}
use Rattle.doc_hub_editing.specs.EditSteps.{request_at, told_at}
use Rattle.doc_hub_editing.proofs.DeskSteps.{no_conditions}
use Rattle.doc_hub_editing.proofs.desk.Desk.unmet.Goals as goal

pub returns-then-is_none-2 : goal.returns-then-is_none-2
returns-then-is_none-2 c =
    let self = c.args.self.now in
    let conditions = c.conditions_of-conditions in
    ap (option_map (λ reply. told_at self (only_reply reply)))
    (no_conditions c.args.reads (request_at self) (option_map (λ page. page.now.page) c.args.stands) conditions.result.if_match
    conditions.result.if_none_match conditions.ensures.if_match conditions.ensures.if_none_match
    (c.is_none.ensures ∙ ap not c.if-is_none.true) (c.is_none-then-is_none.ensures ∙ ap not c.if-is_none-2.true))
