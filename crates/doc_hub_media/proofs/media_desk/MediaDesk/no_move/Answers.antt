use Rattle.std.proofs.Common.{false, sym, ◌∙◌}
use Rattle.std.specs.Prelude.{Some, codes}
use Rattle.doc_hub_editing.specs.EditResponses.{refused_for, unmet_by}
use Rattle.doc_hub_editing.specs.EditSteps.{request_at, told_at}
use Rattle.doc_hub_media.proofs.DeskSteps.{done_where_met}
use Rattle.doc_hub_media.proofs.media_desk.MediaDesk.no_move.Goals as goal

pub returns-in-None : goal.returns-in-None
returns-in-None c =
    let desk = c.args.self.now.desk in
    done_where_met (told_at desk) (unmet_by false (request_at desk) (Some c.args.page.now.page))
    (refused_for 409 (codes "to is kept for media")) c.refused_for.result (sym c.in-None.is ∙ c.in_ok-answer.ensures) c.refused_for.ensures
