use Rattle.std.proofs.Common.{Some, None, ap, sym, ◌∙◌, subst}
use Rattle.std.specs.Prelude.{option_copied}
use Rattle.std.specs.Str.{IsUtf8}
use Rattle.doc_store_readers.specs.Sites.{page_at}
use Rattle.doc_hub_people.specs.AnswerSteps.{after_edit}
use Rattle.doc_hub_people.specs.Edit.TheVariants as edits
use Rattle.doc_hub_editing.specs.EditAnswers.{put_done}
use Rattle.doc_hub_editing.specs.EditSteps.{left_at, request_at, told_at, view_at}
use Rattle.doc_hub_editing.proofs.DeskSteps.{no_text, tells, text_by, was_found}
use Rattle.doc_hub_editing.proofs.desk.Desk.put_text.Goals as goal

pub returns-in_default : goal.returns-in_default
returns-in_default c owns =
    let self = c.args.self.now in
    tells self c.refused_for.result _ _ c.refused_for.ensures
    (no_text (view_at self) (left_at self) c.args.at_source c.args.path (page_at (view_at self).pages c.args.path) c.args.groups
    (request_at self) (λ utf8. c.in_default.ensures.cases.0 (subst IsUtf8 (sym c.get.ensures) utf8)))

pub returns-in-Some : goal.returns-in-Some
returns-in-Some c owns =
    let self = c.args.self.now in
    tells self c.refused_for-in-Some.result _ _ c.refused_for-in-Some.ensures
    (text_by (view_at self) (left_at self) c.args.at_source c.args.path (page_at (view_at self).pages c.args.path) c.args.groups
    (request_at self) c.in-Ok.text.now (Some c.in-Some.why.now) (c.in-Ok.ensures.cases.0 ∙ c.get.ensures)
    (subst IsUtf8 c.get.ensures c.in-Ok.ensures.cases.1) (ap option_copied (sym c.in-Some.is) ∙ c.no_room.ensures owns))

pub returns : goal.returns
returns c owns =
    let self = c.args.self.now in
    let path = c.args.path in
    let stands = page_at (view_at self).pages path in
    let text = c.in-Ok.text.now in
    c.after.ensures ∙ ap (λ answer. after_edit answer (edits.Put path c.args.groups)) c.in_ok-answer.ensures
    ∙ ap (told_at self)
    (ap (λ stood. put_done c.args.at_source path stood (record { groups = c.args.groups; text = text }))
    (c.is_some.ensures ∙ was_found (λ page. page.now.page) c.page.result stands c.page.ensures)
    ∙ text_by (view_at self) (left_at self) c.args.at_source path stands c.args.groups (request_at self) text None
    (c.in-Ok.ensures.cases.0 ∙ c.get.ensures) (subst IsUtf8 c.get.ensures c.in-Ok.ensures.cases.1)
    (ap option_copied (sym c.in_default-no_room.is) ∙ c.no_room.ensures owns))
