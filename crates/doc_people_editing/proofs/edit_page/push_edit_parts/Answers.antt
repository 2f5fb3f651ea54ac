use Rattle.doc_people_editing.specs.EditPage.{edit_form, edit_heading, other_section, preview_frame, stands_section}
use Rattle.doc_people_editing.proofs.WriteSteps.{fivefold}
use Rattle.doc_people_editing.proofs.edit_page.push_edit_parts.Goals as goal

pub returns : goal.returns
returns c =
    fivefold (edit_heading c.args.path.now) (edit_form c.args.path.now c.args.text.now c.args.groups.now c.args.tag.now)
    other_section preview_frame (stands_section c.args.path.now c.args.stands) _ _ _ _ _ _
    c.in_ok-push_edit_heading.ensures c.in_ok-push_edit_form.ensures c.in_ok-push_other_section.ensures c.in_ok-push_preview_frame.ensures
    c.in_ok-push_stands_section.ensures
