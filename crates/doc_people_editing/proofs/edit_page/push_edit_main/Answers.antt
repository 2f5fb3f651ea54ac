use Rattle.doc_people_editing.specs.EditPage.{edit_main, edit_parts}
use Rattle.doc_people_editing.specs.Script.{script_element}
use Rattle.doc_people_editing.proofs.WriteSteps.{twofold}
use Rattle.doc_people_editing.proofs.edit_page.push_edit_main.Goals as goal

pub returns : goal.returns
unfolding edit_main
returns c =
    twofold (edit_parts c.args.path.now c.args.text.now c.args.groups.now c.args.tag.now c.args.stands) script_element _ _ _
    c.in_ok-push_edit_parts.ensures c.in_ok-push_script.ensures
