use Rattle.doc_people_editing.proofs.ScriptLaws.{edit_pages_have_one_script}
use Rattle.doc_people_editing.proofs.laws.edit_pages_have_one_script.Goals as goal

pub returns : goal.returns
returns c = edit_pages_have_one_script
