use Rattle.doc_people_editing.proofs.ScriptLaws.{new_pages_have_one_script}
use Rattle.doc_people_editing.proofs.laws.new_pages_have_one_script.Goals as goal

pub returns : goal.returns
returns c = new_pages_have_one_script
