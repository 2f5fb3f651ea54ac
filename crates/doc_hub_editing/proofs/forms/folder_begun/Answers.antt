use Rattle.std.proofs.Common.{sym, ◌∙◌}
use Rattle.doc_hub_editing.proofs.FormSteps.{folder_ends}
use Rattle.doc_hub_editing.proofs.forms.folder_begun.Goals as goal

pub if_folder_path-requires : goal.if_folder_path-requires
if_folder_path-requires c = folder_ends c.args.rest.now c.in-Some.folder (sym c.in-Some.is ∙ c.in_ok-folder.ensures)
