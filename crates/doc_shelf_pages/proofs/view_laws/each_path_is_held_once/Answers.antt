use Rattle.doc_shelf_pages.proofs.HeldLaws.{each_is_held_once}
use Rattle.doc_shelf_pages.proofs.view_laws.each_path_is_held_once.Goals as goal

pub returns : goal.returns
returns c = each_is_held_once
