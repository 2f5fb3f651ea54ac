use Rattle.std.proofs.Common.{◌∙◌}
use Rattle.doc_people_lists.proofs.SeenSteps.{folder_seen}
use Rattle.doc_people_lists.proofs.contents.sees_folder.Goals as goal

pub returns : goal.returns
returns g c =
    folder_seen (g.V.Viewed.view c.args.view.now) c.args.folder.now c.get.result.now c.is_empty.result c.is_empty.ensures
    (c.get.ensures ∙ c.in_ok-first.ensures)
