use Rattle.std.proofs.Common.{◌∙◌, option_copied}
use Rattle.doc_people_shell.proofs.ItemSteps.{keys_written}
use Rattle.doc_people_shell.proofs.tree.push_keys.Goals as goal

pub returns : goal.returns
returns g c =
    keys_written (g.V.Viewed.render c.args.view.now) (g.V.Viewed.view c.args.view.now) (option_copied c.args.at) _ _ _ _ _ _
    c.in_ok-push_items.ensures c.in_ok-push_all_line.ensures c.in_ok-around.ensures.shown (c.is_cut.ensures ∙ c.in_ok-around.ensures.cut)
    c.folder_at.ensures
