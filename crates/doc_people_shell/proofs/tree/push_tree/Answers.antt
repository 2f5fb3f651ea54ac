use Rattle.std.proofs.Common.{◌++◌, ◌∙◌, ap, refl, string_bytes}
use Rattle.doc_people.specs.Navigation.{tree, up_line}
use Rattle.doc_people_shell.proofs.WriteSteps.{six_written}
use Rattle.doc_people_shell.proofs.tree.push_tree.Goals as goal

pub returns : goal.returns
unfolding tree
returns g c =
    let render = g.V.Viewed.render c.args.view.now in
    let view = g.V.Viewed.view c.args.view.now in
    six_written _ _ _ _ _ _ _ _ _ _ _ _ _
    c.in_ok-push_str.ensures.bytes
    (c.in_ok-push_up_line.ensures ∙ ap (λ f. string_bytes c.push_str.new.self ++ up_line render view f) c.folder_at.ensures)
    c.in_ok-push_top_line.ensures
    refl
    c.in_ok-push_keys.ensures
    c.in_ok-push_str-2.ensures.bytes
