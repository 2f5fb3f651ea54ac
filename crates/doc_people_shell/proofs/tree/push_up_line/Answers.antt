use Rattle.std.proofs.Common.{◌++◌, ◌∙◌, ap, string_bytes}
use Rattle.doc_people_shell.proofs.WriteSteps.{three_written}
use Rattle.doc_people_shell.proofs.LineSteps.{up_is}
use Rattle.doc_people_shell.proofs.tree.push_up_line.Goals as goal

pub returns : goal.returns
returns g c =
    three_written _ _ _ _ _ _ _ c.in_ok-push_str.ensures.bytes c.in_ok-push_folder_link.ensures c.in_ok-push_str-2.ensures.bytes
    ∙ ap (λ l. string_bytes c.args.out.now ++ l)
    (up_is (g.V.Viewed.render c.args.view.now) (g.V.Viewed.view c.args.view.now) c.args.folder.now _ c.if-is_empty.ensures c.parent.ensures)
