use Rattle.std.proofs.Common.{◌++◌, ◌∙◌, ap, string_bytes}
use Rattle.doc_people_shell.proofs.WriteSteps.{three_written}
use Rattle.doc_people_shell.proofs.LineSteps.{top_is}
use Rattle.doc_people_shell.proofs.tree.push_top_line.Goals as goal

pub returns : goal.returns
returns g c =
    three_written _ _ _ _ _ _ _ c.in_ok-push_str.ensures.bytes (c.in_ok-push_folder_link.ensures
    ∙ ap (λ l. string_bytes c.push_str.new.self ++ l)
    (top_is (g.V.Viewed.render c.args.view.now) (g.V.Viewed.view c.args.view.now) _ _ _ _ _ c.folder_at-folder.ensures c.in_ok-index.ensures
    c.get.ensures c.is_at.ensures)) c.in_ok-push_str-2.ensures.bytes
