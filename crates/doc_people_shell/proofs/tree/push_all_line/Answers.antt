use Rattle.std.proofs.Common.{◌++◌, ◌∙◌, ap, string_bytes}
use Rattle.doc_people_shell.proofs.WriteSteps.{three_written}
use Rattle.doc_people_shell.proofs.LineSteps.{all_is}
use Rattle.doc_people_shell.proofs.tree.push_all_line.Goals as goal

pub returns : goal.returns
returns c =
    three_written _ _ _ _ _ _ _ c.in_ok-push_str.ensures.bytes c.in_ok-push_link_to_contents.ensures c.in_ok-push_str-2.ensures.bytes
    ∙ ap (λ l. string_bytes c.args.out.now ++ l) (all_is c.args.cut c.args.folder.now c.if-not-cut.false)
