use Rattle.std.proofs.Common.{◌++◌, ◌∙◌, ap, string_bytes, sym}
use Rattle.doc_people_shell.proofs.WriteSteps.{three_written}
use Rattle.doc_people_shell.proofs.LineSteps.{foot_is}
use Rattle.doc_people_shell.proofs.foot.push_foot_part.Goals as goal

pub returns : goal.returns
returns c =
    three_written _ _ _ _ _ _ _ c.in_ok-push_str.ensures.bytes c.in_ok-push_str-2.ensures.bytes c.in_ok-push_str-3.ensures.bytes
    ∙ ap (λ l. string_bytes c.args.out.now ++ l) (sym (foot_is c.args.lines.now c.if-is_empty.ensures))
