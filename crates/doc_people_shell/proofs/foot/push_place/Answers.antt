use Rattle.std.proofs.Common.{◌++◌, ◌∙◌, ap, string_bytes, sym}
use Rattle.doc_people_shell.proofs.WriteSteps.{three_written}
use Rattle.doc_people_shell.proofs.LineSteps.{place_is}
use Rattle.doc_people_shell.proofs.foot.push_place.Goals as goal

pub returns : goal.returns
returns c =
    three_written _ _ _ _ _ _ _ c.in_ok-push_str.ensures.bytes c.in_ok-push_escaped.ensures.ok c.in_ok-push_str-2.ensures.bytes
    ∙ ap (λ l. string_bytes c.args.out.now ++ l) (sym (place_is c.args.place.now c.if-is_empty.ensures))
