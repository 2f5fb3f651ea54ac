use Rattle.std.proofs.Common.{codes}
use Rattle.std.specs.Prelude.{option_copied}
use Rattle.doc_people.specs.Lists.{more_link, start_link}
use Rattle.doc_people_lists.proofs.PartSteps.{some_parts}
use Rattle.doc_people_lines.proofs.WriteSteps.{fourfold}
use Rattle.doc_people_lists.proofs.parts.push_pager.Goals as goal

pub returns : goal.returns
returns c =
    some_parts c.args.address.now c.args.from.now (option_copied c.args.next) _ _ c.is_whole.result c.is_whole.ensures c.if-is_whole.false
    (fourfold (codes "<nav class=\"pager\" aria-label=\"Parts of this list\">\n") (start_link c.args.address.now c.args.from.now)
    (more_link c.args.address.now (option_copied c.args.next)) (codes "</nav>\n")
    _ _ _ _ _ c.in_ok-push_str.ensures.bytes c.in_ok-push_start_link.ensures c.in_ok-push_more_link.ensures
    c.in_ok-push_str-2.ensures.bytes)
