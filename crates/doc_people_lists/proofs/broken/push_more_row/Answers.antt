use Rattle.std.proofs.Common.{◌-◌, codes, decimal, length}
use Rattle.doc_people_lists.proofs.GroupSteps.{more_told}
use Rattle.doc_people_lines.proofs.WriteSteps.{threefold}
use Rattle.doc_people_lists.proofs.broken.push_more_row.Goals as goal

pub returns : goal.returns
returns c =
    more_told c.args.links.now _ _ c.if-links-le-LINK_LIMIT.false
    (threefold (codes "<tr><td colspan=\"3\">and ") (decimal (length c.args.links.now - 50)) (codes " more</td></tr>\n") _ _ _ _
    c.in_ok-push_str.ensures.bytes c.in_ok-push_number.ensures c.in_ok-push_str-2.ensures.bytes)
