use Rattle.std.proofs.Common.{codes}
use Rattle.doc_page_encoding.specs.Encoding.{encoded}
use Rattle.doc_people_lines.proofs.WriteSteps.{fivefold}
use Rattle.doc_people_lists.proofs.parts.push_next_link.Goals as goal

pub returns : goal.returns
returns c =
    fivefold (codes "<a href=\"") c.args.address.now (codes "?from=") (encoded c.args.next.now) (codes "\" rel=\"next\">More</a>\n")
    _ _ _ _ _ _ c.in_ok-push_str.ensures.bytes c.in_ok-push_str-2.ensures.bytes c.in_ok-push_str-3.ensures.bytes
    c.in_ok-push_encoded.ensures.ok c.in_ok-push_str-4.ensures.bytes
