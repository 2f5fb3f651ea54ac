use Rattle.std.proofs.Common.{codes}
use Rattle.doc_page_parts.specs.Escaping.{escaped}
use Rattle.doc_people_lines.proofs.WriteSteps.{threefold}
use Rattle.doc_people_pages.proofs.headings.push_heard_heading.Goals as goal

pub returns : goal.returns
returns c =
    threefold (codes "<h1 class=\"sr\">") (escaped c.args.text.now) (codes "</h1>\n") _ _ _ _ c.in_ok-push_str.ensures.bytes
    c.in_ok-push_escaped.ensures.ok c.in_ok-push_str-2.ensures.bytes
