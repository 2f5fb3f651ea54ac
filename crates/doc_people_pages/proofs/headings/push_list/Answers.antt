use Rattle.std.proofs.Common.{codes, take}
use Rattle.std.specs.Prelude.{filter}
use Rattle.std.specs.List.{flat_map}
use Rattle.doc_people.specs.Pages.{heading_item}
use Rattle.doc_people_pages.specs.Listed.{is_listed}
use Rattle.doc_people_lines.proofs.WriteSteps.{threefold}
use Rattle.doc_people_pages.proofs.headings.push_list.Goals as goal

pub returns : goal.returns
returns c =
    threefold (codes "<h2>On this page</h2>\n<ul>\n") (flat_map heading_item (take 100 (filter is_listed c.args.headings.now)))
    (codes "</ul>\n") _ _ _ _ c.in_ok-push_str.ensures.bytes c.in_ok-push_heading_items.ensures c.in_ok-push_str-2.ensures.bytes
