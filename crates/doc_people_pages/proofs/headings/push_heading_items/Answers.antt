use Rattle.std.proofs.Common.{◌++◌, ap, rules, string_bytes, ◌∙◌}
use borrow.Author.Tests.{tests}
use Rattle.std.specs.List.{flat_map}
use Rattle.std.proofs.lemmas.Iterator.{YieldsList-from_slice, YieldsList-from_take}
use Rattle.std.proofs.lemmas.Iterator.Consumers.{YieldsList-at, YieldsList-from_filter}
use Rattle.doc_people.specs.Pages.{heading_item}
use Rattle.doc_people_pages.specs.Listed.{is_listed}
use Rattle.doc_people_pages.proofs.HeadingSteps.{all_given, heading_more}
use Rattle.doc_people_pages.proofs.headings.push_heading_items.Goals as goal

pub loop-heading-preserved : goal.loop-heading-preserved
loop-heading-preserved c = heading_more _ _ _ c.loop-heading.yielded c.in-Some.heading c.loop-heading.invariant
    c.in_ok-push_heading_item.ensures

pub returns : goal.returns
returns c =
    c.loop-heading.invariant
    ∙ ap (λ hs. string_bytes c.args.out.now ++ flat_map heading_item hs)
    (all_given c.loop-heading.yielded _ c.loop-heading.yielded_by _ _ c.in-None.is c.next.ensures.steps
    (YieldsList-at c.into_iter-heading-iterator.ensures.into_iter_gives (YieldsList-from_take 100
    (YieldsList-at c.take-heading-items.ensures.source (YieldsList-from_filter _ is_listed
    (YieldsList-at c.filter.ensures.source (YieldsList-from_slice c.args.headings.now c.iter.ensures.rest))
    c.filter.ensures.closure (λ x r q k. search (rules, tests)))) c.take-heading-items.ensures.count)))
