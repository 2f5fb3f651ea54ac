use Rattle.doc_links_names.specs.declared.page_numbers.PageNumbers.{PageNumbers}
use Rattle.doc_links_names.proofs.NumberSteps.{numbered}
use Rattle.doc_links_names.proofs.page_numbers.PageNumbers.of.Goals as goal

pub returns-clause-numbered : goal.returns-clause-numbered
returns-clause-numbered c =
    let numbers : PageNumbers = record { own = c.in_ok-own.own; links = c.in_ok-links.links; anchors = c.in_ok-anchors.anchors } in
    numbered c.enter.new.self c.link_numbers.new.names c.anchor_numbers.new.names c.args.slot c.args.path.now c.text.result.now
    c.args.page.now c.links.result.now c.headings.result.now numbers c.text.ensures c.in_ok-own.ensures.used c.in_ok-own.ensures.number
    c.in_ok-links.ensures.kept c.links.ensures c.in_ok-links.ensures.pairs c.in_ok-anchors.ensures.kept c.headings.ensures
    c.in_ok-anchors.ensures.numbers
