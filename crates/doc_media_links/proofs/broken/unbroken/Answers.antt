use Rattle.std.proofs.Common.{Some, arith, ap, filter, sym, ◌∙◌}
use Rattle.std.proofs.lemmas.List.{nil_from_length}
use Rattle.doc_media.specs.Media.{beside_of}
use Rattle.doc_media_links.proofs.BrokenSteps.{none_left, one_link_more}
use Rattle.doc_media_links.proofs.broken.unbroken.Goals as goal
use Rattle.doc_media_links.specs.MediaLinks.{broken_beside, is_broken}

pub loop-link-preserved : goal.loop-link-preserved
loop-link-preserved c =
    let broken = is_broken (beside_of (Some c.in-Some.held) (Some c.args.reader.now)) in
    one_link_more broken c.in-Some-link.link c.loop-link.found.items c.push_broken.new.found.items c.next.new.self.rest.items
    c.loop-link.link-iterator.rest.items (filter broken c.args.links) c.in-Some-link.ensures.steps.0 c.in_ok-push_broken.ensures
    c.loop-link.invariant

pub returns : goal.returns
returns c =
    let broken = is_broken (beside_of (Some c.in-Some.held) (Some c.args.reader.now)) in
    c.new.ensures
    ∙ none_left broken c.loop-link.found.items c.loop-link.link-iterator.rest.items (filter broken c.args.links)
    (nil_from_length _ (omega (arith, c.in-None.ensures.steps.0, c.loop-link.link-iterator.rest.ok.0))) c.loop-link.invariant
    ∙ ap (λ media. broken_beside (beside_of media (Some c.args.reader.now)) c.args.links) (sym c.in-Some.is)
