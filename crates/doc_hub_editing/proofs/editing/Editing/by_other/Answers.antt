use Rattle.std.proofs.Common.{◌∙◌}
use Rattle.doc_shelf_pages.specs.ViewLaws.{seen_in}
use Rattle.doc_hub_people.specs.PeopleAnswers.{offers_for}
use Rattle.doc_hub_editing_refusals.specs.AskedSteps.{edit_request_shown}
use Rattle.doc_hub_editing_refusals.specs.EditRefusals.{refusal_to}
use Rattle.doc_hub_editing.proofs.OtherSteps.{other_told}
use Rattle.doc_hub_editing.proofs.editing.Editing.by_other.Goals as goal

pub returns : goal.returns
returns g c =
    let self = c.args.self.now in
    let visit = c.visit-visit in
    let what = edit_request_shown c.args.asked in
    other_told c.refused_with.result visit.result.exchange.now self.exchange.now visit.result.browse.now self.browse.now
    c.in_ok-refusal.refusal (g.R.Renderer.page c.args.shelf.now.0)
    (offers_for self.browse.now self.guest self.reader.now.owner) (seen_in c.args.shelf.now.1 self.reader.now) self.guest
    self.for_people what c.refused_with.ensures visit.ensures.exchange visit.ensures.browse
    (c.in_ok-refusal.ensures ∙ (λ i.
    refusal_to (g.R.Renderer.page (c.view-view.ensures i).shelf.now.0) ((c.frame.ensures.browse ∙ visit.ensures.browse) i)
    ((c.frame.ensures.offers ∙ (λ j. offers_for (visit.ensures.browse j) (visit.ensures.guest j) (visit.ensures.owner j))) i)
    (seen_in (c.view-view.ensures i).shelf.now.1 (c.view-view.ensures i).reader.now) self.guest self.for_people what))
