use Rattle.std.proofs.Common.{Some, ap, sym, subst}
use Rattle.doc_media.specs.Media.{beside_of}
use Rattle.doc_hub_people.specs.Edits.{CanBeMade}
use Rattle.doc_hub_people.specs.Answer.{Answer}
use Rattle.doc_hub_people.specs.PeopleAnswers.{offers_for}
use Rattle.doc_hub_editing_refusals.specs.AskedSteps.{edit_request_shown}
use Rattle.doc_hub_editing.proofs.EditsCan.{by_owner_can}
use Rattle.doc_hub_editing.proofs.editing.Editing.answer.Goals as goal

pub make-requires : goal.make-requires
make-requires g c =
    let self = c.args.self.now in
    let old = c.args.shelf.now.1 in
    let request = self.exchange.now.request.now in
    subst (λ body. CanBeMade old body c.in_ok-answer.answer.edit) (sym c.get.ensures)
    (subst (CanBeMade old request.body) (sym (ap (λ (a : Answer). a.edit) c.in_ok-answer.ensures))
    (by_owner_can self.exchange.now.takes_puts old self.reader.now c.if-not-self.false
    (beside_of self.media.now (Some self.reader.now)) (g.R.Renderer.page c.args.shelf.now.0) self.browse.now
    (offers_for self.browse.now self.guest self.reader.now.owner) self.for_people request (edit_request_shown c.args.asked)))
