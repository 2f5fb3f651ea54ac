use Rattle.std.proofs.Common.{refl, ◌∙◌, length, subst, sym}
use Rattle.doc_server_listen.specs.Costs.{Left, Takes}
use Rattle.doc_server_listen.proofs.CostSteps.{within_none}
use Rattle.doc_server_turns.proofs.AnswerSteps.{AnswersSharing, held_more, none_held, not_answered, sharing_join, still_room}
use Rattle.doc_server_network.proofs.Leading.{same_is_unedited, unedited_behind}
use Rattle.doc_server_turns.proofs.client.Client.answer.Goals as goal

pub steps-init : goal.steps-init
steps-init g c = record {
  answers = (
    not_answered (g.R.Renderer.page c.args.saved.now.hub.0) c.args.saved.now.hub.1 c.args.id c.args.self.now c.args.self.now refl refl
        c.requires.open,
    within_none c.args.share.now,
  );
  opened = c.requires.open;
  held = λ _. none_held c.args.self.now.pending c.requires.none;
  same = refl;
  saved = λ config begin is. is;
  ready = λ is. is;
  journal = refl;
  unedited = λ is. same_is_unedited c.args.saved.now c.args.saved.now refl;
}

pub step-requires-clause-room : goal.step-requires-clause-room
step-requires-clause-room g c =
    still_room (length c.steps.self.pending) c.steps.held c.steps.invariant.held c.if-held-ge-MOST_PENDING.false

pub returns-in_default-clause-answers : goal.returns-in_default-clause-answers
returns-in_default-clause-answers g c =
    sharing_join (g.R.Renderer.page c.args.saved.now.hub.0) (g.R.Renderer.page c.steps.saved.hub.0) c.args.saved.now.hub.1
    c.steps.saved.hub.1 c.step.new.saved.hub.1 c.args.id c.args.self.now c.steps.self c.step.new.self c.args.share.now c.steps.share
    c.take.new.self _ c.steps.invariant.same c.steps.invariant.answers c.step.ensures.answers
    (subst (Takes c.steps.share c.take.new.self) c.next_cost.ensures (c.take.ensures.taken c.if-not-take.false))

pub steps-preserved : goal.steps-preserved
steps-preserved g c = record {
  answers = sharing_join (g.R.Renderer.page c.args.saved.now.hub.0) (g.R.Renderer.page c.steps.saved.hub.0) c.args.saved.now.hub.1
      c.steps.saved.hub.1 c.step.new.saved.hub.1 c.args.id c.args.self.now c.steps.self c.step.new.self c.args.share.now c.steps.share
      c.take.new.self _ c.steps.invariant.same c.steps.invariant.answers c.step.ensures.answers
      (subst (Takes c.steps.share c.take.new.self) c.next_cost.ensures (c.take.ensures.taken c.if-not-take.false));
  opened = c.in-Some.ensures.open;
  held = held_more (length c.steps.self.pending) (length c.step.new.self.pending) c.in-Some.count c.steps.held
      c.saturating_add-held.result c.steps.invariant.held c.if-held-ge-MOST_PENDING.false c.in-Some.ensures.more
      c.saturating_add-held.ensures;
  same = c.step.ensures.same ∙ c.steps.invariant.same;
  saved = λ config begin is. c.step.ensures.saved config begin (c.steps.invariant.saved config begin is);
  ready = λ is. c.step.ensures.ready (c.steps.invariant.ready is);
  journal = c.step.ensures.journal ∙ c.steps.invariant.journal;
  unedited = λ is.
      unedited_behind c.args.saved.now c.steps.saved c.step.new.saved (c.steps.invariant.unedited is)
      (c.step.ensures.unedited (c.edit_waits.ensures c.if-edit_waits.false is));
}

pub returns-then-not-take-clause-answers : goal.returns-then-not-take-clause-answers
returns-then-not-take-clause-answers g c =
    subst (λ (l : Left). AnswersSharing (g.R.Renderer.page c.args.saved.now.hub.0) c.args.saved.now.hub.1 c.steps.saved.hub.1 c.args.id
    c.args.self.now c.steps.self c.args.share.now l) (sym (c.take.ensures.refused c.if-not-take.true)) c.steps.invariant.answers

pub returns-in_default-clause-unedited : goal.returns-in_default-clause-unedited
returns-in_default-clause-unedited g c = λ is.
    unedited_behind c.args.saved.now c.steps.saved c.step.new.saved (c.steps.invariant.unedited is)
    (c.step.ensures.unedited (c.edit_waits.ensures c.if-edit_waits.false is))
