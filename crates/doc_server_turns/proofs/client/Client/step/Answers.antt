use Rattle.std.proofs.Common.{◌<◌, ◌++◌, [], ◌∷◌, refl, ap, ◌∙◌, sym, subst, append-nil, length}
use Rattle.std.specs.Prelude.{Ok, Err}
use Rattle.doc_hub_events.specs.Events.{step_on}
use Rattle.doc_hub.specs.Runs.{Happens}
use Rattle.doc_hub_events.specs.declared.event.ConnId.{ConnId}
use Rattle.doc_hub_events.specs.declared.event.Step.TheVariants as steps
use Rattle.doc_hub_events.specs.declared.refusal.StepError.TheVariants as step_errors
use Rattle.doc_server_listen.specs.Costs.{next_cost}
use Rattle.doc_server_listen.proofs.CostSteps.{costs_last, costs_none, costs_step}
use Rattle.doc_server_turns.specs.Replies.{left_of, most_pending}
use Rattle.doc_server_turns.specs.Wirings.{Peer}
use Rattle.doc_server_turns.proofs.AnswerSteps.{answered, answered_last, not_answered}
use Rattle.doc_server_turns.proofs.HandingOver.{left_behind}
use Rattle.doc_server_network.proofs.Leading.{same_is_unedited, unedited_behind}
use Rattle.doc_server_turns.proofs.client.Client.step.Goals as goal

pub returns-then-is_err-clause-answers : goal.returns-then-is_err-clause-answers
returns-then-is_err-clause-answers g c =
    let opened = ap (λ (p : Peer). p.is_open) c.self.view_is ∙ c.requires.open in
    let pend = ap (left_of c.self.inside.sent) c.reserve.ensures.items in
    rw (← c.self.view_is) (
      not_answered (g.R.Renderer.page c.args.saved.now.hub.0) c.args.saved.now.hub.1 c.args.id _ _ pend refl opened,
      costs_none (next_cost c.args.saved.now.hub.1 c.args.id),
    )

pub returns-in-Ok-Sent-clause-answers : goal.returns-in-Ok-Sent-clause-answers
returns-in-Ok-Sent-clause-answers g c =
    let id : ConnId = record { 0 = c.args.id } in
    let opened = ap (λ (p : Peer). p.is_open) c.self.view_is ∙ c.requires.open in
    let h = subst (λ s. Happens (g.R.Renderer.page c.args.saved.now.hub.0) c.args.saved.now.hub.1 (step_on id) c.step.new.self.hub.1
    (Ok s)) c.in-Ok-Sent.field-0-is c.in-Ok-Sent.ensures.world in
    let waits = ap (left_of c.self.inside.sent)
    (c.push_back_reserved.ensures.items ∙ ap (λ l. l ++ c.in-Ok-Sent.reply ∷ []) c.reserve.ensures.items)
    ∙ left_behind c.self.inside.sent c.self.inside.replies.items c.in-Ok-Sent.reply c.self.invariant in
    let room = subst (λ (p : Peer). length p.pending < most_pending) (sym c.self.view_is) c.requires.room in
    rw (← c.self.view_is) (
      answered (g.R.Renderer.page c.args.saved.now.hub.0) c.args.saved.now.hub.1 c.step.new.self.hub.1 id (Ok (steps.Sent c.in-Ok-Sent.reply)) h _ _ waits room refl
          opened,
      costs_step c.args.saved.now.hub.1 id,
    )

pub returns-in-Ok-Last-clause-answers : goal.returns-in-Ok-Last-clause-answers
returns-in-Ok-Last-clause-answers g c =
    let id : ConnId = record { 0 = c.args.id } in
    let opened = ap (λ (p : Peer). p.is_open) c.self.view_is ∙ c.requires.open in
    let h = subst (λ s. Happens (g.R.Renderer.page c.args.saved.now.hub.0) c.args.saved.now.hub.1 (step_on id) c.step.new.self.hub.1
    (Ok s)) c.in-Ok-Last.field-0-is c.in-Ok-Last.ensures.world in
    let waits = ap (left_of c.self.inside.sent)
    (c.push_back_reserved-in-Ok-Last.ensures.items ∙ ap (λ l. l ++ c.in-Ok-Last.reply ∷ []) c.reserve.ensures.items)
    ∙ left_behind c.self.inside.sent c.self.inside.replies.items c.in-Ok-Last.reply c.self.invariant in
    let room = subst (λ (p : Peer). length p.pending < most_pending) (sym c.self.view_is) c.requires.room in
    rw (c.dropped-self-inside.ensures.stage, ← c.self.view_is) (
      answered_last (g.R.Renderer.page c.args.saved.now.hub.0) c.args.saved.now.hub.1 c.step.new.self.hub.1 id (Ok (steps.Last c.in-Ok-Last.reply)) h
          c.dropped-self-inside.new.saved.hub.1 _ _ _ c.dropped-self-inside.ensures.world waits room refl tt,
      costs_last c.args.saved.now.hub.1 c.step.new.self.hub.1 id id,
    )

pub returns-in-Ok-More-clause-answers : goal.returns-in-Ok-More-clause-answers
returns-in-Ok-More-clause-answers g c =
    let id : ConnId = record { 0 = c.args.id } in
    let opened = ap (λ (p : Peer). p.is_open) c.self.view_is ∙ c.requires.open in
    let h = subst (λ s. Happens (g.R.Renderer.page c.args.saved.now.hub.0) c.args.saved.now.hub.1 (step_on id) c.step.new.self.hub.1
    (Ok s)) c.in-Ok-More.field-0-is c.in-Ok-More.ensures.world in
    let waits = ap (left_of c.self.inside.sent) c.reserve.ensures.items
    ∙ sym (append-nil (left_of c.self.inside.sent c.self.inside.replies.items)) in
    let room = subst (λ (p : Peer). length p.pending < most_pending) (sym c.self.view_is) c.requires.room in
    rw (← c.self.view_is) (
      answered (g.R.Renderer.page c.args.saved.now.hub.0) c.args.saved.now.hub.1 c.step.new.self.hub.1 id (Ok steps.More) h _ _ waits room refl
          refl,
      costs_step c.args.saved.now.hub.1 id,
    )

pub returns-in-Ok-Closed-clause-answers : goal.returns-in-Ok-Closed-clause-answers
returns-in-Ok-Closed-clause-answers g c =
    let id : ConnId = record { 0 = c.args.id } in
    let opened = ap (λ (p : Peer). p.is_open) c.self.view_is ∙ c.requires.open in
    let h = subst (λ s. Happens (g.R.Renderer.page c.args.saved.now.hub.0) c.args.saved.now.hub.1 (step_on id) c.step.new.self.hub.1
    (Ok s)) c.in-Ok-Closed.field-0-is c.in-Ok-Closed.ensures.world in
    let waits = ap (left_of c.self.inside.sent) c.reserve.ensures.items
    ∙ sym (append-nil (left_of c.self.inside.sent c.self.inside.replies.items)) in
    let room = subst (λ (p : Peer). length p.pending < most_pending) (sym c.self.view_is) c.requires.room in
    rw (c.dropped-self-inside-in-Ok-Closed.ensures.stage, ← c.self.view_is) (
      answered_last (g.R.Renderer.page c.args.saved.now.hub.0) c.args.saved.now.hub.1 c.step.new.self.hub.1 id (Ok steps.Closed) h
          c.dropped-self-inside-in-Ok-Closed.new.saved.hub.1 _ _ _ c.dropped-self-inside-in-Ok-Closed.ensures.world waits room refl tt,
      costs_last c.args.saved.now.hub.1 c.step.new.self.hub.1 id id,
    )

pub returns-in-Err-NoConnection-clause-answers : goal.returns-in-Err-NoConnection-clause-answers
returns-in-Err-NoConnection-clause-answers g c =
    let id : ConnId = record { 0 = c.args.id } in
    let opened = ap (λ (p : Peer). p.is_open) c.self.view_is ∙ c.requires.open in
    let h = subst (λ s. Happens (g.R.Renderer.page c.args.saved.now.hub.0) c.args.saved.now.hub.1 (step_on id) c.step.new.self.hub.1
    (Err s)) c.in-Err-NoConnection.field-0-is c.in-Err-NoConnection.ensures.world in
    let waits = ap (left_of c.self.inside.sent) c.reserve.ensures.items
    ∙ sym (append-nil (left_of c.self.inside.sent c.self.inside.replies.items)) in
    let room = subst (λ (p : Peer). length p.pending < most_pending) (sym c.self.view_is) c.requires.room in
    rw (c.dropped-self-inside-in-Err-NoConnection.ensures.stage, ← c.self.view_is) (
      answered_last (g.R.Renderer.page c.args.saved.now.hub.0) c.args.saved.now.hub.1 c.step.new.self.hub.1 id (Err step_errors.NoConnection) h
          c.dropped-self-inside-in-Err-NoConnection.new.saved.hub.1 _ _ _ c.dropped-self-inside-in-Err-NoConnection.ensures.world waits room refl tt,
      costs_last c.args.saved.now.hub.1 c.step.new.self.hub.1 id id,
    )

pub returns-in-Err-Memory-clause-answers : goal.returns-in-Err-Memory-clause-answers
returns-in-Err-Memory-clause-answers g c =
    let id : ConnId = record { 0 = c.args.id } in
    let opened = ap (λ (p : Peer). p.is_open) c.self.view_is ∙ c.requires.open in
    let h = subst (λ s. Happens (g.R.Renderer.page c.args.saved.now.hub.0) c.args.saved.now.hub.1 (step_on id) c.step.new.self.hub.1
    (Err s)) c.in-Err-Memory.field-0-is c.in-Err-Memory.ensures.world in
    let waits = ap (left_of c.self.inside.sent) c.reserve.ensures.items
    ∙ sym (append-nil (left_of c.self.inside.sent c.self.inside.replies.items)) in
    let room = subst (λ (p : Peer). length p.pending < most_pending) (sym c.self.view_is) c.requires.room in
    rw (← c.self.view_is) (
      answered (g.R.Renderer.page c.args.saved.now.hub.0) c.args.saved.now.hub.1 c.step.new.self.hub.1 id (Err step_errors.Memory) h _ _ waits room refl
          opened,
      costs_step c.args.saved.now.hub.1 id,
    )

pub returns-then-is_err-clause-unedited : goal.returns-then-is_err-clause-unedited
returns-then-is_err-clause-unedited g c = λ is. same_is_unedited c.args.saved.now c.args.saved.now refl

pub returns-in-Ok-Sent-clause-unedited : goal.returns-in-Ok-Sent-clause-unedited
returns-in-Ok-Sent-clause-unedited g c = λ is. c.step.ensures.rests is

pub returns-in-Ok-Last-clause-unedited : goal.returns-in-Ok-Last-clause-unedited
returns-in-Ok-Last-clause-unedited g c = λ is.
    unedited_behind c.args.saved.now c.step.new.self c.dropped-self-inside.new.saved (c.step.ensures.rests is)
    c.dropped-self-inside.ensures.unedited

pub returns-in-Ok-More-clause-unedited : goal.returns-in-Ok-More-clause-unedited
returns-in-Ok-More-clause-unedited g c = λ is. c.step.ensures.rests is

pub returns-in-Ok-Closed-clause-unedited : goal.returns-in-Ok-Closed-clause-unedited
returns-in-Ok-Closed-clause-unedited g c = λ is.
    unedited_behind c.args.saved.now c.step.new.self c.dropped-self-inside-in-Ok-Closed.new.saved (c.step.ensures.rests is)
    c.dropped-self-inside-in-Ok-Closed.ensures.unedited

pub returns-in-Err-NoConnection-clause-unedited : goal.returns-in-Err-NoConnection-clause-unedited
returns-in-Err-NoConnection-clause-unedited g c = λ is.
    unedited_behind c.args.saved.now c.step.new.self c.dropped-self-inside-in-Err-NoConnection.new.saved (c.step.ensures.rests is)
    c.dropped-self-inside-in-Err-NoConnection.ensures.unedited

pub returns-in-Err-Memory-clause-unedited : goal.returns-in-Err-Memory-clause-unedited
returns-in-Err-Memory-clause-unedited g c = λ is. c.step.ensures.rests is
