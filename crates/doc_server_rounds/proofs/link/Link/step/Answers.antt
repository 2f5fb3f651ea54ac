use Rattle.std.proofs.Common.{refl, ap, ◌∙◌, sym, subst}
use Rattle.std.specs.Prelude.{Ok, Err}
use Rattle.doc_hub.specs.Runs.{Happens}
use Rattle.doc_hub_events.specs.Events.{step_on}
use Rattle.doc_hub_events.specs.declared.event.Step.TheVariants as steps
use Rattle.doc_server_rounds.specs.Peers.{Peer}
use Rattle.doc_server_rounds.specs.Served.{Serves}
use Rattle.doc_server_rounds.proofs.Connections.{reply_takes}
use Rattle.doc_server_rounds.proofs.Pieces.{is_itself, replied, reply_cut, last_reply, found_no_memory, closed_step, missing_step}
use Rattle.doc_server_rounds.proofs.link.Link.step.Goals as goal

pub returns-then-write_all-clause-serves : goal.returns-then-write_all-clause-serves
returns-then-write_all-clause-serves g c =
    let opened = ap (λ (p : Peer). p.is_open) c.self.view_is ∙ c.requires in
    let h = subst (λ s. Happens (g.R.Renderer.page c.args.hub.now.0) c.args.hub.now.1 (step_on c.self.inside.id) c.step.new.self.1
    (Ok s)) (c.in-Ok-Sent.field-0-is ∙ ap steps.Sent (sym c.get.ensures)) c.in-Ok-Sent.ensures.world in
    rw (← c.self.view_is) (replied (g.R.Renderer.page c.args.hub.now.0) c.args.hub.now.1 c.step.new.self.1 _ _ c.self.inside.id refl
    opened c.get.result.now h opened
    (record { id = refl; stalls = c.write_all.ensures.stalls; unread = c.write_all.ensures.unread; pending = refl })
    c.if-write_all.ensures.sent.0)

pub returns-then-write_all-clause-less : goal.returns-then-write_all-clause-less
returns-then-write_all-clause-less g c =
    let h = subst (λ s. Happens (g.R.Renderer.page c.args.hub.now.0) c.args.hub.now.1 (step_on c.self.inside.id) c.step.new.self.1
    (Ok s)) (c.in-Ok-Sent.field-0-is ∙ ap steps.Sent (sym c.get.ensures)) c.in-Ok-Sent.ensures.world in
    rw (← c.self.view_is) (λ _. (reply_takes (g.R.Renderer.page c.args.hub.now.0) c.args.hub.now.1 c.step.new.self.1 c.self.inside.id
    c.get.result.now h).0)

pub returns-else-write_all-clause-serves : goal.returns-else-write_all-clause-serves
returns-else-write_all-clause-serves g c =
    let opened = ap (λ (p : Peer). p.is_open) c.self.view_is ∙ c.requires in
    let h = subst (λ s. Happens (g.R.Renderer.page c.args.hub.now.0) c.args.hub.now.1 (step_on c.self.inside.id) c.step.new.self.1
    (Ok s)) (c.in-Ok-Sent.field-0-is ∙ ap steps.Sent (sym c.get.ensures)) c.in-Ok-Sent.ensures.world in
    rw (c.closed-self-inside.ensures.phase, ← c.self.view_is)
    (reply_cut (g.R.Renderer.page c.args.hub.now.0) c.args.hub.now.1 c.step.new.self.1 c.closed-self-inside.new.hub.1 _ _
    c.self.inside.id _ refl opened c.closed-self-inside.ensures.world refl
    (record { id = refl; stalls = c.write_all.ensures.stalls; unread = c.write_all.ensures.unread; pending = refl }) c.get.result.now
    h c.if-write_all.ensures.sent)

pub returns-in-Ok-Last-clause-serves : goal.returns-in-Ok-Last-clause-serves
returns-in-Ok-Last-clause-serves g c =
    let opened = ap (λ (p : Peer). p.is_open) c.self.view_is ∙ c.requires in
    let h = subst (λ s. Happens (g.R.Renderer.page c.args.hub.now.0) c.args.hub.now.1 (step_on c.self.inside.id) c.step.new.self.1
    (Ok s)) (c.in-Ok-Last.field-0-is ∙ ap steps.Last (sym c.get-in-Ok-Last.ensures)) c.in-Ok-Last.ensures.world in
    rw (c.closed-self-inside-in-Ok-Last.ensures.phase, ← c.self.view_is)
    (last_reply (g.R.Renderer.page c.args.hub.now.0) c.args.hub.now.1 c.step.new.self.1
    c.closed-self-inside-in-Ok-Last.new.hub.1 _ _ c.self.inside.id _ refl opened c.closed-self-inside-in-Ok-Last.ensures.world refl
    (record { id = refl; stalls = c.write_all-in-Ok-Last.ensures.stalls; unread = c.write_all-in-Ok-Last.ensures.unread; pending = refl })
    c.get-in-Ok-Last.result.now c.write_all-in-Ok-Last.result h c.write_all-in-Ok-Last.ensures.sent)

pub returns-in-Ok-More-clause-serves : goal.returns-in-Ok-More-clause-serves
returns-in-Ok-More-clause-serves g c =
    let h = subst (λ s. Happens (g.R.Renderer.page c.args.hub.now.0) c.args.hub.now.1 (step_on c.self.inside.id) c.step.new.self.1
    (Ok s)) (c.in-Ok-More.field-0-is) c.in-Ok-More.ensures.world in
    subst (λ page. Serves page c.args.hub.now.1 c.args.self.now c.finish.new.hub.1 c.finish.new.self) c.step.ensures.same
    (c.finish.ensures.serves c.args.hub.now.1 c.self.inside.id (ap (λ (p : Peer). p.id) c.self.view_is)
    (subst (λ page. Happens page c.args.hub.now.1 (step_on c.self.inside.id) c.step.new.self.1 (Ok steps.More))
    (sym c.step.ensures.same) h))

pub returns-in-Ok-Closed-clause-serves : goal.returns-in-Ok-Closed-clause-serves
returns-in-Ok-Closed-clause-serves g c =
    let opened = ap (λ (p : Peer). p.is_open) c.self.view_is ∙ c.requires in
    let h = subst (λ s. Happens (g.R.Renderer.page c.args.hub.now.0) c.args.hub.now.1 (step_on c.self.inside.id) c.step.new.self.1
    (Ok s)) (c.in-Ok-Closed.field-0-is) c.in-Ok-Closed.ensures.world in
    rw (c.closed-self-inside-in-Ok-Closed.ensures.phase, ← c.self.view_is)
    (closed_step (g.R.Renderer.page c.args.hub.now.0) c.args.hub.now.1 c.step.new.self.1
    c.closed-self-inside-in-Ok-Closed.new.hub.1 _ _ c.self.inside.id _ refl opened c.closed-self-inside-in-Ok-Closed.ensures.world refl
    (record { id = refl; stalls = refl; unread = refl; pending = refl }) h refl)

pub returns-in-Err-NoConnection-clause-serves : goal.returns-in-Err-NoConnection-clause-serves
returns-in-Err-NoConnection-clause-serves g c =
    let opened = ap (λ (p : Peer). p.is_open) c.self.view_is ∙ c.requires in
    let h = subst (λ s. Happens (g.R.Renderer.page c.args.hub.now.0) c.args.hub.now.1 (step_on c.self.inside.id) c.step.new.self.1
    (Err s)) (c.in-Err-NoConnection.field-0-is) c.in-Err-NoConnection.ensures.world in
    rw (c.closed-self-inside-in-Err-NoConnection.ensures.phase, ← c.self.view_is)
    (missing_step (g.R.Renderer.page c.args.hub.now.0) c.args.hub.now.1 c.step.new.self.1
    c.closed-self-inside-in-Err-NoConnection.new.hub.1 _ _ c.self.inside.id _ refl opened
    c.closed-self-inside-in-Err-NoConnection.ensures.world refl (record { id = refl; stalls = refl; unread = refl; pending = refl }) h refl)

pub returns-in-Err-Memory-clause-serves : goal.returns-in-Err-Memory-clause-serves
returns-in-Err-Memory-clause-serves g c =
    let h = subst (λ s. Happens (g.R.Renderer.page c.args.hub.now.0) c.args.hub.now.1 (step_on c.self.inside.id) c.step.new.self.1
    (Err s)) (c.in-Err-Memory.field-0-is) c.in-Err-Memory.ensures.world in
    rw c.wait.ensures (found_no_memory (g.R.Renderer.page c.args.hub.now.0) c.args.hub.now.1 c.step.new.self.1 c.args.self.now
    c.args.self.now c.self.inside.id
    (ap (λ (p : Peer). p.id) c.self.view_is) c.requires h c.requires (is_itself c.args.self.now) refl)
