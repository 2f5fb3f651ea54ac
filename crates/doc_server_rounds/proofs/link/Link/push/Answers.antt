use Rattle.std.proofs.Common.{refl, ap, ◌∙◌, sym, take}
use Rattle.doc_server_rounds.specs.Peers.{Peer}
use Rattle.doc_server_rounds.proofs.Pieces.{push_taken, push_kept, push_closes, nothing_done, is_itself, missing_apart, closed_apart}
use Rattle.doc_server_rounds.proofs.link.Link.push.Goals as goal

pub returns-then-self-eq0-clause-serves : goal.returns-then-self-eq0-clause-serves
returns-then-self-eq0-clause-serves g c = nothing_done (g.R.Renderer.page c.args.hub.now.0) c.args.hub.now.1 c.args.self.now c.requires

pub returns-in-Ok-clause-serves : goal.returns-in-Ok-clause-serves
returns-in-Ok-clause-serves g c =
    let opened = ap (λ (p : Peer). p.is_open) c.self.view_is ∙ c.requires in
    rw (← c.self.view_is) (push_taken (g.R.Renderer.page c.args.hub.now.0) c.args.hub.now.1 c.push.new.self.1 _ _ c.self.inside.id refl
    opened (take c.self.inside.pending c.self.inside.piece) c.in-Ok.ensures.world opened refl refl refl refl refl refl)

pub returns-in-Err-Memory-clause-serves : goal.returns-in-Err-Memory-clause-serves
returns-in-Err-Memory-clause-serves g c =
    push_kept (g.R.Renderer.page c.args.hub.now.0) c.args.hub.now.1 c.push.new.self.1 c.args.self.now c.args.self.now c.self.inside.id
    (ap (λ (p : Peer). p.id) c.self.view_is) c.requires (take c.self.inside.pending c.self.inside.piece) c.in-Err-Memory.field-0
    c.in-Err-Memory.ensures.world c.requires (is_itself c.args.self.now) refl

pub returns-in-Err-NoConnection-clause-serves : goal.returns-in-Err-NoConnection-clause-serves
returns-in-Err-NoConnection-clause-serves g c =
    let opened = ap (λ (p : Peer). p.is_open) c.self.view_is ∙ c.requires in
    rw (c.closed-self-inside.ensures.phase, ← c.self.view_is) (push_closes (g.R.Renderer.page c.args.hub.now.0) c.args.hub.now.1
    c.push.new.self.1 c.closed-self-inside.new.hub.1 _ _ c.self.inside.id _ refl opened c.closed-self-inside.ensures.world refl
    (record { id = refl; stalls = refl; unread = refl; pending = refl }) (take c.self.inside.pending c.self.inside.piece)
    c.in-Err-NoConnection.field-0 (λ x. missing_apart.0 (sym c.in-Err-NoConnection.field-0-is ∙ x))
    (λ x. missing_apart.1 (sym c.in-Err-NoConnection.field-0-is ∙ x)) c.in-Err-NoConnection.ensures.world refl)

pub returns-in-Err-Closed-clause-serves : goal.returns-in-Err-Closed-clause-serves
returns-in-Err-Closed-clause-serves g c =
    let opened = ap (λ (p : Peer). p.is_open) c.self.view_is ∙ c.requires in
    rw (c.closed-self-inside-in-Err-Closed.ensures.phase, ← c.self.view_is) (push_closes (g.R.Renderer.page c.args.hub.now.0)
    c.args.hub.now.1 c.push.new.self.1 c.closed-self-inside-in-Err-Closed.new.hub.1 _ _ c.self.inside.id _ refl opened
    c.closed-self-inside-in-Err-Closed.ensures.world refl
    (record { id = refl; stalls = refl; unread = refl; pending = refl }) (take c.self.inside.pending c.self.inside.piece)
    c.in-Err-Closed.field-0 (λ x. closed_apart.0 (sym c.in-Err-Closed.field-0-is ∙ x))
    (λ x. closed_apart.1 (sym c.in-Err-Closed.field-0-is ∙ x)) c.in-Err-Closed.ensures.world refl)
