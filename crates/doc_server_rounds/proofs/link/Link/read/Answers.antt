use Rattle.std.proofs.Common.{refl, ap, ◌∙◌, sym, take}
use Rattle.doc_server_rounds.specs.Peers.{Peer}
use Rattle.doc_server_rounds.proofs.Pieces.{nothing_done, read_some, read_failed, take_none, open_is_fine, fault_counts}
use Rattle.doc_server_rounds.proofs.link.Link.read.Goals as goal

pub returns-then-self-gt0-clause-serves : goal.returns-then-self-gt0-clause-serves
returns-then-self-gt0-clause-serves g c = nothing_done (g.R.Renderer.page c.args.hub.now.0) c.args.hub.now.1 c.args.self.now c.requires

pub returns-in-Ok-eq0-clause-serves : goal.returns-in-Ok-eq0-clause-serves
returns-in-Ok-eq0-clause-serves g c =
    let opened = ap (λ (p : Peer). p.is_open) c.self.view_is ∙ c.requires in
    rw (← c.self.view_is) (read_some (g.R.Renderer.page c.args.hub.now.0) c.args.hub.now.1 _ _ (take c.in-Ok-eq0.field-0 c.read.new.buf)
    opened refl refl c.in-Ok-eq0.ensures.stalls c.in-Ok-eq0.ensures.bytes
    (take_none c.self.inside.pending _ c.if-self-gt0.false)
    (take_none c.self.inside.pending _ c.if-self-gt0.false
    ∙ sym (ap (λ n. take n c.read.new.buf) c.in-Ok-eq0.field-0-test)) c.in-Ok-eq0.ensures.written)

pub returns-in-Ok-clause-serves : goal.returns-in-Ok-clause-serves
returns-in-Ok-clause-serves g c =
    let opened = ap (λ (p : Peer). p.is_open) c.self.view_is ∙ c.requires in
    rw (← c.self.view_is) (read_some (g.R.Renderer.page c.args.hub.now.0) c.args.hub.now.1 _ _ (take c.in-Ok.count c.read.new.buf)
    opened opened refl c.in-Ok.ensures.stalls c.in-Ok.ensures.bytes
    (take_none c.self.inside.pending _ c.if-self-gt0.false) refl c.in-Ok.ensures.written)

pub returns-in-Err-clause-serves : goal.returns-in-Err-clause-serves
returns-in-Err-clause-serves g c =
    let opened = ap (λ (p : Peer). p.is_open) c.self.view_is ∙ c.requires in
    rw (c.closed-self-inside.ensures.phase, ← c.self.view_is) (read_failed (g.R.Renderer.page c.args.hub.now.0) c.args.hub.now.1
    c.closed-self-inside.new.hub.1 _ _ c.self.inside.id _ refl c.closed-self-inside.ensures.world opened refl refl c.in-Err.ensures.stalls
    c.in-Err.ensures.bytes
    (take_none c.self.inside.pending _ c.if-self-gt0.false
    ∙ sym (take_none c.self.inside.pending _ c.if-self-gt0.false))
    c.in-Err.ensures.written
    (fault_counts (g.S.Stream.failed c.self.inside.stream) (g.S.Stream.failed c.read.new.self)
    (open_is_fine c.self.inside.phase (g.S.Stream.unread c.self.inside.stream) (g.S.Stream.stalls c.self.inside.stream)
    (g.S.Stream.failed c.self.inside.stream) c.self.invariant.1 opened) c.in-Err.ensures.count))
