use Rattle.std.proofs.Common.{refl, ap, ◌∙◌, subst}
use Rattle.doc_server_rounds.specs.Peers.{Peer, Suits}
use Rattle.doc_server_rounds.proofs.Pieces.{ended, found_more}
use Rattle.doc_server_rounds.proofs.link.Link.finish.Goals as goal

pub returns-in-Ends-clause-serves : goal.returns-in-Ends-clause-serves
returns-in-Ends-clause-serves g c =
    let opened = ap (λ (p : Peer). p.is_open) c.self.view_is ∙ c.requires in
    let dry = (subst (λ phase. Suits phase (g.S.Stream.unread c.self.inside.stream) (g.S.Stream.stalls c.self.inside.stream)
    (g.S.Stream.failed c.self.inside.stream)) c.in-Ends.is c.self.invariant.1).1 in
    rw (c.closed-self-inside.ensures.phase, ← c.self.view_is) (λ w id own h. ended (g.R.Renderer.page c.args.hub.now.0) w c.args.hub.now.1
    c.closed-self-inside.new.hub.1 _ _ c.self.inside.id _ refl opened c.closed-self-inside.ensures.world refl
    (record { id = refl; stalls = refl; unread = refl; pending = refl }) id own h refl dry)

pub returns-in_default : goal.returns-in_default
returns-in_default g c =
    let opened = ap (λ (p : Peer). p.is_open) c.self.view_is ∙ c.requires in
    record {
      serves = rw (← c.self.view_is) (λ w id own h. found_more (g.R.Renderer.page c.args.hub.now.0) w c.args.hub.now.1 _ _ id own opened h
          refl (record { id = refl; stalls = refl; unread = refl; pending = refl }) refl);
      same = refl;
    }
