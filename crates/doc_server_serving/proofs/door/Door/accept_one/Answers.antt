use Rattle.std.proofs.Common.{subst, sym}
use Rattle.doc_server_turns.specs.Hearing.{WaitOn}
use Rattle.doc_server_serving.specs.Invariants.{GoesOn}
use Rattle.doc_server_turns.specs.Parts.{NoMore}
use Rattle.doc_server_turns.specs.Wirings.{Table, new_peer}
use Rattle.doc_server_serving.proofs.Accepting.{free_number, goes_in, goes_not_in, goes_silently, quiet_connect, quiet_drop}
use Rattle.doc_server_serving.proofs.Bounds.{as_many, none_more, one_more}
use Rattle.doc_server_serving.proofs.Going.{goes_join}
use Rattle.doc_server_turns.proofs.Minding.{waits_in, waits_join, waits_nobody, waits_out}
use Rattle.doc_server_turns.proofs.Parting.{more_in, more_join, more_nobody, more_out}
use Rattle.doc_server_turns.proofs.Sites.{connects_same, disconnects_same, same_join}
use Rattle.doc_server_serving.proofs.door.Door.accept_one.Goals as goal

pub asks-requires : goal.asks-requires
asks-requires g c =
    free_number (g.R.Renderer.page c.args.saved.now.hub.0) c.args.saved.now.hub.1 c.connect.new.self.hub.1 c.in-Ok.id
    (g.N.Network.is_free c.args.net.now) c.in-Ok.ensures.world c.requires.free

pub returns-in_default-clause-goes : goal.returns-in_default-clause-goes
returns-in_default-clause-goes g c =
    goes_silently g.R.Renderer.page g.N.Network.came g.N.Network.gone g.N.Network.wakes g.N.Network.is_free c.args.saved.now.hub
    c.connect.new.self.hub c.args.net.now c.args.peers.now c.connect.ensures.same
    (quiet_connect (g.R.Renderer.page c.args.saved.now.hub.0) c.args.saved.now.hub.1 c.connect.new.self.hub.1 c.connect.result
    c.connect.ensures.world)

pub returns-in_default-clause-site : goal.returns-in_default-clause-site
returns-in_default-clause-site g c =
    connects_same (g.R.Renderer.page c.args.saved.now.hub.0) c.args.saved.now.hub.1 c.connect.new.self.hub.1 c.connect.result
    c.connect.ensures.world

pub returns-then-not-admit-clause-goes : goal.returns-then-not-admit-clause-goes
returns-then-not-admit-clause-goes g c =
    let P = g.R.Renderer.page in let C = g.N.Network.came in let G = g.N.Network.gone in
    let W = g.N.Network.wakes in let F = g.N.Network.is_free in
    subst (λ (t : Table). GoesOn P C G W F c.args.saved.now.hub c.disconnect.new.self.hub c.args.net.now c.args.net.now c.args.peers.now t)
    (sym (c.admit.ensures.refused c.if-not-admit.true))
    (goes_join P C G W F c.args.saved.now.hub c.connect.new.self.hub c.disconnect.new.self.hub c.args.net.now c.args.net.now
    c.args.net.now c.args.peers.now c.args.peers.now c.args.peers.now
    (goes_silently P C G W F c.args.saved.now.hub c.connect.new.self.hub c.args.net.now c.args.peers.now c.connect.ensures.same
    (quiet_connect (P c.args.saved.now.hub.0) c.args.saved.now.hub.1 c.connect.new.self.hub.1 c.connect.result c.connect.ensures.world))
    (goes_silently P C G W F c.connect.new.self.hub c.disconnect.new.self.hub c.args.net.now c.args.peers.now c.disconnect.ensures.same
    (quiet_drop (P c.connect.new.self.hub.0) c.connect.new.self.hub.1 c.disconnect.new.self.hub.1 c.in-Ok.id c.disconnect.result
    c.disconnect.ensures.world)))

pub returns-then-not-admit-clause-site : goal.returns-then-not-admit-clause-site
returns-then-not-admit-clause-site g c =
    same_join c.args.saved.now.hub.1 c.connect.new.self.hub.1 c.disconnect.new.self.hub.1
    (connects_same (g.R.Renderer.page c.args.saved.now.hub.0) c.args.saved.now.hub.1 c.connect.new.self.hub.1 c.connect.result
    c.connect.ensures.world)
    (disconnects_same (g.R.Renderer.page c.connect.new.self.hub.0) c.connect.new.self.hub.1 c.disconnect.new.self.hub.1 c.in-Ok.id
    c.disconnect.result c.disconnect.ensures.world)

pub returns-then-asks-clause-goes : goal.returns-then-asks-clause-goes
returns-then-asks-clause-goes g c =
    goes_in g.R.Renderer.page g.N.Network.came g.N.Network.gone g.N.Network.wakes g.N.Network.is_free c.args.saved.now.hub
    c.connect.new.self.hub c.args.net.now c.asks.new.net c.in-Ok.id c.args.peers.now c.admit.new.self c.connect.ensures.same
    c.in-Ok.ensures.world (c.admit.ensures.taken c.if-not-admit.false) c.asks.ensures.came c.asks.ensures.gone c.asks.ensures.wakes
    (c.asks.ensures.arms c.if-asks.true) c.asks.ensures.free

pub returns-then-asks-clause-site : goal.returns-then-asks-clause-site
returns-then-asks-clause-site g c =
    connects_same (g.R.Renderer.page c.args.saved.now.hub.0) c.args.saved.now.hub.1 c.connect.new.self.hub.1 c.connect.result
    c.connect.ensures.world

pub returns-clause-goes : goal.returns-clause-goes
returns-clause-goes g c =
    let P = g.R.Renderer.page in let C = g.N.Network.came in let G = g.N.Network.gone in
    let W = g.N.Network.wakes in let F = g.N.Network.is_free in
    goes_join P C G W F c.args.saved.now.hub c.connect.new.self.hub c.disconnect-2.new.self.hub c.args.net.now c.args.net.now
    c.asks.new.net c.args.peers.now c.args.peers.now c.remove.new.self
    (goes_silently P C G W F c.args.saved.now.hub c.connect.new.self.hub c.args.net.now c.args.peers.now c.connect.ensures.same
    (quiet_connect (P c.args.saved.now.hub.0) c.args.saved.now.hub.1 c.connect.new.self.hub.1 c.connect.result c.connect.ensures.world))
    (goes_not_in P C G W F c.connect.new.self.hub c.disconnect-2.new.self.hub c.args.net.now c.asks.new.net c.in-Ok.id c.args.peers.now
    c.admit.new.self c.remove.new.self c.disconnect-2.ensures.same c.disconnect-2.result c.disconnect-2.ensures.world
    (c.admit.ensures.taken c.if-not-admit.false) c.remove.ensures c.asks.ensures.came c.asks.ensures.gone c.asks.ensures.wakes
    c.asks.ensures.free (c.asks.ensures.refused c.if-asks.false))

pub returns-clause-site : goal.returns-clause-site
returns-clause-site g c =
    same_join c.args.saved.now.hub.1 c.connect.new.self.hub.1 c.disconnect-2.new.self.hub.1
    (connects_same (g.R.Renderer.page c.args.saved.now.hub.0) c.args.saved.now.hub.1 c.connect.new.self.hub.1 c.connect.result
    c.connect.ensures.world)
    (disconnects_same (g.R.Renderer.page c.connect.new.self.hub.0) c.connect.new.self.hub.1 c.disconnect-2.new.self.hub.1 c.in-Ok.id
    c.disconnect-2.result c.disconnect-2.ensures.world)

pub returns-then-not-admit-clause-more : goal.returns-then-not-admit-clause-more
returns-then-not-admit-clause-more g c = as_many c.args.peers.now c.admit.new.self (c.admit.ensures.refused c.if-not-admit.true)

pub returns-then-asks-clause-more : goal.returns-then-asks-clause-more
returns-then-asks-clause-more g c =
    one_more c.args.peers.now c.admit.new.self c.in-Ok.id.0 new_peer (c.admit.ensures.taken c.if-not-admit.false)

pub returns-clause-more : goal.returns-clause-more
returns-clause-more g c =
    none_more c.args.peers.now c.admit.new.self c.remove.new.self c.in-Ok.id.0 new_peer (c.admit.ensures.taken c.if-not-admit.false)
    c.remove.ensures

pub returns-in_default-clause-waits : goal.returns-in_default-clause-waits
returns-in_default-clause-waits g c = waits_nobody c.args.peers.now

pub returns-then-not-admit-clause-waits : goal.returns-then-not-admit-clause-waits
returns-then-not-admit-clause-waits g c =
    subst (WaitOn c.args.peers.now) (sym (c.admit.ensures.refused c.if-not-admit.true)) (waits_nobody c.args.peers.now)

pub returns-then-asks-clause-waits : goal.returns-then-asks-clause-waits
returns-then-asks-clause-waits g c =
    waits_in c.args.peers.now c.admit.new.self c.in-Ok.id.0 (c.admit.ensures.taken c.if-not-admit.false)

pub returns-clause-waits : goal.returns-clause-waits
returns-clause-waits g c =
    waits_join c.args.peers.now c.admit.new.self c.remove.new.self
    (waits_in c.args.peers.now c.admit.new.self c.in-Ok.id.0 (c.admit.ensures.taken c.if-not-admit.false))
    (waits_out c.admit.new.self c.remove.new.self c.in-Ok.id.0 c.remove.ensures)

pub returns-in_default-clause-no_more : goal.returns-in_default-clause-no_more
returns-in_default-clause-no_more g c = more_nobody c.args.peers.now

pub returns-then-not-admit-clause-no_more : goal.returns-then-not-admit-clause-no_more
returns-then-not-admit-clause-no_more g c =
    subst (NoMore c.args.peers.now) (sym (c.admit.ensures.refused c.if-not-admit.true)) (more_nobody c.args.peers.now)

pub returns-then-asks-clause-no_more : goal.returns-then-asks-clause-no_more
returns-then-asks-clause-no_more g c =
    more_in c.args.peers.now c.admit.new.self c.in-Ok.id.0 (c.admit.ensures.taken c.if-not-admit.false)

pub returns-clause-no_more : goal.returns-clause-no_more
returns-clause-no_more g c =
    more_join c.args.peers.now c.admit.new.self c.remove.new.self
    (more_in c.args.peers.now c.admit.new.self c.in-Ok.id.0 (c.admit.ensures.taken c.if-not-admit.false))
    (more_out c.admit.new.self c.remove.new.self c.in-Ok.id.0 c.remove.ensures)
