use Rattle.std.proofs.Common.{refl, sym, ◌∙◌, ◌∷◌, []}
use Rattle.std.specs.FinMap as map
use Rattle.doc_hub_events.specs.declared.event.ConnId.{ConnId}
use Rattle.doc_server_turns.proofs.LeavingSteps.{leaves, leaves_nobody, woken_left}
use Rattle.doc_server_turns.proofs.Minding.{out_here, out_still, stands_not, waits_nobody, waits_out}
use Rattle.doc_server_turns.proofs.Parting.{more_nobody, more_out}
use Rattle.doc_server_turns.proofs.Sites.{disconnects_same, same_site}
use Rattle.doc_server_turns.proofs.letting_go.let_one_go.Goals as goal

pub returns-then-not-has-clause-turns : goal.returns-then-not-has-clause-turns
returns-then-not-has-clause-turns g c =
    leaves_nobody (g.R.Renderer.page c.args.saved.now.hub.0) c.args.saved.now.hub.1 (c.args.id ∷ []) (g.N.Network.came c.args.net.now)
    (g.N.Network.came c.args.net.now) (g.N.Network.gone c.args.net.now) (g.N.Network.gone c.args.net.now) c.args.peers.now (λ k. refl)
    (λ k. refl)

pub returns-clause-turns : goal.returns-clause-turns
returns-clause-turns g c =
    let id : ConnId = record { 0 = c.args.id } in
    leaves (g.R.Renderer.page c.args.saved.now.hub.0) c.args.saved.now.hub.1 c.disconnect.new.self.hub.1 id _
    (g.N.Network.came c.args.net.now) (g.N.Network.came c.close.new.self) (g.N.Network.gone c.args.net.now)
    (g.N.Network.gone c.close.new.self) c.args.peers.now c.remove.new.self (sym c.has.ensures ∙ c.if-not-has.false)
    c.remove.ensures c.disconnect.ensures.world c.close.ensures.came c.close.ensures.gone

pub returns-clause-woken : goal.returns-clause-woken
returns-clause-woken g c =
    woken_left (g.N.Network.wakes c.args.net.now) (g.N.Network.wakes c.close.new.self) c.args.peers.now c.remove.new.self c.args.id
    c.remove.ensures c.close.ensures.wakes

pub returns-then-not-has-clause-site : goal.returns-then-not-has-clause-site
returns-then-not-has-clause-site g c = same_site c.args.saved.now.hub.1

pub returns-clause-site : goal.returns-clause-site
returns-clause-site g c =
    let id : ConnId = record { 0 = c.args.id } in
    disconnects_same (g.R.Renderer.page c.args.saved.now.hub.0) c.args.saved.now.hub.1 c.disconnect.new.self.hub.1 id _
    c.disconnect.ensures.world

pub returns-then-not-has-clause-gone : goal.returns-then-not-has-clause-gone
returns-then-not-has-clause-gone g c = stands_not (map.get c.args.peers.now c.args.id) (sym c.has.ensures ∙ c.if-not-has.true)

pub returns-clause-gone : goal.returns-clause-gone
returns-clause-gone g c = out_here c.args.peers.now c.remove.new.self c.args.id c.remove.ensures

pub returns-clause-out : goal.returns-clause-out
returns-clause-out g c = out_still c.args.peers.now c.remove.new.self c.args.id c.remove.ensures

pub returns-then-not-has-clause-waits : goal.returns-then-not-has-clause-waits
returns-then-not-has-clause-waits g c = waits_nobody c.args.peers.now

pub returns-clause-waits : goal.returns-clause-waits
returns-clause-waits g c = waits_out c.args.peers.now c.remove.new.self c.args.id c.remove.ensures

pub returns-then-not-has-clause-no_more : goal.returns-then-not-has-clause-no_more
returns-then-not-has-clause-no_more g c = more_nobody c.args.peers.now

pub returns-clause-no_more : goal.returns-clause-no_more
returns-clause-no_more g c = more_out c.args.peers.now c.remove.new.self c.args.id c.remove.ensures
