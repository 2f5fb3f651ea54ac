use Rattle.std.proofs.Common.{refl}
use Rattle.doc_server_network.proofs.Leading.{same_is_unedited}
use Rattle.doc_server_serving.proofs.Accepting.{goes_silently, quiet_none}
use Rattle.doc_server_serving.proofs.server.Server.pass.Goals as goal

pub turn-requires-clause-all : goal.turn-requires-clause-all
turn-requires-clause-all g c = c.requires.all

pub turn-requires-clause-ready : goal.turn-requires-clause-ready
turn-requires-clause-ready g c = c.requires.ready

pub turn-requires-clause-free : goal.turn-requires-clause-free
turn-requires-clause-free g c = c.requires.free

pub returns-then-has_ended-clause-goes : goal.returns-then-has_ended-clause-goes
returns-then-has_ended-clause-goes g c =
    goes_silently g.R.Renderer.page g.N.Network.came g.N.Network.gone g.N.Network.wakes g.N.Network.is_free c.args.saved.now.hub c.args.saved.now.hub
    c.args.net.now c.args.self.now.peers refl
    (quiet_none (g.R.Renderer.page c.args.saved.now.hub.0) c.args.saved.now.hub.1 c.args.saved.now.hub.1 refl)

pub returns-then-has_ended-clause-unedited : goal.returns-then-has_ended-clause-unedited
returns-then-has_ended-clause-unedited g c = same_is_unedited c.args.saved.now c.args.saved.now refl

pub returns-in_err-ends-clause-unedited : goal.returns-in_err-ends-clause-unedited
returns-in_err-ends-clause-unedited g c = c.turn.ensures.unedited refl

pub returns-clause-unedited : goal.returns-clause-unedited
returns-clause-unedited g c = c.turn.ensures.unedited refl
