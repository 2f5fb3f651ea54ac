use Rattle.std.proofs.Common.{refl}
use Rattle.doc_server_serving.proofs.Accepting.{goes_silently, quiet_none}
use Rattle.doc_server_serving.proofs.Fewer.{fewer_turned}
use Rattle.doc_server_serving.proofs.Going.{goes_turns}
use Rattle.doc_server_turns.proofs.Minding.{waits_nobody}
use Rattle.doc_server_turns.proofs.Parting.{more_nobody}
use Rattle.doc_server_turns.proofs.Sites.{same_site}
use Rattle.doc_server_serving.proofs.server.Server.let_over_go.Goals as goal

pub returns-then-not-looks-clause-goes : goal.returns-then-not-looks-clause-goes
returns-then-not-looks-clause-goes g c =
    goes_silently g.R.Renderer.page g.N.Network.came g.N.Network.gone g.N.Network.wakes g.N.Network.is_free c.args.saved.now.hub
    c.args.saved.now.hub c.args.net.now c.args.self.now.peers refl
    (quiet_none (g.R.Renderer.page c.args.saved.now.hub.0) c.args.saved.now.hub.1 c.args.saved.now.hub.1 refl)

pub returns-then-not-looks-clause-site : goal.returns-then-not-looks-clause-site
returns-then-not-looks-clause-site g c = same_site c.args.saved.now.hub.1

pub returns-in_err-collect_over-clause-goes : goal.returns-in_err-collect_over-clause-goes
returns-in_err-collect_over-clause-goes g c =
    goes_silently g.R.Renderer.page g.N.Network.came g.N.Network.gone g.N.Network.wakes g.N.Network.is_free c.args.saved.now.hub
    c.args.saved.now.hub c.args.net.now c.args.self.now.peers refl
    (quiet_none (g.R.Renderer.page c.args.saved.now.hub.0) c.args.saved.now.hub.1 c.args.saved.now.hub.1 refl)

pub returns-in_err-collect_over-clause-site : goal.returns-in_err-collect_over-clause-site
returns-in_err-collect_over-clause-site g c = same_site c.args.saved.now.hub.1

pub returns-clause-goes : goal.returns-clause-goes
returns-clause-goes g c =
    let P = g.R.Renderer.page in let C = g.N.Network.came in let G = g.N.Network.gone in
    let W = g.N.Network.wakes in let F = g.N.Network.is_free in
    goes_turns P C G W F c.args.saved.now.hub c.let_go.new.saved.hub c.args.net.now c.let_go.new.net c.args.self.now.peers c.let_go.new.peers
    c.let_go.ensures.same c.let_go.ensures.woken c.let_go.ensures.free _ c.let_go.ensures.turns

pub returns-clause-fewer : goal.returns-clause-fewer
returns-clause-fewer g c =
    fewer_turned (g.R.Renderer.page c.args.saved.now.hub.0) c.args.saved.now.hub.1 c.let_go.new.saved.hub.1 _
    (g.N.Network.came c.args.net.now) (g.N.Network.came c.let_go.new.net) (g.N.Network.gone c.args.net.now)
    (g.N.Network.gone c.let_go.new.net) c.args.self.now.peers c.let_go.new.peers c.let_go.ensures.turns

pub returns-then-not-looks-clause-waits : goal.returns-then-not-looks-clause-waits
returns-then-not-looks-clause-waits g c = waits_nobody c.args.self.now.peers

pub returns-in_err-collect_over-clause-waits : goal.returns-in_err-collect_over-clause-waits
returns-in_err-collect_over-clause-waits g c = waits_nobody c.args.self.now.peers

pub returns-then-not-looks-clause-no_more : goal.returns-then-not-looks-clause-no_more
returns-then-not-looks-clause-no_more g c = more_nobody c.args.self.now.peers

pub returns-in_err-collect_over-clause-no_more : goal.returns-in_err-collect_over-clause-no_more
returns-in_err-collect_over-clause-no_more g c = more_nobody c.args.self.now.peers
