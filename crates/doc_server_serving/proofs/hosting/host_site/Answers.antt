use Rattle.std.proofs.Common.{◌≡◌, ◌≤◌, ℕ, subst, sym}
use Rattle.std.specs.Prelude.{Ok, OnOk, option_copied}
use Rattle.std.specs.FinMap as map
use Rattle.doc_server_serving.specs.Hostings.{IsHosted}
use Rattle.doc_server_serving.specs.Hosts.{IsUnused}
use Rattle.doc_server_serving.proofs.Hosted.{hosted, nobody}
use Rattle.doc_server_network.specs.Networks.{end_of_input}
use Rattle.doc_server_serving.specs.Forces.{IsSettledInForce}
use Rattle.doc_server_turns.specs.Wirings.{AreWoken}
use Rattle.doc_server_serving.proofs.hosting.host_site.Goals as goal

pub serve-requires-clause-new : goal.serve-requires-clause-new
serve-requires-clause-new g c =
    let net = c.new-net.result.net in
    nobody c.in_ok-saved.saved.hub.1.given (g.H.Network.Network.came net) (g.H.Network.Network.gone net) (g.H.Network.Network.is_free net)
    c.in_ok-server.server.peers
    (subst (λ n. (k : ℕ) → IsUnused (g.H.Network.Network.came n k) (g.H.Network.Network.gone n k) (g.H.Network.Network.is_free n k))
    (sym c.new-net.ensures.net) c.in_ok-net.ensures) c.in_ok-server.ensures.empty

pub serve-requires-in-None-clause-new : goal.serve-requires-in-None-clause-new
serve-requires-in-None-clause-new g c =
    let net = c.in_ok-net.net in
    nobody c.in_ok-saved.saved.hub.1.given (g.H.Network.Network.came net) (g.H.Network.Network.gone net) (g.H.Network.Network.is_free net)
    c.in_ok-server.server.peers c.in_ok-net.ensures c.in_ok-server.ensures.empty

pub returns-in-None-clause-hosted : goal.returns-in-None-clause-hosted
returns-in-None-clause-hosted g c =
    let end = c.serve-in-None.result in
    hosted g.H.Device.Device.seen g.H.Device.Device.may_leave g.H.Device.Device.failed g.H.Device.Device.stale
    g.H.Device.Device.moment g.H.Device.Device.left_since (g.R.Renderer.page c.args.hub.0) (g.R.Renderer.page c.in_ok-saved.saved.hub.0) (g.H.Host.file c.args.host.now)
    (option_copied c.args.terms.now.journal) c.args.hub.1 c.in_ok-saved.saved end.saved (g.S.Source.answered c.serve-in-None.new.source) (g.H.Network.Network.came end.net)
    (g.H.Network.Network.gone end.net) (end.served ≡ Ok tt) c.in_ok-saved.ensures.same c.in_ok-saved.ensures.ready
    c.serve-in-None.ensures.served
    (λ config is given well. subst (λ r. OnOk r (IsSettledInForce g.H.Device.Device.seen g.H.Device.Device.may_leave
    g.H.Device.Device.failed g.H.Device.Device.stale (g.S.Source.answered c.serve-in-None.new.source) config end.saved)) well
    (c.serve-in-None.ensures.settled config is given))

pub returns-in-Some-clause-hosted : goal.returns-in-Some-clause-hosted
returns-in-Some-clause-hosted g c =
    let end = c.serve.result in
    let is = hosted g.H.Device.Device.seen g.H.Device.Device.may_leave g.H.Device.Device.failed g.H.Device.Device.stale
    g.H.Device.Device.moment g.H.Device.Device.left_since (g.R.Renderer.page c.args.hub.0) (g.R.Renderer.page c.in_ok-saved.saved.hub.0) (g.H.Host.file c.args.host.now)
    (option_copied c.args.terms.now.journal) c.args.hub.1 c.in_ok-saved.saved end.saved (g.S.Source.answered c.serve.new.source) (g.H.Network.Network.came end.net.net)
    (g.H.Network.Network.gone end.net.net) (end.served ≡ Ok tt) c.in_ok-saved.ensures.same c.in_ok-saved.ensures.ready
    c.serve.ensures.served
    (λ config is given well. subst (λ r. OnOk r (IsSettledInForce g.H.Device.Device.seen g.H.Device.Device.may_leave
    g.H.Device.Device.failed g.H.Device.Device.stale (g.S.Source.answered c.serve.new.source) config end.saved)) well
    (c.serve.ensures.settled config is given)) in
    subst (λ served. IsHosted g.H.Device.Device.seen g.H.Device.Device.may_leave g.H.Device.Device.failed g.H.Device.Device.stale
    g.H.Device.Device.moment g.H.Device.Device.left_since (g.S.Source.answered c.serve.new.source) (g.R.Renderer.page c.args.hub.0) (g.H.Host.file c.args.host.now) (option_copied c.args.terms.now.journal) c.args.hub.1
    c.unwatched.result.saved (g.H.Network.Network.came c.unwatched.result.net) (g.H.Network.Network.gone c.unwatched.result.net)
    (served ≡ Ok tt)) (sym c.unwatched.ensures.served)
    (subst (λ net. IsHosted g.H.Device.Device.seen g.H.Device.Device.may_leave g.H.Device.Device.failed g.H.Device.Device.stale
    g.H.Device.Device.moment g.H.Device.Device.left_since (g.S.Source.answered c.serve.new.source) (g.R.Renderer.page c.args.hub.0) (g.H.Host.file c.args.host.now) (option_copied c.args.terms.now.journal) c.args.hub.1
    c.unwatched.result.saved (g.H.Network.Network.came net) (g.H.Network.Network.gone net) (end.served ≡ Ok tt))
    (sym c.unwatched.ensures.net)
    (subst (λ saved. IsHosted g.H.Device.Device.seen g.H.Device.Device.may_leave g.H.Device.Device.failed g.H.Device.Device.stale
    g.H.Device.Device.moment g.H.Device.Device.left_since (g.S.Source.answered c.serve.new.source) (g.R.Renderer.page c.args.hub.0) (g.H.Host.file c.args.host.now) (option_copied c.args.terms.now.journal) c.args.hub.1
    saved (g.H.Network.Network.came end.net.net) (g.H.Network.Network.gone end.net.net) (end.served ≡ Ok tt))
    (sym c.unwatched.ensures.saved) is))

pub returns-in-Some-clause-woken : goal.returns-in-Some-clause-woken
returns-in-Some-clause-woken g c =
    subst (λ net. AreWoken (g.H.Network.Network.wakes net) c.unwatched.result.server.peers) (sym c.unwatched.ensures.net)
    (subst (λ server. AreWoken (g.H.Network.Network.wakes c.serve.result.net.net) server.peers) (sym c.unwatched.ensures.server)
    c.serve.ensures.woken)

pub returns-in-None-clause-bound : goal.returns-in-None-clause-bound
returns-in-None-clause-bound g c =
    subst (λ most. map.len c.serve-in-None.result.server.peers ≤ most) c.in_ok-server.ensures.most c.serve-in-None.ensures.bound

pub returns-in-Some-clause-bound : goal.returns-in-Some-clause-bound
returns-in-Some-clause-bound g c =
    subst (λ server. map.len server.peers ≤ c.args.terms.now.connections) (sym c.unwatched.ensures.server)
    (subst (λ most. map.len c.serve.result.server.peers ≤ most) c.in_ok-server.ensures.most c.serve.ensures.bound)

pub returns-in-Some-clause-ends : goal.returns-in-Some-clause-ends
returns-in-Some-clause-ends g c =
    subst (λ net. OnOk c.unwatched.result.served (g.H.Network.Network.made net end_of_input)) (sym c.unwatched.ensures.net)
    (subst (λ served. OnOk served (g.H.Network.Network.made c.serve.result.net.net end_of_input)) (sym c.unwatched.ensures.served)
    c.serve.ensures.ends)
