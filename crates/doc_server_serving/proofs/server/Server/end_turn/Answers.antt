use Rattle.std.proofs.Common.{◌≤◌, arith, subst, ◌∙◌}
use Rattle.std.specs.FinMap as map
use Rattle.doc_server_serving.proofs.Asking.{asked_below, none_less}
use Rattle.doc_server_serving.proofs.Fewer.{fewer_swept}
use Rattle.doc_server_serving.proofs.Going.{goes_join, goes_swept}
use Rattle.doc_server_turns.proofs.Minding.{waits_join, waits_swept}
use Rattle.doc_server_turns.proofs.Parting.{minded_more}
use Rattle.doc_server_turns.proofs.Sites.{same_join}
use Rattle.doc_server_serving.proofs.server.Server.end_turn.Goals as goal

pub returns-in_err-is_swept-clause-goes : goal.returns-in_err-is_swept-clause-goes
returns-in_err-is_swept-clause-goes g c =
    let P = g.R.Renderer.page in let C = g.N.Network.came in let G = g.N.Network.gone in
    let W = g.N.Network.wakes in let F = g.N.Network.is_free in
    goes_swept P C G W F c.args.saved.now.hub c.args.net.now c.args.self.now.peers c.sweep.new.self.peers
    c.sweep.ensures.swept

pub returns-in_err-is_swept-clause-bound : goal.returns-in_err-is_swept-clause-bound
returns-in_err-is_swept-clause-bound g c =
    λ le. omega (arith, le, fewer_swept c.args.self.now.peers c.sweep.new.self.peers c.sweep.ensures.swept)

pub returns-in_err-let_over_go-clause-goes : goal.returns-in_err-let_over_go-clause-goes
returns-in_err-let_over_go-clause-goes g c =
    let P = g.R.Renderer.page in let C = g.N.Network.came in let G = g.N.Network.gone in
    let W = g.N.Network.wakes in let F = g.N.Network.is_free in
    goes_join P C G W F c.args.saved.now.hub c.args.saved.now.hub c.let_over_go.new.saved.hub c.args.net.now c.args.net.now
    c.let_over_go.new.net c.args.self.now.peers c.sweep.new.self.peers c.let_over_go.new.self.peers
    (goes_swept P C G W F c.args.saved.now.hub c.args.net.now c.args.self.now.peers c.sweep.new.self.peers
    c.sweep.ensures.swept) c.let_over_go.ensures.goes

pub returns-in_err-let_over_go-clause-bound : goal.returns-in_err-let_over_go-clause-bound
returns-in_err-let_over_go-clause-bound g c =
    λ le.
    omega (
      arith,
      le,
      fewer_swept c.args.self.now.peers c.sweep.new.self.peers c.sweep.ensures.swept,
      c.let_over_go.ensures.fewer,
    )

pub accept-requires : goal.accept-requires
accept-requires g c = record { free = c.let_over_go.ensures.goes.free c.requires.free }

pub returns-clause-goes : goal.returns-clause-goes
returns-clause-goes g c =
    let P = g.R.Renderer.page in let C = g.N.Network.came in let G = g.N.Network.gone in
    let W = g.N.Network.wakes in let F = g.N.Network.is_free in
    goes_join P C G W F c.args.saved.now.hub c.args.saved.now.hub c.accept.new.saved.hub c.args.net.now c.args.net.now c.accept.new.net
    c.args.self.now.peers c.sweep.new.self.peers c.accept.new.peers
    (goes_swept P C G W F c.args.saved.now.hub c.args.net.now c.args.self.now.peers c.sweep.new.self.peers
    c.sweep.ensures.swept)
    (goes_join P C G W F c.args.saved.now.hub c.let_over_go.new.saved.hub c.accept.new.saved.hub c.args.net.now c.let_over_go.new.net
    c.accept.new.net c.sweep.new.self.peers c.let_over_go.new.self.peers c.accept.new.peers
    c.let_over_go.ensures.goes c.accept.ensures.goes)

pub returns-clause-site : goal.returns-clause-site
returns-clause-site g c =
    same_join c.args.saved.now.hub.1 c.let_over_go.new.saved.hub.1 c.accept.new.saved.hub.1 c.let_over_go.ensures.site c.accept.ensures.site

pub returns-clause-bound : goal.returns-clause-bound
returns-clause-bound g c =
    λ le.
    let swept = fewer_swept c.args.self.now.peers c.sweep.new.self.peers c.sweep.ensures.swept in
    let most = c.let_over_go.ensures.most ∙ c.sweep.ensures.most in
    subst (λ n. map.len c.accept.new.peers ≤ n) most
    (c.accept.ensures.bound (omega (arith, le, swept, c.let_over_go.ensures.fewer, most)))

pub returns-in_err-is_swept-clause-waits : goal.returns-in_err-is_swept-clause-waits
returns-in_err-is_swept-clause-waits g c = waits_swept c.args.self.now.peers c.sweep.new.self.peers c.sweep.ensures.swept

pub returns-in_err-let_over_go-clause-waits : goal.returns-in_err-let_over_go-clause-waits
returns-in_err-let_over_go-clause-waits g c =
    waits_join c.args.self.now.peers c.sweep.new.self.peers c.let_over_go.new.self.peers
    (waits_swept c.args.self.now.peers c.sweep.new.self.peers c.sweep.ensures.swept) c.let_over_go.ensures.waits

pub returns-clause-waits : goal.returns-clause-waits
returns-clause-waits g c =
    waits_join c.args.self.now.peers c.sweep.new.self.peers c.accept.new.peers
    (waits_swept c.args.self.now.peers c.sweep.new.self.peers c.sweep.ensures.swept)
    (waits_join c.sweep.new.self.peers c.let_over_go.new.self.peers c.accept.new.peers c.let_over_go.ensures.waits c.accept.ensures.waits)

pub returns-clause-asked : goal.returns-clause-asked
returns-clause-asked g c =
    λ still. asked_below c.args.saved.now.hub.1.given c.let_over_go.new.saved.hub.1.given (g.N.Network.made c.accept.new.net)
    (none_less g.R.Renderer.page g.N.Network.came g.N.Network.gone g.N.Network.wakes g.N.Network.is_free c.args.saved.now.hub
    c.let_over_go.new.saved.hub c.args.net.now c.let_over_go.new.net c.sweep.new.self.peers c.let_over_go.new.self.peers
    c.let_over_go.ensures.goes) (c.accept.ensures.asked still)

pub returns-clause-minds : goal.returns-clause-minds
returns-clause-minds g c =
    λ minded.
    minded_more c.sweep.new.self.peers c.accept.new.peers c.sweep.new.next.goes_on
    (λ k part. c.let_over_go.ensures.no_more k (c.accept.ensures.no_more k part)) (c.in_ok-is_swept.ensures.minds minded)
