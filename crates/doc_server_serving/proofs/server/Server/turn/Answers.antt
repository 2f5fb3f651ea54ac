use Rattle.std.proofs.Common.{refl, ◌≤◌, ℕ, ap, arith, subst, sym, ◌∙◌}
use Rattle.std.specs.FinMap as map
use Rattle.doc_server_turns.specs.Hearing.{IsMinded}
use Rattle.doc_server_serving.specs.declared.next_turn.NextTurn.{NextTurn}
use Rattle.doc_server_serving.proofs.Asking.{asked_below, none_less, waited_still}
use Rattle.doc_server_serving.proofs.Crashing.{ended_behind, nothing_written, room_before, served_behind}
use Rattle.doc_server_serving.proofs.Fewer.{fewer_given}
use Rattle.doc_server_serving.proofs.Going.{goes_join}
use Rattle.doc_server_turns.proofs.Minding.{minded, minded_on}
use Rattle.doc_server_turns.proofs.Sites.{all_saved_too, settled_too}
use Rattle.doc_server_serving.proofs.Turning.{goes_begun, goes_looked, goes_waited}
use Rattle.doc_server_network.proofs.Leading.{same_is_unedited, unedited_behind}
use Rattle.doc_server_serving.proofs.server.Server.turn.Goals as goal

pub look-requires-clause-all : goal.look-requires-clause-all
look-requires-clause-all g c =
    c.requires.all

pub look-requires-clause-ready : goal.look-requires-clause-ready
look-requires-clause-ready g c =
    c.requires.ready

pub serve_ready-requires-clause-all : goal.serve_ready-requires-clause-all
serve_ready-requires-clause-all g c =
    c.in_ok-look.ensures.all

pub serve_ready-requires-clause-ready : goal.serve_ready-requires-clause-ready
serve_ready-requires-clause-ready g c =
    c.in_ok-look.ensures.ready

pub end_turn-requires : goal.end_turn-requires
end_turn-requires g c =
    record {
      free = (goes_join g.R.Renderer.page g.N.Network.came g.N.Network.gone g.N.Network.wakes g.N.Network.is_free c.args.saved.now.hub c.look.new.saved.hub c.serve_ready.new.saved.hub
          c.args.net.now c.wake_told-news.new.net c.serve_ready.new.net c.args.self.now.peers c.wake_told-news.new.peers c.serve_ready.new.self.peers
          (goes_begun g.R.Renderer.page g.N.Network.came g.N.Network.gone g.N.Network.wakes g.N.Network.is_free c.args.saved.now.hub c.look.new.saved.hub c.args.net.now c.wait.new.self
          c.wake_told-news.new.net c.args.self.now.peers c.wake_told-news.new.peers c.wait.ensures.wakes c.wait.ensures.free c.wait.ensures.came c.wait.ensures.gone
          c.look.ensures.same c.look.ensures.quiet (g.N.Network.has_ended c.wake_told-news.new.net) c.wake_told-news.ensures.gives
          c.wake_told-news.ensures.came c.wake_told-news.ensures.gone c.wake_told-news.ensures.woken c.wake_told-news.ensures.free)
          c.serve_ready.ensures.goes).free c.requires.free;
    }

pub returns-in_err-wait-clause-goes : goal.returns-in_err-wait-clause-goes
returns-in_err-wait-clause-goes g c =
    goes_waited g.R.Renderer.page g.N.Network.came g.N.Network.gone g.N.Network.wakes g.N.Network.is_free c.args.saved.now.hub c.args.net.now c.wait.new.self c.args.self.now.peers
    c.wait.ensures.wakes c.wait.ensures.free c.wait.ensures.came c.wait.ensures.gone

pub returns-in_err-look-clause-goes : goal.returns-in_err-look-clause-goes
returns-in_err-look-clause-goes g c =
    goes_looked g.R.Renderer.page g.N.Network.came g.N.Network.gone g.N.Network.wakes g.N.Network.is_free c.args.saved.now.hub c.look.new.saved.hub c.args.net.now c.wait.new.self
    c.args.self.now.peers c.wait.ensures.wakes c.wait.ensures.free c.wait.ensures.came c.wait.ensures.gone
    c.look.ensures.same c.look.ensures.quiet

pub returns-in_err-serve_ready-clause-goes : goal.returns-in_err-serve_ready-clause-goes
returns-in_err-serve_ready-clause-goes g c =
    goes_join g.R.Renderer.page g.N.Network.came g.N.Network.gone g.N.Network.wakes g.N.Network.is_free c.args.saved.now.hub c.look.new.saved.hub c.serve_ready.new.saved.hub
    c.args.net.now c.wake_told-news.new.net c.serve_ready.new.net c.args.self.now.peers c.wake_told-news.new.peers c.serve_ready.new.self.peers
    (goes_begun g.R.Renderer.page g.N.Network.came g.N.Network.gone g.N.Network.wakes g.N.Network.is_free c.args.saved.now.hub c.look.new.saved.hub c.args.net.now c.wait.new.self
    c.wake_told-news.new.net c.args.self.now.peers c.wake_told-news.new.peers c.wait.ensures.wakes c.wait.ensures.free c.wait.ensures.came c.wait.ensures.gone
    c.look.ensures.same c.look.ensures.quiet (g.N.Network.has_ended c.wake_told-news.new.net) c.wake_told-news.ensures.gives
    c.wake_told-news.ensures.came c.wake_told-news.ensures.gone c.wake_told-news.ensures.woken c.wake_told-news.ensures.free)
    c.serve_ready.ensures.goes

pub returns-then-ends-clause-goes : goal.returns-then-ends-clause-goes
returns-then-ends-clause-goes g c =
    goes_join g.R.Renderer.page g.N.Network.came g.N.Network.gone g.N.Network.wakes g.N.Network.is_free c.args.saved.now.hub c.look.new.saved.hub c.serve_ready.new.saved.hub
    c.args.net.now c.wake_told-news.new.net c.serve_ready.new.net c.args.self.now.peers c.wake_told-news.new.peers c.serve_ready.new.self.peers
    (goes_begun g.R.Renderer.page g.N.Network.came g.N.Network.gone g.N.Network.wakes g.N.Network.is_free c.args.saved.now.hub c.look.new.saved.hub c.args.net.now c.wait.new.self
    c.wake_told-news.new.net c.args.self.now.peers c.wake_told-news.new.peers c.wait.ensures.wakes c.wait.ensures.free c.wait.ensures.came c.wait.ensures.gone
    c.look.ensures.same c.look.ensures.quiet (g.N.Network.has_ended c.wake_told-news.new.net) c.wake_told-news.ensures.gives
    c.wake_told-news.ensures.came c.wake_told-news.ensures.gone c.wake_told-news.ensures.woken c.wake_told-news.ensures.free)
    c.serve_ready.ensures.goes

pub returns-in_err-end_turn-clause-goes : goal.returns-in_err-end_turn-clause-goes
returns-in_err-end_turn-clause-goes g c =
    goes_join g.R.Renderer.page g.N.Network.came g.N.Network.gone g.N.Network.wakes g.N.Network.is_free c.args.saved.now.hub c.serve_ready.new.saved.hub c.end_turn.new.saved.hub
    c.args.net.now c.serve_ready.new.net c.end_turn.new.net c.args.self.now.peers c.serve_ready.new.self.peers c.end_turn.new.self.peers
    (goes_join g.R.Renderer.page g.N.Network.came g.N.Network.gone g.N.Network.wakes g.N.Network.is_free c.args.saved.now.hub c.look.new.saved.hub c.serve_ready.new.saved.hub
    c.args.net.now c.wake_told-news.new.net c.serve_ready.new.net c.args.self.now.peers c.wake_told-news.new.peers c.serve_ready.new.self.peers
    (goes_begun g.R.Renderer.page g.N.Network.came g.N.Network.gone g.N.Network.wakes g.N.Network.is_free c.args.saved.now.hub c.look.new.saved.hub c.args.net.now c.wait.new.self
    c.wake_told-news.new.net c.args.self.now.peers c.wake_told-news.new.peers c.wait.ensures.wakes c.wait.ensures.free c.wait.ensures.came c.wait.ensures.gone
    c.look.ensures.same c.look.ensures.quiet (g.N.Network.has_ended c.wake_told-news.new.net) c.wake_told-news.ensures.gives
    c.wake_told-news.ensures.came c.wake_told-news.ensures.gone c.wake_told-news.ensures.woken c.wake_told-news.ensures.free)
    c.serve_ready.ensures.goes)
    c.end_turn.ensures.goes

pub returns-clause-goes : goal.returns-clause-goes
returns-clause-goes g c =
    goes_join g.R.Renderer.page g.N.Network.came g.N.Network.gone g.N.Network.wakes g.N.Network.is_free c.args.saved.now.hub c.serve_ready.new.saved.hub c.end_turn.new.saved.hub
    c.args.net.now c.serve_ready.new.net c.end_turn.new.net c.args.self.now.peers c.serve_ready.new.self.peers c.end_turn.new.self.peers
    (goes_join g.R.Renderer.page g.N.Network.came g.N.Network.gone g.N.Network.wakes g.N.Network.is_free c.args.saved.now.hub c.look.new.saved.hub c.serve_ready.new.saved.hub
    c.args.net.now c.wake_told-news.new.net c.serve_ready.new.net c.args.self.now.peers c.wake_told-news.new.peers c.serve_ready.new.self.peers
    (goes_begun g.R.Renderer.page g.N.Network.came g.N.Network.gone g.N.Network.wakes g.N.Network.is_free c.args.saved.now.hub c.look.new.saved.hub c.args.net.now c.wait.new.self
    c.wake_told-news.new.net c.args.self.now.peers c.wake_told-news.new.peers c.wait.ensures.wakes c.wait.ensures.free c.wait.ensures.came c.wait.ensures.gone
    c.look.ensures.same c.look.ensures.quiet (g.N.Network.has_ended c.wake_told-news.new.net) c.wake_told-news.ensures.gives
    c.wake_told-news.ensures.came c.wake_told-news.ensures.gone c.wake_told-news.ensures.woken c.wake_told-news.ensures.free)
    c.serve_ready.ensures.goes)
    c.end_turn.ensures.goes

pub returns-then-ends-clause-settled : goal.returns-then-ends-clause-settled
returns-then-ends-clause-settled g c =
    λ config is. c.in_ok-serve_ready.ensures.settled config (c.in_ok-look.ensures.settled config is)

pub returns-clause-all : goal.returns-clause-all
returns-clause-all g c =
    all_saved_too g.D.Device.seen g.D.Device.may_leave g.D.Device.failed g.D.Device.stale c.serve_ready.new.saved c.end_turn.new.saved
    c.end_turn.ensures.journal c.end_turn.ensures.unsaved c.in_ok-serve_ready.ensures.all

pub returns-clause-ready : goal.returns-clause-ready
returns-clause-ready g c =
    c.end_turn.ensures.ready c.in_ok-serve_ready.ensures.ready

pub returns-clause-settled : goal.returns-clause-settled
returns-clause-settled g c =
    λ config is.
    settled_too g.D.Device.seen g.D.Device.may_leave g.D.Device.failed g.D.Device.stale config c.serve_ready.new.saved
    c.end_turn.new.saved c.end_turn.ensures.site c.end_turn.ensures.saved c.end_turn.ensures.journal c.end_turn.ensures.unsaved
    (c.in_ok-serve_ready.ensures.settled config (c.in_ok-look.ensures.settled config is))

pub returns-in_err-serve_ready-clause-bound : goal.returns-in_err-serve_ready-clause-bound
returns-in_err-serve_ready-clause-bound g c =
    λ le.
    let told = fewer_given (g.N.Network.gone c.wait.new.self) (g.N.Network.gone c.wake_told-news.new.net)
    (g.N.Network.has_ended c.wake_told-news.new.net) c.args.self.now.peers c.wake_told-news.new.peers c.wake_told-news.ensures.gives in
    omega (arith, le, told, c.serve_ready.ensures.fewer)

pub returns-then-ends-clause-bound : goal.returns-then-ends-clause-bound
returns-then-ends-clause-bound g c =
    λ le.
    let told = fewer_given (g.N.Network.gone c.wait.new.self) (g.N.Network.gone c.wake_told-news.new.net)
    (g.N.Network.has_ended c.wake_told-news.new.net) c.args.self.now.peers c.wake_told-news.new.peers c.wake_told-news.ensures.gives in
    omega (arith, le, told, c.serve_ready.ensures.fewer)

pub returns-in_err-end_turn-clause-bound : goal.returns-in_err-end_turn-clause-bound
returns-in_err-end_turn-clause-bound g c =
    λ le.
    let told = fewer_given (g.N.Network.gone c.wait.new.self) (g.N.Network.gone c.wake_told-news.new.net)
    (g.N.Network.has_ended c.wake_told-news.new.net) c.args.self.now.peers c.wake_told-news.new.peers c.wake_told-news.ensures.gives in
    let most = c.serve_ready.ensures.most ∙ ap (λ d. d.most) c.hear.ensures in
    subst (λ n. map.len c.end_turn.new.self.peers ≤ n) most
    (c.end_turn.ensures.bound (omega (arith, le, told, c.serve_ready.ensures.fewer, most)))

pub returns-clause-bound : goal.returns-clause-bound
returns-clause-bound g c =
    λ le.
    let told = fewer_given (g.N.Network.gone c.wait.new.self) (g.N.Network.gone c.wake_told-news.new.net)
    (g.N.Network.has_ended c.wake_told-news.new.net) c.args.self.now.peers c.wake_told-news.new.peers c.wake_told-news.ensures.gives in
    let most = c.serve_ready.ensures.most ∙ ap (λ d. d.most) c.hear.ensures in
    subst (λ n. map.len c.end_turn.new.self.peers ≤ n) most
    (c.end_turn.ensures.bound (omega (arith, le, told, c.serve_ready.ensures.fewer, most)))

pub returns-in_err-wait-clause-any_moment : goal.returns-in_err-wait-clause-any_moment
returns-in_err-wait-clause-any_moment g c =
    λ config all is.
    nothing_written g.D.Device.seen g.D.Device.moment g.D.Device.left_since g.D.Device.may_leave g.D.Device.failed g.D.Device.stale g.met.D.Device.only_now
    config c.args.saved.now.hub.1 c.args.saved.now.journal c.args.saved.now.unsaved is.0

pub returns-in_err-look-clause-any_moment : goal.returns-in_err-look-clause-any_moment
returns-in_err-look-clause-any_moment g c =
    λ config all is.
    room_before g.D.Device.seen g.D.Device.moment g.D.Device.left_since config c.args.saved.now.hub.1 c.look.new.saved.hub.1
    c.look.new.saved.hub.1 c.args.saved.now.journal c.look.new.saved.journal c.look.new.saved.journal
    (c.look.ensures.any_moment config c.args.saved.now.hub.1 is.0)

pub returns-in_err-serve_ready-clause-any_moment : goal.returns-in_err-serve_ready-clause-any_moment
returns-in_err-serve_ready-clause-any_moment g c =
    λ config all is.
    served_behind g.D.Device.seen g.D.Device.moment g.D.Device.left_since config c.args.saved.now.hub.1 c.look.new.saved.hub.1
    c.serve_ready.new.saved.hub.1 c.args.saved.now.journal c.look.new.saved.journal c.serve_ready.new.saved.journal all c.look.ensures.site
    (c.look.ensures.any_moment config c.args.saved.now.hub.1 is.0)
    (c.serve_ready.ensures.any_moment config all (c.in_ok-look.ensures.settled config is))

pub returns-then-ends-clause-any_moment : goal.returns-then-ends-clause-any_moment
returns-then-ends-clause-any_moment g c =
    λ config all is.
    served_behind g.D.Device.seen g.D.Device.moment g.D.Device.left_since config c.args.saved.now.hub.1 c.look.new.saved.hub.1
    c.serve_ready.new.saved.hub.1 c.args.saved.now.journal c.look.new.saved.journal c.serve_ready.new.saved.journal all c.look.ensures.site
    (c.look.ensures.any_moment config c.args.saved.now.hub.1 is.0)
    (c.serve_ready.ensures.any_moment config all (c.in_ok-look.ensures.settled config is))

pub returns-in_err-end_turn-clause-any_moment : goal.returns-in_err-end_turn-clause-any_moment
returns-in_err-end_turn-clause-any_moment g c =
    λ config all is.
    ended_behind g.D.Device.seen g.D.Device.moment g.D.Device.left_since config c.args.saved.now.hub.1 c.serve_ready.new.saved.hub.1
    c.end_turn.new.saved.hub.1 c.args.saved.now.journal c.serve_ready.new.saved.journal c.end_turn.new.saved.journal
    c.end_turn.ensures.site c.end_turn.ensures.journal
    (served_behind g.D.Device.seen g.D.Device.moment g.D.Device.left_since config c.args.saved.now.hub.1 c.look.new.saved.hub.1
    c.serve_ready.new.saved.hub.1 c.args.saved.now.journal c.look.new.saved.journal c.serve_ready.new.saved.journal all c.look.ensures.site
    (c.look.ensures.any_moment config c.args.saved.now.hub.1 is.0)
    (c.serve_ready.ensures.any_moment config all (c.in_ok-look.ensures.settled config is)))

pub returns-clause-any_moment : goal.returns-clause-any_moment
returns-clause-any_moment g c =
    λ config all is.
    ended_behind g.D.Device.seen g.D.Device.moment g.D.Device.left_since config c.args.saved.now.hub.1 c.serve_ready.new.saved.hub.1
    c.end_turn.new.saved.hub.1 c.args.saved.now.journal c.serve_ready.new.saved.journal c.end_turn.new.saved.journal
    c.end_turn.ensures.site c.end_turn.ensures.journal
    (served_behind g.D.Device.seen g.D.Device.moment g.D.Device.left_since config c.args.saved.now.hub.1 c.look.new.saved.hub.1
    c.serve_ready.new.saved.hub.1 c.args.saved.now.journal c.look.new.saved.journal c.serve_ready.new.saved.journal all c.look.ensures.site
    (c.look.ensures.any_moment config c.args.saved.now.hub.1 is.0)
    (c.serve_ready.ensures.any_moment config all (c.in_ok-look.ensures.settled config is)))

pub returns-then-ends-clause-heard : goal.returns-then-ends-clause-heard
returns-then-ends-clause-heard g c =
    let P = g.R.Renderer.page in let C = g.N.Network.came in let G = g.N.Network.gone in
    let W = g.N.Network.wakes in let F = g.N.Network.is_free in
    let begun = goes_begun P C G W F c.args.saved.now.hub c.look.new.saved.hub c.args.net.now c.wait.new.self c.wake_told-news.new.net
    c.args.self.now.peers c.wake_told-news.new.peers c.wait.ensures.wakes c.wait.ensures.free c.wait.ensures.came c.wait.ensures.gone
    c.look.ensures.same c.look.ensures.quiet (g.N.Network.has_ended c.wake_told-news.new.net) c.wake_told-news.ensures.gives
    c.wake_told-news.ensures.came c.wake_told-news.ensures.gone c.wake_told-news.ensures.woken c.wake_told-news.ensures.free in
    let served = goes_join P C G W F c.args.saved.now.hub c.look.new.saved.hub c.serve_ready.new.saved.hub c.args.net.now
    c.wake_told-news.new.net c.serve_ready.new.net c.args.self.now.peers c.wake_told-news.new.peers c.serve_ready.new.self.peers begun
    c.in_ok-serve_ready.ensures.heard.0 in
    let first : (k : ℕ) → IsMinded k served.leads.run (map.get c.args.self.now.peers k) (map.get c.serve_ready.new.self.peers k) =
    λ k.
    minded k begun.leads.run c.in_ok-serve_ready.ensures.heard.0.leads.run (map.get c.args.self.now.peers k)
    (map.get c.wake_told-news.new.peers k) (map.get c.serve_ready.new.self.peers k) (c.wake_told-news.ensures.rouses k)
    (c.in_ok-serve_ready.ensures.heard.1 k) (c.serve_ready.ensures.waits k) in (served, first)

pub returns-clause-heard : goal.returns-clause-heard
returns-clause-heard g c =
    let P = g.R.Renderer.page in let C = g.N.Network.came in let G = g.N.Network.gone in
    let W = g.N.Network.wakes in let F = g.N.Network.is_free in
    let begun = goes_begun P C G W F c.args.saved.now.hub c.look.new.saved.hub c.args.net.now c.wait.new.self c.wake_told-news.new.net
    c.args.self.now.peers c.wake_told-news.new.peers c.wait.ensures.wakes c.wait.ensures.free c.wait.ensures.came c.wait.ensures.gone
    c.look.ensures.same c.look.ensures.quiet (g.N.Network.has_ended c.wake_told-news.new.net) c.wake_told-news.ensures.gives
    c.wake_told-news.ensures.came c.wake_told-news.ensures.gone c.wake_told-news.ensures.woken c.wake_told-news.ensures.free in
    let served = goes_join P C G W F c.args.saved.now.hub c.look.new.saved.hub c.serve_ready.new.saved.hub c.args.net.now
    c.wake_told-news.new.net c.serve_ready.new.net c.args.self.now.peers c.wake_told-news.new.peers c.serve_ready.new.self.peers begun
    c.in_ok-serve_ready.ensures.heard.0 in
    let first : (k : ℕ) → IsMinded k served.leads.run (map.get c.args.self.now.peers k) (map.get c.serve_ready.new.self.peers k) =
    λ k.
    minded k begun.leads.run c.in_ok-serve_ready.ensures.heard.0.leads.run (map.get c.args.self.now.peers k)
    (map.get c.wake_told-news.new.peers k) (map.get c.serve_ready.new.self.peers k) (c.wake_told-news.ensures.rouses k)
    (c.in_ok-serve_ready.ensures.heard.1 k) (c.serve_ready.ensures.waits k) in (
      goes_join P C G W F c.args.saved.now.hub c.serve_ready.new.saved.hub c.end_turn.new.saved.hub c.args.net.now c.serve_ready.new.net
          c.end_turn.new.net c.args.self.now.peers c.serve_ready.new.self.peers c.end_turn.new.self.peers served c.end_turn.ensures.goes,
      λ k.
          minded_on k served.leads.run c.end_turn.ensures.goes.leads.run (map.get c.args.self.now.peers k)
          (map.get c.serve_ready.new.self.peers k) (map.get c.end_turn.new.self.peers k) (first k) (c.end_turn.ensures.waits k),
    )

pub returns-in_err-serve_ready-clause-waits : goal.returns-in_err-serve_ready-clause-waits
returns-in_err-serve_ready-clause-waits g c =
    waited_still (g.N.Network.made c.wait.new.self) (g.N.Network.made c.serve_ready.new.net)
    (λ k f. c.serve_ready.ensures.calls k (c.wake_told-news.ensures.calls k f)) (c.wait.result, c.wait.ensures.call)

pub returns-then-ends-clause-waits : goal.returns-then-ends-clause-waits
returns-then-ends-clause-waits g c =
    waited_still (g.N.Network.made c.wait.new.self) (g.N.Network.made c.serve_ready.new.net)
    (λ k f. c.serve_ready.ensures.calls k (c.wake_told-news.ensures.calls k f)) (c.wait.result, c.wait.ensures.call)

pub returns-in_err-end_turn-clause-waits : goal.returns-in_err-end_turn-clause-waits
returns-in_err-end_turn-clause-waits g c =
    waited_still (g.N.Network.made c.wait.new.self) (g.N.Network.made c.end_turn.new.net)
    (λ k f. c.end_turn.ensures.calls k (c.serve_ready.ensures.calls k (c.wake_told-news.ensures.calls k f)))
    (c.wait.result, c.wait.ensures.call)

pub returns-clause-waits : goal.returns-clause-waits
returns-clause-waits g c =
    waited_still (g.N.Network.made c.wait.new.self) (g.N.Network.made c.end_turn.new.net)
    (λ k f. c.end_turn.ensures.calls k (c.serve_ready.ensures.calls k (c.wake_told-news.ensures.calls k f)))
    (c.wait.result, c.wait.ensures.call)

pub returns-clause-hears : goal.returns-clause-hears
returns-clause-hears g c =
    λ ends hears. c.end_turn.ensures.calls _ (c.serve_ready.ensures.calls _ (c.wake_told-news.ensures.news.came (sym (ap (λ (n : NextTurn). n.hears_input) c.hear-2.ensures) ∙ hears)))

pub returns-clause-asked : goal.returns-clause-asked
returns-clause-asked g c =
    λ ends still. asked_below c.args.saved.now.hub.1.given c.serve_ready.new.saved.hub.1.given (g.N.Network.made c.end_turn.new.net)
    (none_less g.R.Renderer.page g.N.Network.came g.N.Network.gone g.N.Network.wakes g.N.Network.is_free c.args.saved.now.hub
    c.serve_ready.new.saved.hub c.args.net.now c.serve_ready.new.net c.args.self.now.peers c.serve_ready.new.self.peers
    (goes_join g.R.Renderer.page g.N.Network.came g.N.Network.gone g.N.Network.wakes g.N.Network.is_free c.args.saved.now.hub c.look.new.saved.hub c.serve_ready.new.saved.hub
    c.args.net.now c.wake_told-news.new.net c.serve_ready.new.net c.args.self.now.peers c.wake_told-news.new.peers c.serve_ready.new.self.peers
    (goes_begun g.R.Renderer.page g.N.Network.came g.N.Network.gone g.N.Network.wakes g.N.Network.is_free c.args.saved.now.hub c.look.new.saved.hub c.args.net.now c.wait.new.self
    c.wake_told-news.new.net c.args.self.now.peers c.wake_told-news.new.peers c.wait.ensures.wakes c.wait.ensures.free c.wait.ensures.came c.wait.ensures.gone
    c.look.ensures.same c.look.ensures.quiet (g.N.Network.has_ended c.wake_told-news.new.net) c.wake_told-news.ensures.gives
    c.wake_told-news.ensures.came c.wake_told-news.ensures.gone c.wake_told-news.ensures.woken c.wake_told-news.ensures.free)
    c.serve_ready.ensures.goes)) (c.in_ok-end_turn.ensures.asked still)

pub returns-clause-minds : goal.returns-clause-minds
returns-clause-minds g c =
    λ ends k part. ap (λ (n : NextTurn). n.goes_on) c.hear-2.ensures
    ∙ c.in_ok-end_turn.ensures.minds c.in_ok-serve_ready.ensures.minds k part

-- where edits wait, nothing is edited

pub returns-in_err-wait-clause-unedited : goal.returns-in_err-wait-clause-unedited
returns-in_err-wait-clause-unedited g c = λ is. same_is_unedited c.args.saved.now c.args.saved.now refl

pub returns-in_err-look-clause-unedited : goal.returns-in_err-look-clause-unedited
returns-in_err-look-clause-unedited g c = λ is. c.look.ensures.unedited is

pub returns-in_err-serve_ready-clause-unedited : goal.returns-in_err-serve_ready-clause-unedited
returns-in_err-serve_ready-clause-unedited g c = λ is.
    unedited_behind c.args.saved.now c.look.new.saved c.serve_ready.new.saved (c.look.ensures.unedited is) (c.serve_ready.ensures.unedited is)

pub returns-then-ends-clause-unedited : goal.returns-then-ends-clause-unedited
returns-then-ends-clause-unedited g c = λ is.
    unedited_behind c.args.saved.now c.look.new.saved c.serve_ready.new.saved (c.look.ensures.unedited is) (c.serve_ready.ensures.unedited is)

pub returns-in_err-end_turn-clause-unedited : goal.returns-in_err-end_turn-clause-unedited
returns-in_err-end_turn-clause-unedited g c = λ is.
    unedited_behind c.args.saved.now c.serve_ready.new.saved c.end_turn.new.saved
    (unedited_behind c.args.saved.now c.look.new.saved c.serve_ready.new.saved (c.look.ensures.unedited is)
    (c.serve_ready.ensures.unedited is))
    (record { site = c.end_turn.ensures.site; journal = c.end_turn.ensures.journal; unsaved = c.end_turn.ensures.unsaved })

pub returns-clause-unedited : goal.returns-clause-unedited
returns-clause-unedited g c = λ is.
    unedited_behind c.args.saved.now c.serve_ready.new.saved c.end_turn.new.saved
    (unedited_behind c.args.saved.now c.look.new.saved c.serve_ready.new.saved (c.look.ensures.unedited is)
    (c.serve_ready.ensures.unedited is))
    (record { site = c.end_turn.ensures.site; journal = c.end_turn.ensures.journal; unsaved = c.end_turn.ensures.unsaved })

-- calls that were made

pub returns-in_err-serve_ready-clause-calls : goal.returns-in_err-serve_ready-clause-calls
returns-in_err-serve_ready-clause-calls g c = λ k f. c.serve_ready.ensures.calls k (c.wake_told-news.ensures.calls k (c.wait.ensures.calls k f))

pub returns-then-ends-clause-calls : goal.returns-then-ends-clause-calls
returns-then-ends-clause-calls g c = λ k f. c.serve_ready.ensures.calls k (c.wake_told-news.ensures.calls k (c.wait.ensures.calls k f))

pub returns-in_err-end_turn-clause-calls : goal.returns-in_err-end_turn-clause-calls
returns-in_err-end_turn-clause-calls g c = λ k f. c.end_turn.ensures.calls k (c.serve_ready.ensures.calls k (c.wake_told-news.ensures.calls k (c.wait.ensures.calls k f)))

pub returns-clause-calls : goal.returns-clause-calls
returns-clause-calls g c = λ k f. c.end_turn.ensures.calls k (c.serve_ready.ensures.calls k (c.wake_told-news.ensures.calls k (c.wait.ensures.calls k f)))
