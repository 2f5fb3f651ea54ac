use Rattle.std.proofs.Common.{◌≡◌, ◌≤◌, refl, subst, sym, ◌∙◌, arith, inl, inr}
use Rattle.std.specs.FinMap as map
use Rattle.doc_server_network.specs.Networks.{WasWaitedFor}
use Rattle.doc_server_serving.specs.Forces.{IsInForce}
use Rattle.doc_server_serving.specs.Leading.{IsOfServer}
use Rattle.doc_server_serving.specs.declared.fault.ServeFault.TheVariants as faults
use Rattle.doc_server_serving.proofs.Asking.{any_fault, waited_once}
use Rattle.doc_server_serving.proofs.Bounds.{nobody}
use Rattle.doc_server_serving.proofs.Crashing.{part_behind, room_in_force}
use Rattle.doc_server_serving.proofs.Forces.{force_stays, of_calls_before, settled_behind}
use Rattle.doc_server_serving.proofs.Going.{nobody_rests, served}
use Rattle.doc_server_serving.proofs.Readers.{begun, goes_further}
use Rattle.doc_server_serving.proofs.server.Server.serve.Goals as goal

pub turns-init : goal.turns-init
turns-init g c = record {
  all = c.in_ok-keep_room.ensures.all;
  ready = c.in_ok-keep_room.ensures.ready;
  settled = λ config is given.
      record { config = config; in_force = inl refl; settled = c.in_ok-keep_room.ensures.settled config is };
  bound = nobody c.args.self.now.peers c.args.self.now.door.most (λ k. (c.requires.new.new k).none);
  most = refl;
  waited = inl refl;
  goes = begun g.R.Renderer.page g.N.Network.came g.N.Network.gone g.N.Network.wakes g.N.Network.is_free (g.S.Source.answered c.args.source.now)
      c.args.saved.now.hub c.keep_room.new.saved.hub c.args.net.now c.args.self.now.peers c.keep_room.ensures.same c.keep_room.ensures.quiet;
  crashes = λ config all is given.
      room_in_force g.D.Device.seen g.D.Device.moment g.D.Device.left_since (IsInForce (g.S.Source.answered c.args.source.now) config)
      config (inl refl) (g.R.Renderer.page c.args.saved.now.hub.0) c.args.saved.now.hub.1 c.keep_room.ensures.quiet.leads.run
      c.args.saved.now.journal c.keep_room.new.saved.journal
      (c.keep_room.ensures.any_moment config c.args.saved.now.hub.1 is.0);
}

pub go_on-requires-clause-all : goal.go_on-requires-clause-all
go_on-requires-clause-all g c = c.turns.invariant.all

pub go_on-requires-clause-ready : goal.go_on-requires-clause-ready
go_on-requires-clause-ready g c = c.turns.invariant.ready

pub go_on-requires-clause-free : goal.go_on-requires-clause-free
go_on-requires-clause-free g c = c.turns.invariant.goes.free c.requires.new.free

pub returns-in_err-keep_room-clause-served : goal.returns-in_err-keep_room-clause-served
returns-in_err-keep_room-clause-served g c =
    let goes = begun g.R.Renderer.page g.N.Network.came g.N.Network.gone g.N.Network.wakes g.N.Network.is_free
    (g.S.Source.answered c.args.source.now) c.args.saved.now.hub c.keep_room.new.saved.hub c.args.net.now c.args.self.now.peers
    c.keep_room.ensures.same c.keep_room.ensures.quiet in (
      goes.leads,
      served g.R.Renderer.page g.N.Network.came g.N.Network.gone g.N.Network.wakes g.N.Network.is_free
          (IsOfServer (g.S.Source.answered c.args.source.now)) c.args.saved.now.hub
          c.keep_room.new.saved.hub c.args.net.now c.args.net.now c.args.self.now.peers c.args.self.now.peers c.requires.new goes,
    )

pub returns-in_err-keep_room-clause-woken : goal.returns-in_err-keep_room-clause-woken
returns-in_err-keep_room-clause-woken g c =
    nobody_rests g.R.Renderer.page g.N.Network.came g.N.Network.gone g.N.Network.wakes g.N.Network.is_free c.args.saved.now.hub.1.given
    c.args.net.now c.args.self.now.peers c.requires.new

pub returns-in_err-go_on-clause-served : goal.returns-in_err-go_on-clause-served
returns-in_err-go_on-clause-served g c =
    let goes = goes_further g.R.Renderer.page g.N.Network.came g.N.Network.gone g.N.Network.wakes g.N.Network.is_free
    (g.S.Source.answered c.turns.source) (g.S.Source.answered c.go_on.new.source) c.go_on.ensures.keeps c.args.saved.now.hub c.turns.saved.hub
    c.go_on.new.saved.hub c.args.net.now c.turns.net c.go_on.new.net c.args.self.now.peers c.turns.self.peers c.go_on.new.self.peers
    c.turns.invariant.goes c.go_on.ensures.any_moment.0 in (
      goes.leads,
      served g.R.Renderer.page g.N.Network.came g.N.Network.gone g.N.Network.wakes g.N.Network.is_free
          (IsOfServer (g.S.Source.answered c.go_on.new.source)) c.args.saved.now.hub
          c.go_on.new.saved.hub c.args.net.now c.go_on.new.net c.args.self.now.peers c.go_on.new.self.peers c.requires.new goes,
    )

pub returns-in_err-go_on-clause-woken : goal.returns-in_err-go_on-clause-woken
returns-in_err-go_on-clause-woken g c =
    c.go_on.ensures.any_moment.0.woken (c.turns.invariant.goes.woken
    (nobody_rests g.R.Renderer.page g.N.Network.came g.N.Network.gone g.N.Network.wakes g.N.Network.is_free
    c.args.saved.now.hub.1.given c.args.net.now c.args.self.now.peers c.requires.new))

pub returns-then-branch-clause-served : goal.returns-then-branch-clause-served
returns-then-branch-clause-served g c =
    let goes = goes_further g.R.Renderer.page g.N.Network.came g.N.Network.gone g.N.Network.wakes g.N.Network.is_free
    (g.S.Source.answered c.turns.source) (g.S.Source.answered c.go_on.new.source) c.go_on.ensures.keeps c.args.saved.now.hub c.turns.saved.hub
    c.go_on.new.saved.hub c.args.net.now c.turns.net c.go_on.new.net c.args.self.now.peers c.turns.self.peers c.go_on.new.self.peers
    c.turns.invariant.goes c.go_on.ensures.any_moment.0 in (
      goes.leads,
      served g.R.Renderer.page g.N.Network.came g.N.Network.gone g.N.Network.wakes g.N.Network.is_free
          (IsOfServer (g.S.Source.answered c.go_on.new.source)) c.args.saved.now.hub
          c.go_on.new.saved.hub c.args.net.now c.go_on.new.net c.args.self.now.peers c.go_on.new.self.peers c.requires.new goes,
    )

pub returns-then-branch-clause-woken : goal.returns-then-branch-clause-woken
returns-then-branch-clause-woken g c =
    c.go_on.ensures.any_moment.0.woken (c.turns.invariant.goes.woken
    (nobody_rests g.R.Renderer.page g.N.Network.came g.N.Network.gone g.N.Network.wakes g.N.Network.is_free
    c.args.saved.now.hub.1.given c.args.net.now c.args.self.now.peers c.requires.new))

pub turns-preserved : goal.turns-preserved
turns-preserved g c = record {
  all = c.in_ok-go_on.ensures.all;
  ready = c.in_ok-go_on.ensures.ready;
  settled = λ config is given.
      settled_behind (g.S.Source.answered c.turns.source) (g.S.Source.answered c.go_on.new.source) c.go_on.ensures.keeps
      g.D.Device.seen g.D.Device.may_leave g.D.Device.failed g.D.Device.stale config c.turns.saved c.go_on.new.saved
      (c.turns.invariant.settled config is (of_calls_before (g.S.Source.answered c.turns.source)
      (g.S.Source.answered c.go_on.new.source) c.go_on.ensures.keeps given))
      (λ mid settled. c.in_ok-go_on.ensures.settled mid settled given);
  bound = subst (λ most. map.len c.go_on.new.self.peers ≤ most) c.turns.invariant.most
      (c.go_on.ensures.bound (subst (λ most. map.len c.turns.self.peers ≤ most) (sym c.turns.invariant.most) c.turns.invariant.bound));
  most = c.go_on.ensures.most ∙ c.turns.invariant.most;
  waited = inr c.go_on.ensures.waits;
  goes = goes_further g.R.Renderer.page g.N.Network.came g.N.Network.gone g.N.Network.wakes g.N.Network.is_free
      (g.S.Source.answered c.turns.source) (g.S.Source.answered c.go_on.new.source) c.go_on.ensures.keeps c.args.saved.now.hub
      c.turns.saved.hub c.go_on.new.saved.hub c.args.net.now c.turns.net c.go_on.new.net c.args.self.now.peers c.turns.self.peers
      c.go_on.new.self.peers c.turns.invariant.goes c.go_on.ensures.any_moment.0;
  crashes = λ config all is given.
      (
      let force = c.turns.invariant.settled config is (of_calls_before (g.S.Source.answered c.turns.source)
      (g.S.Source.answered c.go_on.new.source) c.go_on.ensures.keeps given) in
      part_behind g.D.Device.seen g.D.Device.moment g.D.Device.left_since all (IsInForce (g.S.Source.answered c.turns.source) config)
      (IsInForce (g.S.Source.answered c.go_on.new.source) config)
      (force_stays (g.S.Source.answered c.turns.source) (g.S.Source.answered c.go_on.new.source) c.go_on.ensures.keeps config)
      force.config
      (force_stays (g.S.Source.answered c.turns.source) (g.S.Source.answered c.go_on.new.source) c.go_on.ensures.keeps config
      force.config force.in_force)
      (g.R.Renderer.page c.args.saved.now.hub.0) (g.R.Renderer.page c.turns.saved.hub.0) c.args.saved.now.hub.1 c.turns.saved.hub.1
      c.turns.invariant.goes.leads.run c.go_on.ensures.any_moment.0.leads.run c.args.saved.now.journal c.turns.saved.journal
      c.go_on.new.saved.journal c.turns.invariant.goes.same c.turns.invariant.goes.leads.runs
      (c.turns.invariant.crashes config all is (of_calls_before (g.S.Source.answered c.turns.source)
      (g.S.Source.answered c.go_on.new.source) c.go_on.ensures.keeps given))
      (c.go_on.ensures.any_moment.1 force.config all force.settled));
}

pub returns-clause-served : goal.returns-clause-served
returns-clause-served g c = (
  c.turns.invariant.goes.leads,
  served g.R.Renderer.page g.N.Network.came g.N.Network.gone g.N.Network.wakes g.N.Network.is_free
      (IsOfServer (g.S.Source.answered c.turns.source)) c.args.saved.now.hub c.turns.saved.hub c.args.net.now c.turns.net c.args.self.now.peers c.turns.self.peers c.requires.new
      c.turns.invariant.goes,
)

pub returns-clause-woken : goal.returns-clause-woken
returns-clause-woken g c =
    c.turns.invariant.goes.woken
    (nobody_rests g.R.Renderer.page g.N.Network.came g.N.Network.gone g.N.Network.wakes g.N.Network.is_free
    c.args.saved.now.hub.1.given c.args.net.now c.args.self.now.peers c.requires.new)

pub returns-in_err-keep_room-clause-bound : goal.returns-in_err-keep_room-clause-bound
returns-in_err-keep_room-clause-bound g c =
    nobody c.args.self.now.peers c.args.self.now.door.most (λ k. (c.requires.new.new k).none)

pub returns-in_err-go_on-clause-bound : goal.returns-in_err-go_on-clause-bound
returns-in_err-go_on-clause-bound g c =
    subst (λ most. map.len c.go_on.new.self.peers ≤ most) c.turns.invariant.most
    (c.go_on.ensures.bound (subst (λ most. map.len c.turns.self.peers ≤ most) (sym c.turns.invariant.most) c.turns.invariant.bound))

pub returns-then-branch-clause-bound : goal.returns-then-branch-clause-bound
returns-then-branch-clause-bound g c =
    subst (λ most. map.len c.go_on.new.self.peers ≤ most) c.turns.invariant.most
    (c.go_on.ensures.bound (subst (λ most. map.len c.turns.self.peers ≤ most) (sym c.turns.invariant.most) c.turns.invariant.bound))

pub returns-in_err-keep_room-clause-any_moment : goal.returns-in_err-keep_room-clause-any_moment
returns-in_err-keep_room-clause-any_moment g c =
    let goes = begun g.R.Renderer.page g.N.Network.came g.N.Network.gone g.N.Network.wakes g.N.Network.is_free
    (g.S.Source.answered c.args.source.now) c.args.saved.now.hub c.keep_room.new.saved.hub c.args.net.now c.args.self.now.peers
    c.keep_room.ensures.same c.keep_room.ensures.quiet in (
      goes.leads,
      served g.R.Renderer.page g.N.Network.came g.N.Network.gone g.N.Network.wakes g.N.Network.is_free
          (IsOfServer (g.S.Source.answered c.args.source.now)) c.args.saved.now.hub
          c.keep_room.new.saved.hub c.args.net.now c.args.net.now c.args.self.now.peers c.args.self.now.peers c.requires.new goes,
      λ config all is given.
          room_in_force g.D.Device.seen g.D.Device.moment g.D.Device.left_since (IsInForce (g.S.Source.answered c.args.source.now) config)
          config (inl refl) (g.R.Renderer.page c.args.saved.now.hub.0) c.args.saved.now.hub.1 c.keep_room.ensures.quiet.leads.run
          c.args.saved.now.journal c.keep_room.new.saved.journal
          (c.keep_room.ensures.any_moment config c.args.saved.now.hub.1 is.0),
    )

pub returns-in_err-go_on-clause-any_moment : goal.returns-in_err-go_on-clause-any_moment
returns-in_err-go_on-clause-any_moment g c =
    let goes = goes_further g.R.Renderer.page g.N.Network.came g.N.Network.gone g.N.Network.wakes g.N.Network.is_free
    (g.S.Source.answered c.turns.source) (g.S.Source.answered c.go_on.new.source) c.go_on.ensures.keeps c.args.saved.now.hub c.turns.saved.hub
    c.go_on.new.saved.hub c.args.net.now c.turns.net c.go_on.new.net c.args.self.now.peers c.turns.self.peers c.go_on.new.self.peers
    c.turns.invariant.goes c.go_on.ensures.any_moment.0 in (
      goes.leads,
      served g.R.Renderer.page g.N.Network.came g.N.Network.gone g.N.Network.wakes g.N.Network.is_free
          (IsOfServer (g.S.Source.answered c.go_on.new.source)) c.args.saved.now.hub
          c.go_on.new.saved.hub c.args.net.now c.go_on.new.net c.args.self.now.peers c.go_on.new.self.peers c.requires.new goes,
      λ config all is given.
          (
          let force = c.turns.invariant.settled config is (of_calls_before (g.S.Source.answered c.turns.source)
          (g.S.Source.answered c.go_on.new.source) c.go_on.ensures.keeps given) in
          part_behind g.D.Device.seen g.D.Device.moment g.D.Device.left_since all (IsInForce (g.S.Source.answered c.turns.source) config)
          (IsInForce (g.S.Source.answered c.go_on.new.source) config)
          (force_stays (g.S.Source.answered c.turns.source) (g.S.Source.answered c.go_on.new.source) c.go_on.ensures.keeps config)
          force.config
          (force_stays (g.S.Source.answered c.turns.source) (g.S.Source.answered c.go_on.new.source) c.go_on.ensures.keeps config
          force.config force.in_force)
          (g.R.Renderer.page c.args.saved.now.hub.0) (g.R.Renderer.page c.turns.saved.hub.0) c.args.saved.now.hub.1 c.turns.saved.hub.1
          c.turns.invariant.goes.leads.run c.go_on.ensures.any_moment.0.leads.run c.args.saved.now.journal c.turns.saved.journal
          c.go_on.new.saved.journal c.turns.invariant.goes.same c.turns.invariant.goes.leads.runs
          (c.turns.invariant.crashes config all is (of_calls_before (g.S.Source.answered c.turns.source)
          (g.S.Source.answered c.go_on.new.source) c.go_on.ensures.keeps given))
          (c.go_on.ensures.any_moment.1 force.config all force.settled)),
    )

pub returns-then-branch-clause-any_moment : goal.returns-then-branch-clause-any_moment
returns-then-branch-clause-any_moment g c =
    let goes = goes_further g.R.Renderer.page g.N.Network.came g.N.Network.gone g.N.Network.wakes g.N.Network.is_free
    (g.S.Source.answered c.turns.source) (g.S.Source.answered c.go_on.new.source) c.go_on.ensures.keeps c.args.saved.now.hub c.turns.saved.hub
    c.go_on.new.saved.hub c.args.net.now c.turns.net c.go_on.new.net c.args.self.now.peers c.turns.self.peers c.go_on.new.self.peers
    c.turns.invariant.goes c.go_on.ensures.any_moment.0 in (
      goes.leads,
      served g.R.Renderer.page g.N.Network.came g.N.Network.gone g.N.Network.wakes g.N.Network.is_free
          (IsOfServer (g.S.Source.answered c.go_on.new.source)) c.args.saved.now.hub
          c.go_on.new.saved.hub c.args.net.now c.go_on.new.net c.args.self.now.peers c.go_on.new.self.peers c.requires.new goes,
      λ config all is given.
          (
          let force = c.turns.invariant.settled config is (of_calls_before (g.S.Source.answered c.turns.source)
          (g.S.Source.answered c.go_on.new.source) c.go_on.ensures.keeps given) in
          part_behind g.D.Device.seen g.D.Device.moment g.D.Device.left_since all (IsInForce (g.S.Source.answered c.turns.source) config)
          (IsInForce (g.S.Source.answered c.go_on.new.source) config)
          (force_stays (g.S.Source.answered c.turns.source) (g.S.Source.answered c.go_on.new.source) c.go_on.ensures.keeps config)
          force.config
          (force_stays (g.S.Source.answered c.turns.source) (g.S.Source.answered c.go_on.new.source) c.go_on.ensures.keeps config
          force.config force.in_force)
          (g.R.Renderer.page c.args.saved.now.hub.0) (g.R.Renderer.page c.turns.saved.hub.0) c.args.saved.now.hub.1 c.turns.saved.hub.1
          c.turns.invariant.goes.leads.run c.go_on.ensures.any_moment.0.leads.run c.args.saved.now.journal c.turns.saved.journal
          c.go_on.new.saved.journal c.turns.invariant.goes.same c.turns.invariant.goes.leads.runs
          (c.turns.invariant.crashes config all is (of_calls_before (g.S.Source.answered c.turns.source)
          (g.S.Source.answered c.go_on.new.source) c.go_on.ensures.keeps given))
          (c.go_on.ensures.any_moment.1 force.config all force.settled)),
    )

pub returns-clause-any_moment : goal.returns-clause-any_moment
returns-clause-any_moment g c = (
  c.turns.invariant.goes.leads,
  served g.R.Renderer.page g.N.Network.came g.N.Network.gone g.N.Network.wakes g.N.Network.is_free
      (IsOfServer (g.S.Source.answered c.turns.source)) c.args.saved.now.hub
      c.turns.saved.hub c.args.net.now c.turns.net c.args.self.now.peers c.turns.self.peers c.requires.new c.turns.invariant.goes,
  c.turns.invariant.crashes,
)

pub returns-clause-why : goal.returns-clause-why
returns-clause-why g c = λ is. waited_once c.turns.counter (g.N.Network.made c.turns.net) (omega (arith, c.turns-test.false)) c.turns.invariant.waited

pub returns-in_err-go_on-clause-why : goal.returns-in_err-go_on-clause-why
returns-in_err-go_on-clause-why g c =
    any_fault (λ fault. fault ≡ faults.Socket) (WasWaitedFor (g.N.Network.made c.go_on.new.net)) c.from_residual-in_err-go_on.result
    c.go_on.ensures.waits

pub returns-then-branch-clause-settled : goal.returns-then-branch-clause-settled
returns-then-branch-clause-settled g c = λ config is given.
    settled_behind (g.S.Source.answered c.turns.source) (g.S.Source.answered c.go_on.new.source) c.go_on.ensures.keeps
    g.D.Device.seen g.D.Device.may_leave g.D.Device.failed g.D.Device.stale config c.turns.saved c.go_on.new.saved
    (c.turns.invariant.settled config is (of_calls_before (g.S.Source.answered c.turns.source)
    (g.S.Source.answered c.go_on.new.source) c.go_on.ensures.keeps given))
    (λ mid settled. c.in_ok-go_on.ensures.settled mid settled given)
