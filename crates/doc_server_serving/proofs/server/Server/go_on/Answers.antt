use Rattle.std.proofs.Common.{◌≡◌, ◌≤◌, ◌∙◌, Bool, true, false, refl, ap, subst, sym, inl}
use Rattle.std.specs.Prelude.{◌||◌, IfOk, OnOk, Result, Ok, Err}
use Rattle.doc_hub.specs.Worlds.{World}
use Rattle.doc_server_serving.specs.Forces.{IsTaken}
use Rattle.std.specs.FinMap as map
use Rattle.doc_server_serving.specs.declared.next_turn.NextTurn.{NextTurn}
use Rattle.doc_server_serving.proofs.Asking.{waited_still}
use Rattle.doc_server_serving.proofs.Crashing.{reload_behind, turn_alone}
use Rattle.doc_server_serving.proofs.Readers.{goes_further, turned}
use Rattle.doc_server_serving.proofs.server.Server.go_on.Goals as goal

not_both : true ≡ false → ⊥
not_both e = cc

-- what was taken since that world was taken since some world
taken_so : {E : Type 0} (r : Result Bool E) (Asks : Type 0) (IsTakenSince : World → Type 0) (w : World) → OnOk r (IsTakenSince w)
    → IfOk r (λ has_ended. has_ended ≡ false → Asks → (before : World) × IsTakenSince before)
taken_so (Ok has_ended) Asks IsTakenSince w taken = λ goes asks. (w, taken)
taken_so (Err e) Asks IsTakenSince w taken = tt

unasked : (hears waits follows busy : Bool) → ((hears || waits) || follows || busy) ≡ false → (hears || follows) ≡ true → ⊥
unasked true waits follows busy silent is = cc
unasked false true follows busy silent is = cc
unasked false false true busy silent is = cc
unasked false false false busy silent is = cc

pub turn-requires-clause-all : goal.turn-requires-clause-all
turn-requires-clause-all g c = c.requires.all

pub turn-requires-clause-ready : goal.turn-requires-clause-ready
turn-requires-clause-ready g c = c.requires.ready

pub turn-requires-clause-free : goal.turn-requires-clause-free
turn-requires-clause-free g c = c.requires.free

pub returns-in_err-turn-clause-keeps : goal.returns-in_err-turn-clause-keeps
returns-in_err-turn-clause-keeps g c = λ given answered. answered

pub returns-in_err-turn-clause-any_moment : goal.returns-in_err-turn-clause-any_moment
returns-in_err-turn-clause-any_moment g c =
    let goes = turned g.R.Renderer.page g.N.Network.came g.N.Network.gone g.N.Network.wakes g.N.Network.is_free
    (g.S.Source.answered c.args.source.now) c.args.saved.now.hub c.turn.new.saved.hub c.args.net.now c.turn.new.net c.args.self.now.peers
    c.turn.new.self.peers c.turn.ensures.goes in (
      goes,
      λ config all is.
          turn_alone g.D.Device.seen g.D.Device.moment g.D.Device.left_since config (g.R.Renderer.page c.args.saved.now.hub.0)
          c.args.saved.now.hub.1 c.turn.new.saved.hub.1 goes.leads.run c.args.saved.now.journal c.turn.new.saved.journal goes.leads.runs
          (c.turn.ensures.any_moment config all is),
    )

pub returns-then-branch-clause-keeps : goal.returns-then-branch-clause-keeps
returns-then-branch-clause-keeps g c = λ given answered. answered

pub returns-then-branch-clause-any_moment : goal.returns-then-branch-clause-any_moment
returns-then-branch-clause-any_moment g c =
    let goes = turned g.R.Renderer.page g.N.Network.came g.N.Network.gone g.N.Network.wakes g.N.Network.is_free
    (g.S.Source.answered c.args.source.now) c.args.saved.now.hub c.turn.new.saved.hub c.args.net.now c.turn.new.net c.args.self.now.peers
    c.turn.new.self.peers c.turn.ensures.goes in (
      goes,
      λ config all is.
          turn_alone g.D.Device.seen g.D.Device.moment g.D.Device.left_since config (g.R.Renderer.page c.args.saved.now.hub.0)
          c.args.saved.now.hub.1 c.turn.new.saved.hub.1 goes.leads.run c.args.saved.now.journal c.turn.new.saved.journal goes.leads.runs
          (c.turn.ensures.any_moment config all is),
    )

pub returns-then-branch-clause-settled : goal.returns-then-branch-clause-settled
returns-then-branch-clause-settled g c = λ config is given.
    record { config = config; in_force = inl refl; settled = c.in_ok-turn.ensures.settled config is }

pub returns-then-not-is_asked-clause-keeps : goal.returns-then-not-is_asked-clause-keeps
returns-then-not-is_asked-clause-keeps g c = c.note.ensures.keeps

pub returns-then-not-is_asked-clause-settled : goal.returns-then-not-is_asked-clause-settled
returns-then-not-is_asked-clause-settled g c = λ config is given.
    record { config = config; in_force = inl refl; settled = c.in_ok-turn.ensures.settled config is }

pub returns-then-not-is_asked-clause-any_moment : goal.returns-then-not-is_asked-clause-any_moment
returns-then-not-is_asked-clause-any_moment g c =
    let goes = turned g.R.Renderer.page g.N.Network.came g.N.Network.gone g.N.Network.wakes g.N.Network.is_free
    (g.S.Source.answered c.note.new.self) c.args.saved.now.hub c.turn.new.saved.hub c.args.net.now c.turn.new.net c.args.self.now.peers
    c.turn.new.self.peers c.turn.ensures.goes in (
      goes,
      λ config all is.
          turn_alone g.D.Device.seen g.D.Device.moment g.D.Device.left_since config (g.R.Renderer.page c.args.saved.now.hub.0)
          c.args.saved.now.hub.1 c.turn.new.saved.hub.1 goes.leads.run c.args.saved.now.journal c.turn.new.saved.journal goes.leads.runs
          (c.turn.ensures.any_moment config all is),
    )

pub take_given-requires-clause-all : goal.take_given-requires-clause-all
take_given-requires-clause-all g c = c.in_ok-turn.ensures.all

pub take_given-requires-clause-ready : goal.take_given-requires-clause-ready
take_given-requires-clause-ready g c = c.in_ok-turn.ensures.ready

pub take_given-requires-clause-free : goal.take_given-requires-clause-free
take_given-requires-clause-free g c = c.turn.ensures.goes.free c.requires.free

pub returns-clause-bound : goal.returns-clause-bound
returns-clause-bound g c = λ le.
    subst (λ most. map.len c.take_given.new.self.peers ≤ most) c.turn.ensures.most
    (c.take_given.ensures.bound (subst (λ most. map.len c.turn.new.self.peers ≤ most) (sym c.turn.ensures.most) (c.turn.ensures.bound le)))

pub returns-clause-waits : goal.returns-clause-waits
returns-clause-waits g c =
    waited_still (g.N.Network.made c.turn.new.net) (g.N.Network.made c.take_given.new.net) c.take_given.ensures.calls c.turn.ensures.waits

pub returns-clause-settled : goal.returns-clause-settled
returns-clause-settled g c = λ config is given.
    c.take_given.ensures.settled config (c.in_ok-turn.ensures.settled config is) given

pub returns-clause-any_moment : goal.returns-clause-any_moment
returns-clause-any_moment g c = (
  goes_further g.R.Renderer.page g.N.Network.came g.N.Network.gone g.N.Network.wakes g.N.Network.is_free
      (g.S.Source.answered c.take_given.new.source) (g.S.Source.answered c.take_given.new.source) (λ given answered. answered)
      c.args.saved.now.hub c.turn.new.saved.hub c.take_given.new.saved.hub c.args.net.now c.turn.new.net c.take_given.new.net
      c.args.self.now.peers c.turn.new.self.peers c.take_given.new.self.peers
      (turned g.R.Renderer.page g.N.Network.came g.N.Network.gone g.N.Network.wakes g.N.Network.is_free (g.S.Source.answered c.take_given.new.source)
      c.args.saved.now.hub c.turn.new.saved.hub c.args.net.now c.turn.new.net c.args.self.now.peers c.turn.new.self.peers
      c.turn.ensures.goes)
      c.take_given.ensures.goes,
  λ config all is.
      reload_behind g.D.Device.seen g.D.Device.moment g.D.Device.left_since all config (g.R.Renderer.page c.args.saved.now.hub.0)
      c.args.saved.now.hub.1 c.turn.new.saved.hub.1 c.take_given.new.saved.hub.1 c.turn.ensures.goes.leads.run
      c.take_given.ensures.goes.leads.run c.args.saved.now.journal c.turn.new.saved.journal c.take_given.new.saved.journal
      c.turn.ensures.goes.leads.runs (c.turn.ensures.any_moment config all is)
      (c.take_given.ensures.any_moment config c.turn.new.saved.hub.1 (c.in_ok-turn.ensures.settled config is).0),
)

pub returns-then-branch-clause-takes : goal.returns-then-branch-clause-takes
returns-then-branch-clause-takes g c = λ goes. absurd (not_both goes)

pub returns-then-not-is_asked-clause-takes : goal.returns-then-not-is_asked-clause-takes
returns-then-not-is_asked-clause-takes g c = λ goes asks.
    absurd (unasked c.turn.new.next.hears_input c.turn.new.next.input_waits c.follows-follows.result c.is_busy-is_busy.result
    (ap (λ b. b || c.follows-follows.result || c.is_busy-is_busy.result) (sym c.take_input-has_input.ensures.result)
    ∙ sym c.is_asked.ensures ∙ c.if-not-is_asked.true)
    (ap (λ b. c.turn.new.next.hears_input || b) c.follows-follows.ensures
    ∙ ap (λ (n : NextTurn). n.hears_input || g.S.Source.follows c.args.source.now) (sym c.take_input-has_input.ensures.taken) ∙ asks))

pub returns-clause-takes : goal.returns-clause-takes
returns-clause-takes g c =
    taken_so c.take_given.result ((c.take_given.new.next.hears_input || g.S.Source.follows c.args.source.now) ≡ true)
    (λ before. IsTaken g.D.Device.seen g.D.Device.may_leave g.D.Device.failed g.D.Device.stale
    (g.S.Source.answered c.take_given.new.source) (g.S.Source.told c.take_given.new.source) before c.take_given.new.saved.hub.1
    c.take_given.new.saved.journal) c.turn.new.saved.hub.1 c.take_given.ensures.takes

pub returns-clause-keeps : goal.returns-clause-keeps
returns-clause-keeps g c = λ given answered. c.take_given.ensures.keeps given (c.note.ensures.keeps given answered)
