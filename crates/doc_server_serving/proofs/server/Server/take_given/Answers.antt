use Rattle.std.proofs.Common.{ap, inl, refl, subst, sym}
use Rattle.std.specs.Prelude.{Option, Some}
use Rattle.doc_hub.specs.Worlds.{World}
use Rattle.doc_server_journal.specs.declared.journal.Journal.{Journal}
use Rattle.doc_server_network.specs.Crashes.{CrashesLeave, Restores}
use Rattle.doc_server_serving.specs.Leading.{IsOfGiven, IsOfReload, IsOfServer}
use Rattle.doc_server_serving.specs.declared.given.Given.TheVariants as givens
use Rattle.doc_server_serving.proofs.Accepting.{quiet_nowhere}
use Rattle.doc_server_serving.proofs.Crashing.{leaves_itself}
use Rattle.doc_server_serving.proofs.Forces.{in_force_behind, settled_alone, was_given}
use Rattle.doc_server_serving.proofs.Going.{goes_unheard, goes_wider}
use Rattle.doc_server_serving.proofs.Leading.{of_given}
use Rattle.doc_server_serving.proofs.Reloading.{quiet_follow, quiet_wider, reload_serves}
use Rattle.doc_server_serving.proofs.server.Server.take_given.Goals as goal

pub reload-requires-clause-all : goal.reload-requires-clause-all
reload-requires-clause-all g c = c.requires.all

pub reload-requires-clause-ready : goal.reload-requires-clause-ready
reload-requires-clause-ready g c = c.requires.ready

pub reload-requires-clause-free : goal.reload-requires-clause-free
reload-requires-clause-free g c = c.requires.free

pub returns-in_err-given-clause-goes : goal.returns-in_err-given-clause-goes
returns-in_err-given-clause-goes g c =
    goes_unheard g.R.Renderer.page g.N.Network.came g.N.Network.gone g.N.Network.wakes g.N.Network.is_free (IsOfServer (g.S.Source.answered c.hear.new.self))
    c.args.saved.now.hub c.args.saved.now.hub c.args.net.now c.args.self.now.peers refl
    (quiet_nowhere (IsOfServer (g.S.Source.answered c.hear.new.self)) (g.R.Renderer.page c.args.saved.now.hub.0) c.args.saved.now.hub.1)
    refl

pub returns-in_err-outcome-in-Some-Configuration-clause-goes : goal.returns-in_err-outcome-in-Some-Configuration-clause-goes
returns-in_err-outcome-in-Some-Configuration-clause-goes g c =
    goes_wider g.R.Renderer.page g.N.Network.came g.N.Network.gone g.N.Network.wakes g.N.Network.is_free
    (IsOfReload c.in-Some-Configuration.configuration) (IsOfServer (g.S.Source.answered c.hear.new.self))
    c.args.saved.now.hub c.reload.new.saved.hub c.args.net.now c.reload.new.net c.args.self.now.peers c.reload.new.self.peers
    (reload_serves (g.S.Source.answered c.hear.new.self) c.in-Some-Configuration.configuration
    (was_given (g.S.Source.answered c.hear.new.self) c.in_ok-given.given c.in-Some-Configuration.field-0
    (givens.Configuration c.in-Some-Configuration.configuration) c.in-Some-Configuration.is c.in-Some-Configuration.field-0-is
    c.in_ok-given.ensures.answers))
    c.reload.ensures.goes

pub returns-in_err-follow-in-Some-Records-clause-goes : goal.returns-in_err-follow-in-Some-Records-clause-goes
returns-in_err-follow-in-Some-Records-clause-goes g c =
    goes_unheard g.R.Renderer.page g.N.Network.came g.N.Network.gone g.N.Network.wakes g.N.Network.is_free (IsOfServer (g.S.Source.answered c.hear.new.self))
    c.args.saved.now.hub c.follow.new.self.hub c.args.net.now c.args.self.now.peers c.follow.ensures.same
    (quiet_wider (IsOfGiven (givens.Records c.in-Some-Records.texts)) (IsOfServer (g.S.Source.answered c.hear.new.self))
    (g.R.Renderer.page c.args.saved.now.hub.0) c.args.saved.now.hub.1 c.follow.new.self.hub.1
    (of_given (g.S.Source.answered c.hear.new.self) (givens.Records c.in-Some-Records.texts)
    (was_given (g.S.Source.answered c.hear.new.self) c.in_ok-given.given c.in-Some-Records.field-0
    (givens.Records c.in-Some-Records.texts) c.in-Some-Records.is c.in-Some-Records.field-0-is c.in_ok-given.ensures.answers))
    (quiet_follow c.in-Some-Records.texts (g.R.Renderer.page c.args.saved.now.hub.0) c.args.saved.now.hub.1 c.follow.new.self.hub.1
    c.follow.ensures.edits))
    (ap (λ (w : World). w.given) c.follow.ensures.others)

pub returns-in_err-follow-in-Some-Records-clause-any_moment : goal.returns-in_err-follow-in-Some-Records-clause-any_moment
returns-in_err-follow-in-Some-Records-clause-any_moment g c = λ config begin is.
    subst (λ (j : Option (Journal g.row.D.Denot)). CrashesLeave g.D.Device.seen g.D.Device.moment g.D.Device.left_since
    (Restores config begin)
    c.args.saved.now.journal j) (sym c.follow.ensures.journal)
    (leaves_itself g.D.Device.seen g.D.Device.moment g.D.Device.left_since g.D.Device.may_leave g.D.Device.failed g.D.Device.stale
    g.met.D.Device.only_now config begin c.args.saved.now.journal c.args.saved.now.unsaved c.args.saved.now.hub.1 is)

pub returns-in_ok-outcome-in-Some-Configuration-clause-goes : goal.returns-in_ok-outcome-in-Some-Configuration-clause-goes
returns-in_ok-outcome-in-Some-Configuration-clause-goes g c =
    goes_wider g.R.Renderer.page g.N.Network.came g.N.Network.gone g.N.Network.wakes g.N.Network.is_free
    (IsOfReload c.in-Some-Configuration.configuration) (IsOfServer (g.S.Source.answered c.tell.new.self))
    c.args.saved.now.hub c.reload.new.saved.hub c.args.net.now c.reload.new.net c.args.self.now.peers c.reload.new.self.peers
    (reload_serves (g.S.Source.answered c.tell.new.self) c.in-Some-Configuration.configuration
    (c.tell.ensures.keeps (Some (givens.Configuration c.in-Some-Configuration.configuration))
    (was_given (g.S.Source.answered c.hear.new.self) c.in_ok-given.given c.in-Some-Configuration.field-0
    (givens.Configuration c.in-Some-Configuration.configuration) c.in-Some-Configuration.is c.in-Some-Configuration.field-0-is
    c.in_ok-given.ensures.answers)))
    c.reload.ensures.goes

pub returns-in_ok-outcome-in-Some-Configuration-clause-settled : goal.returns-in_ok-outcome-in-Some-Configuration-clause-settled
returns-in_ok-outcome-in-Some-Configuration-clause-settled g c = λ config is given.
    let answered = (c.tell.ensures.keeps (Some (givens.Configuration c.in-Some-Configuration.configuration))
    (was_given (g.S.Source.answered c.hear.new.self) c.in_ok-given.given c.in-Some-Configuration.field-0
    (givens.Configuration c.in-Some-Configuration.configuration) c.in-Some-Configuration.is c.in-Some-Configuration.field-0-is
    c.in_ok-given.ensures.answers)) in record {
      config = _;
      in_force = in_force_behind (g.S.Source.answered c.tell.new.self) config c.in-Some-Configuration.configuration
          _ answered;
      settled = c.in_ok-outcome-in-Some-Configuration.ensures.settled config is (given c.in-Some-Configuration.configuration answered);
    }

pub returns-in_ok-follow-in-Some-Records-clause-goes : goal.returns-in_ok-follow-in-Some-Records-clause-goes
returns-in_ok-follow-in-Some-Records-clause-goes g c =
    goes_unheard g.R.Renderer.page g.N.Network.came g.N.Network.gone g.N.Network.wakes g.N.Network.is_free (IsOfServer (g.S.Source.answered c.hear.new.self))
    c.args.saved.now.hub c.follow.new.self.hub c.args.net.now c.args.self.now.peers c.follow.ensures.same
    (quiet_wider (IsOfGiven (givens.Records c.in-Some-Records.texts)) (IsOfServer (g.S.Source.answered c.hear.new.self))
    (g.R.Renderer.page c.args.saved.now.hub.0) c.args.saved.now.hub.1 c.follow.new.self.hub.1
    (of_given (g.S.Source.answered c.hear.new.self) (givens.Records c.in-Some-Records.texts)
    (was_given (g.S.Source.answered c.hear.new.self) c.in_ok-given.given c.in-Some-Records.field-0
    (givens.Records c.in-Some-Records.texts) c.in-Some-Records.is c.in-Some-Records.field-0-is c.in_ok-given.ensures.answers))
    (quiet_follow c.in-Some-Records.texts (g.R.Renderer.page c.args.saved.now.hub.0) c.args.saved.now.hub.1 c.follow.new.self.hub.1
    c.follow.ensures.edits))
    (ap (λ (w : World). w.given) c.follow.ensures.others)

pub returns-in_ok-follow-in-Some-Records-clause-settled : goal.returns-in_ok-follow-in-Some-Records-clause-settled
returns-in_ok-follow-in-Some-Records-clause-settled g c = λ config is given. record {
  config = config;
  in_force = inl refl;
  settled = settled_alone g.D.Device.seen g.D.Device.may_leave g.D.Device.failed g.D.Device.stale config c.follow.new.self
      c.in_ok-follow-in-Some-Records.ensures.alone;
}

pub returns-in-None-clause-goes : goal.returns-in-None-clause-goes
returns-in-None-clause-goes g c =
    goes_unheard g.R.Renderer.page g.N.Network.came g.N.Network.gone g.N.Network.wakes g.N.Network.is_free (IsOfServer (g.S.Source.answered c.hear.new.self))
    c.args.saved.now.hub c.args.saved.now.hub c.args.net.now c.args.self.now.peers refl
    (quiet_nowhere (IsOfServer (g.S.Source.answered c.hear.new.self)) (g.R.Renderer.page c.args.saved.now.hub.0) c.args.saved.now.hub.1)
    refl

pub returns-in-None-clause-settled : goal.returns-in-None-clause-settled
returns-in-None-clause-settled g c = λ config is given. record { config = config; in_force = inl refl; settled = is }
