use Rattle.std.proofs.Common.{◌<◌, ◌∙◌, ℕ, [], ap, refl, subst, sym}
use Rattle.std.specs.Prelude.{IfSome, Option}
use Rattle.doc_hub.specs.Worlds.{IsApart, World, with_media}
use Rattle.doc_server_journal.specs.declared.journal.Journal.{Journal}
use Rattle.doc_server_network.proofs.Leading.{all_stays, apart_of_saved, is_restarted, is_settled, on_the_way, set_is_under_way}
use Rattle.doc_server_network.specs.Crashes.{Restores}
use Rattle.doc_server_network.specs.Reloads.{IsRestarted, beside}
use Rattle.doc_server_serving.specs.Invariants.{GoesOnBy}
use Rattle.doc_server_serving.specs.Leading.{IsOfLead, IsOfReload}
use Rattle.doc_server_turns.specs.Settings.{IsSetting}
use Rattle.doc_server_serving.proofs.Accepting.{quiet_nowhere}
use Rattle.doc_server_serving.proofs.Crashing.{leaves_same}
use Rattle.doc_server_serving.proofs.Going.{goes_on, goes_unheard, goes_wider}
use Rattle.doc_server_serving.proofs.Reloading.{if_weaker, lead_reloads, quiet_wider, setting_reloads}
use Rattle.doc_server_serving.proofs.server.Server.reload.Goals as goal

pub begin_reload-requires-clause-ready : goal.begin_reload-requires-clause-ready
begin_reload-requires-clause-ready g c = c.requires.ready

pub begin_reload-requires-clause-all : goal.begin_reload-requires-clause-all
begin_reload-requires-clause-all g c = c.requires.all

pub lead-requires-clause-all : goal.lead-requires-clause-all
lead-requires-clause-all g c =
    all_stays c.begin_reload.new.self c.set_both.new.saved c.set_both.ensures.journal c.set_both.ensures.unsaved c.in-Ok.ensures.all

pub lead-requires-clause-ready : goal.lead-requires-clause-ready
lead-requires-clause-ready g c = c.set_both.ensures.ready c.in-Ok.ensures.ready

pub lead-requires-clause-free : goal.lead-requires-clause-free
lead-requires-clause-free g c =
    subst (λ given. (k : ℕ) → given < k → g.N.Network.is_free c.args.net.now k)
    (sym (c.set_both.ensures.given ∙ ap (λ h. h.1.given) c.begin_reload.ensures.hub)) c.requires.free

-- the media are refused

pub returns-in-Err-clause-goes : goal.returns-in-Err-clause-goes
returns-in-Err-clause-goes g c =
    subst (λ h. GoesOnBy g.R.Renderer.page g.N.Network.came g.N.Network.gone g.N.Network.wakes g.N.Network.is_free (IsOfReload c.args.configuration) h c.set_both.new.saved.hub
    c.args.net.now c.args.net.now c.args.self.now.peers c.args.self.now.peers) c.begin_reload.ensures.hub
    (goes_unheard g.R.Renderer.page g.N.Network.came g.N.Network.gone g.N.Network.wakes g.N.Network.is_free (IsOfReload c.args.configuration)
    c.begin_reload.new.self.hub c.set_both.new.saved.hub c.args.net.now c.args.self.now.peers c.set_both.ensures.same
    (quiet_wider (IsSetting c.args.configuration.readers c.args.configuration.media) (IsOfReload c.args.configuration)
    (g.R.Renderer.page c.begin_reload.new.self.hub.0) c.begin_reload.new.self.hub.1 c.set_both.new.saved.hub.1
    (setting_reloads c.args.configuration) c.set_both.ensures.quiet) c.set_both.ensures.given)

-- they are set, and the edits are made

pub returns-in_err-has_ended-in-Ok-clause-goes : goal.returns-in_err-has_ended-in-Ok-clause-goes
returns-in_err-has_ended-in-Ok-clause-goes g c =
    let begun = goes_unheard g.R.Renderer.page g.N.Network.came g.N.Network.gone g.N.Network.wakes g.N.Network.is_free (IsOfReload c.args.configuration)
    c.begin_reload.new.self.hub c.set_both.new.saved.hub c.args.net.now c.args.self.now.peers c.set_both.ensures.same
    (quiet_wider (IsSetting c.args.configuration.readers c.args.configuration.media) (IsOfReload c.args.configuration)
    (g.R.Renderer.page c.begin_reload.new.self.hub.0) c.begin_reload.new.self.hub.1 c.set_both.new.saved.hub.1
    (setting_reloads c.args.configuration) c.set_both.ensures.quiet) c.set_both.ensures.given in
    subst (λ h. GoesOnBy g.R.Renderer.page g.N.Network.came g.N.Network.gone g.N.Network.wakes g.N.Network.is_free (IsOfReload c.args.configuration) h c.lead.new.saved.hub
    c.args.net.now c.lead.new.net c.args.self.now.peers c.lead.new.self.peers) c.begin_reload.ensures.hub
    (goes_on g.R.Renderer.page g.N.Network.came g.N.Network.gone g.N.Network.wakes g.N.Network.is_free (IsOfReload c.args.configuration) c.begin_reload.new.self.hub
    c.set_both.new.saved.hub c.lead.new.saved.hub c.args.net.now c.args.net.now c.lead.new.net c.args.self.now.peers
    c.args.self.now.peers c.lead.new.self.peers begun
    (goes_wider g.R.Renderer.page g.N.Network.came g.N.Network.gone g.N.Network.wakes g.N.Network.is_free (IsOfLead c.in-Ok.lead.edits) (IsOfReload c.args.configuration)
    c.set_both.new.saved.hub c.lead.new.saved.hub c.args.net.now c.lead.new.net c.args.self.now.peers c.lead.new.self.peers
    (lead_reloads c.args.configuration c.in-Ok.lead.edits
    (on_the_way g.D.Device.seen g.D.Device.may_leave g.D.Device.failed g.D.Device.stale c.args.configuration.pages
    (with_media c.args.saved.now.hub.1 c.args.configuration.media) c.in-Ok.lead []
    (beside c.args.configuration.media c.begin_reload.new.self) c.in-Ok.ensures.begun))
    c.lead.ensures.goes))

pub returns-in_err-has_ended-in-Ok-clause-any_moment : goal.returns-in_err-has_ended-in-Ok-clause-any_moment
returns-in_err-has_ended-in-Ok-clause-any_moment g c = λ config begin is.
    leaves_same g.D.Device.seen g.D.Device.moment g.D.Device.left_since (Restores config begin) c.args.saved.now.journal
    c.begin_reload.new.self.journal c.lead.new.saved.journal (c.lead.ensures.journal ∙ c.set_both.ensures.journal)
    (c.begin_reload.ensures.any_moment config begin is)

pub returns-in-Ok-clause-goes : goal.returns-in-Ok-clause-goes
returns-in-Ok-clause-goes g c =
    let begun = goes_unheard g.R.Renderer.page g.N.Network.came g.N.Network.gone g.N.Network.wakes g.N.Network.is_free (IsOfReload c.args.configuration)
    c.begin_reload.new.self.hub c.set_both.new.saved.hub c.args.net.now c.args.self.now.peers c.set_both.ensures.same
    (quiet_wider (IsSetting c.args.configuration.readers c.args.configuration.media) (IsOfReload c.args.configuration)
    (g.R.Renderer.page c.begin_reload.new.self.hub.0) c.begin_reload.new.self.hub.1 c.set_both.new.saved.hub.1
    (setting_reloads c.args.configuration) c.set_both.ensures.quiet) c.set_both.ensures.given in
    subst (λ h. GoesOnBy g.R.Renderer.page g.N.Network.came g.N.Network.gone g.N.Network.wakes g.N.Network.is_free (IsOfReload c.args.configuration) h c.lead.new.saved.hub
    c.args.net.now c.lead.new.net c.args.self.now.peers c.lead.new.self.peers) c.begin_reload.ensures.hub
    (goes_on g.R.Renderer.page g.N.Network.came g.N.Network.gone g.N.Network.wakes g.N.Network.is_free (IsOfReload c.args.configuration) c.begin_reload.new.self.hub
    c.set_both.new.saved.hub c.lead.new.saved.hub c.args.net.now c.args.net.now c.lead.new.net c.args.self.now.peers
    c.args.self.now.peers c.lead.new.self.peers begun
    (goes_wider g.R.Renderer.page g.N.Network.came g.N.Network.gone g.N.Network.wakes g.N.Network.is_free (IsOfLead c.in-Ok.lead.edits) (IsOfReload c.args.configuration)
    c.set_both.new.saved.hub c.lead.new.saved.hub c.args.net.now c.lead.new.net c.args.self.now.peers c.lead.new.self.peers
    (lead_reloads c.args.configuration c.in-Ok.lead.edits
    (on_the_way g.D.Device.seen g.D.Device.may_leave g.D.Device.failed g.D.Device.stale c.args.configuration.pages
    (with_media c.args.saved.now.hub.1 c.args.configuration.media) c.in-Ok.lead []
    (beside c.args.configuration.media c.begin_reload.new.self) c.in-Ok.ensures.begun))
    c.lead.ensures.goes))

pub returns-in-Ok-clause-outcome : goal.returns-in-Ok-clause-outcome
returns-in-Ok-clause-outcome g c =
    let w = with_media c.args.saved.now.hub.1 c.args.configuration.media in
    let set = c.in_default.ensures.set in
    let under = set_is_under_way g.D.Device.seen g.D.Device.may_leave g.D.Device.failed g.D.Device.stale c.args.configuration.pages
    c.args.saved.now.hub.1 c.in-Ok.lead c.args.configuration.media c.begin_reload.new.self c.set_both.new.saved c.in-Ok.ensures.begun
    (ap (λ (x : World). x.site) set) (ap (λ (x : World). x.media) set) (ap (λ (x : World). x.puts) set) c.set_both.ensures.journal
    c.set_both.ensures.unsaved in
    let led = c.in_ok-has_ended-in-Ok.ensures.leads c.args.configuration.pages w under in (
      c.lead.ensures.readers ∙ ap (λ (x : World). x.readers) set,
      led.media,
      subst (λ n. IsRestarted g.D.Device.seen g.D.Device.may_leave g.D.Device.failed g.D.Device.stale c.args.configuration.pages
          c.lead.new.saved.journal c.lead.new.saved.hub.1 n) (sym c.by-reloaded.ensures.records)
          (is_restarted g.D.Device.seen g.D.Device.may_leave g.D.Device.failed g.D.Device.stale c.args.configuration.pages w
          c.in-Ok.lead c.in-Ok.lead.edits c.lead.new.saved led refl),
    )

pub returns-in-Ok-clause-settled : goal.returns-in-Ok-clause-settled
returns-in-Ok-clause-settled g c = λ config is of_calls.
    let w = with_media c.args.saved.now.hub.1 c.args.configuration.media in
    let set = c.in_default.ensures.set in
    let under = set_is_under_way g.D.Device.seen g.D.Device.may_leave g.D.Device.failed g.D.Device.stale c.args.configuration.pages
    c.args.saved.now.hub.1 c.in-Ok.lead c.args.configuration.media c.begin_reload.new.self c.set_both.new.saved c.in-Ok.ensures.begun
    (ap (λ (x : World). x.site) set) (ap (λ (x : World). x.media) set) (ap (λ (x : World). x.puts) set) c.set_both.ensures.journal
    c.set_both.ensures.unsaved in
    let led = c.in_ok-has_ended-in-Ok.ensures.leads c.args.configuration.pages w under in
    let apart = apart_of_saved g.D.Device.seen g.D.Device.may_leave g.D.Device.failed g.D.Device.stale config c.args.saved.now.hub.1
    c.begin_reload.new.self.hub.1 c.begin_reload.new.self.journal c.begin_reload.new.self.unsaved
    (c.in-Ok.ensures.saved config c.args.saved.now.hub.1 is.0) in
    is_settled g.D.Device.seen g.D.Device.may_leave g.D.Device.failed g.D.Device.stale c.args.configuration.pages w
    c.in-Ok.lead c.in-Ok.lead.edits c.lead.new.saved led refl c.reloads_are_restored.ensures c.in_ok-has_ended-in-Ok.ensures.all of_calls
    (subst (λ (j : Option (Journal g.row.D.Denot)). IfSome j (λ _. IsApart c.args.saved.now.hub.1.site c.args.configuration.media))
    (sym (c.lead.ensures.journal ∙ c.set_both.ensures.journal))
    (subst (λ (x : World). IfSome c.begin_reload.new.self.journal (λ _. IsApart x.site c.args.configuration.media))
    (ap (λ h. h.1) c.begin_reload.ensures.hub)
    (if_weaker c.begin_reload.new.self.journal _ _ c.in_default.ensures.apart apart)))

pub returns-in-Ok-clause-any_moment : goal.returns-in-Ok-clause-any_moment
returns-in-Ok-clause-any_moment g c = λ config begin is.
    leaves_same g.D.Device.seen g.D.Device.moment g.D.Device.left_since (Restores config begin) c.args.saved.now.journal
    c.begin_reload.new.self.journal c.lead.new.saved.journal (c.lead.ensures.journal ∙ c.set_both.ensures.journal)
    (c.begin_reload.ensures.any_moment config begin is)

-- it is refused before

pub returns-in-Err-Refused-clause-goes : goal.returns-in-Err-Refused-clause-goes
returns-in-Err-Refused-clause-goes g c =
    subst (λ h. GoesOnBy g.R.Renderer.page g.N.Network.came g.N.Network.gone g.N.Network.wakes g.N.Network.is_free (IsOfReload c.args.configuration) h c.begin_reload.new.self.hub
    c.args.net.now c.args.net.now c.args.self.now.peers c.args.self.now.peers) c.begin_reload.ensures.hub
    (goes_unheard g.R.Renderer.page g.N.Network.came g.N.Network.gone g.N.Network.wakes g.N.Network.is_free (IsOfReload c.args.configuration) c.begin_reload.new.self.hub
    c.begin_reload.new.self.hub c.args.net.now c.args.self.now.peers refl
    (quiet_nowhere (IsOfReload c.args.configuration) (g.R.Renderer.page c.begin_reload.new.self.hub.0) c.begin_reload.new.self.hub.1) refl)

pub returns-clause-goes : goal.returns-clause-goes
returns-clause-goes g c =
    subst (λ h. GoesOnBy g.R.Renderer.page g.N.Network.came g.N.Network.gone g.N.Network.wakes g.N.Network.is_free (IsOfReload c.args.configuration) h c.begin_reload.new.self.hub
    c.args.net.now c.args.net.now c.args.self.now.peers c.args.self.now.peers) c.begin_reload.ensures.hub
    (goes_unheard g.R.Renderer.page g.N.Network.came g.N.Network.gone g.N.Network.wakes g.N.Network.is_free (IsOfReload c.args.configuration) c.begin_reload.new.self.hub
    c.begin_reload.new.self.hub c.args.net.now c.args.self.now.peers refl
    (quiet_nowhere (IsOfReload c.args.configuration) (g.R.Renderer.page c.begin_reload.new.self.hub.0) c.begin_reload.new.self.hub.1) refl)
