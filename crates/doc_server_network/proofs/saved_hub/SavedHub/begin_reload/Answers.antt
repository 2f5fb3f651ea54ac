use Rattle.std.proofs.Common.{ap, refl, subst, sym, ◌∙◌}
use Rattle.std.specs.FinMap as map
use Rattle.doc_hub.specs.Worlds.{with_media}
use Rattle.doc_server_reload.specs.Leads.{led}
use Rattle.doc_store_readers.specs.Sites.{Site}
use Rattle.doc_server_network.specs.Reloads.{AreTexts, RemovalsFit}
use Rattle.doc_server_network.specs.Saved.{HasFailed}
use Rattle.doc_server_network.specs.declared.reload_fault.Refusal.TheVariants as refusals
use Rattle.doc_server_network.specs.declared.reload_fault.ReloadFault.TheVariants as faults
use Rattle.doc_server_network.proofs.Reloads.{all_read, always, can_write, cannot_so, lacking_why, leaves_read, ready_anew, ready_read}
use Rattle.doc_server_network.proofs.Reloads.{stays_anew, stopped_kept, stopped_why, unread_kept, unread_ready, unread_why}
use Rattle.doc_server_network.proofs.saved_hub.SavedHub.begin_reload.Goals as goal

-- the records aren't read

pub returns-in_err-texts-clause-ready : goal.returns-in_err-texts-clause-ready
returns-in_err-texts-clause-ready g c =
    unread_ready c.from_residual.result c.in_err-texts.field-0.0 c.from_residual.ensures.1
    g.D.Device.seen g.D.Device.may_leave g.D.Device.failed g.D.Device.stale c.args.config c.args.self.now.hub.1
    c.args.self.now.journal c.texts_anew.new.journal c.args.self.now.unsaved c.texts_anew.ensures.same c.requires.ready
    c.in_err-texts.ensures.open

pub returns-in_err-texts-clause-all : goal.returns-in_err-texts-clause-all
returns-in_err-texts-clause-all g c =
    always _ _
    (all_read c.args.self.now.journal c.texts_anew.new.journal c.args.self.now.unsaved c.texts_anew.ensures.same c.requires.all)

pub returns-in_err-texts-clause-refused : goal.returns-in_err-texts-clause-refused
returns-in_err-texts-clause-refused g c =
    unread_why c.from_residual.result c.in_err-texts.field-0.0 c.from_residual.ensures.1
    g.D.Device.seen g.D.Device.may_leave g.D.Device.failed g.D.Device.stale c.args.config
    (with_media c.args.self.now.hub.1 c.args.media.now)
    c.args.self.now.journal c.texts_anew.new.journal c.args.self.now.unsaved c.texts_anew.ensures.same c.in_err-texts.ensures.refused

pub returns-in_err-texts-clause-kept : goal.returns-in_err-texts-clause-kept
returns-in_err-texts-clause-kept g c =
    unread_kept c.from_residual.result c.in_err-texts.field-0.0 c.from_residual.ensures.1
    g.D.Device.seen g.D.Device.may_leave g.D.Device.failed g.D.Device.stale c.args.config c.args.self.now.hub.1
    c.args.self.now.journal c.texts_anew.new.journal c.args.self.now.unsaved c.texts_anew.ensures.same c.in_err-texts.ensures.open

pub returns-in_err-texts-clause-failed : goal.returns-in_err-texts-clause-failed
returns-in_err-texts-clause-failed g c =
    cannot_so c.from_residual.result c.in_err-texts.field-0.0 c.from_residual.ensures.1
    (HasFailed g.D.Device.failed c.texts_anew.new.journal) c.in_err-texts.ensures.failed

pub returns-in_err-texts-clause-any_moment : goal.returns-in_err-texts-clause-any_moment
returns-in_err-texts-clause-any_moment g c = λ config begin is.
    leaves_read g.D.Device.seen g.D.Device.may_leave g.D.Device.failed g.D.Device.stale g.D.Device.moment g.D.Device.left_since config
    begin c.args.self.now.journal c.texts_anew.new.journal c.args.self.now.unsaved c.args.self.now.hub.1
    c.texts_anew.ensures.any_moment is

-- what a start would serve isn't served

pub returns-in_err-again-clause-ready : goal.returns-in_err-again-clause-ready
returns-in_err-again-clause-ready g c =
    always _ _
    (ready_read g.D.Device.seen g.D.Device.may_leave g.D.Device.failed g.D.Device.stale c.args.self.now.journal c.texts_anew.new.journal
    c.args.self.now.unsaved c.texts_anew.ensures.same c.in_ok-texts.ensures.open c.requires.ready)

pub returns-in_err-again-clause-all : goal.returns-in_err-again-clause-all
returns-in_err-again-clause-all g c =
    always _ _
    (all_read c.args.self.now.journal c.texts_anew.new.journal c.args.self.now.unsaved c.texts_anew.ensures.same c.requires.all)

pub returns-in_err-again-clause-any_moment : goal.returns-in_err-again-clause-any_moment
returns-in_err-again-clause-any_moment g c = λ config begin is.
    leaves_read g.D.Device.seen g.D.Device.may_leave g.D.Device.failed g.D.Device.stale g.D.Device.moment g.D.Device.left_since config
    begin c.args.self.now.journal c.texts_anew.new.journal c.args.self.now.unsaved c.args.self.now.hub.1
    c.texts_anew.ensures.any_moment is

pub returns-in_err-again-clause-refused : goal.returns-in_err-again-clause-refused
returns-in_err-again-clause-refused g c =
    let (refusal, is, why) = c.in_err-again.ensures.refused in
    stopped_why c.from_residual-in_err-again.result c.in_err-again.field-0.0 c.from_residual-in_err-again.ensures.1
    g.D.Device.seen g.D.Device.may_leave g.D.Device.failed g.D.Device.stale c.args.config
    (with_media c.args.self.now.hub.1 c.args.media.now)
    c.args.self.now.journal c.texts_anew.new.journal c.args.self.now.unsaved c.texts_anew.ensures.same
    c.get-records.result.now c.room.result refusal is
    (subst (AreTexts g.D.Device.seen g.D.Device.may_leave g.D.Device.failed g.D.Device.stale c.texts_anew.new.journal) (sym c.get-records.ensures) c.in_ok-texts.ensures.read) c.room.ensures why

pub returns-in_err-again-clause-kept : goal.returns-in_err-again-clause-kept
returns-in_err-again-clause-kept g c =
    let (refusal, is, why) = c.in_err-again.ensures.refused in
    stopped_kept c.from_residual-in_err-again.result c.in_err-again.field-0.0 c.from_residual-in_err-again.ensures.1
    g.D.Device.seen g.D.Device.may_leave g.D.Device.failed g.D.Device.stale c.args.config c.args.self.now.hub.1
    c.args.self.now.journal c.texts_anew.new.journal c.args.self.now.unsaved c.texts_anew.ensures.same refusal is
    c.in_ok-texts.ensures.open

-- the edits aren't found

pub returns-in_err-edits-clause-kept : goal.returns-in_err-edits-clause-kept
returns-in_err-edits-clause-kept g c =
    stopped_kept c.from_residual-in_err-edits.result (faults.Refused refusals.Memory) c.from_residual-in_err-edits.ensures.1
    g.D.Device.seen g.D.Device.may_leave g.D.Device.failed g.D.Device.stale c.args.config c.args.self.now.hub.1
    c.args.self.now.journal c.texts_anew.new.journal c.args.self.now.unsaved c.texts_anew.ensures.same refusals.Memory refl
    c.in_ok-texts.ensures.open

pub returns-in_err-edits-clause-refused : goal.returns-in_err-edits-clause-refused
returns-in_err-edits-clause-refused g c =
    lacking_why c.from_residual-in_err-edits.result (faults.Refused refusals.Memory) c.from_residual-in_err-edits.ensures.1
    g.D.Device.seen g.D.Device.may_leave g.D.Device.failed g.D.Device.stale c.args.config
    (with_media c.args.self.now.hub.1 c.args.media.now)
    c.args.self.now.journal c.texts_anew.new.journal c.args.self.now.unsaved c.texts_anew.ensures.same refl

pub returns-in_err-edits-clause-ready : goal.returns-in_err-edits-clause-ready
returns-in_err-edits-clause-ready g c =
    always _ _
    (ready_read g.D.Device.seen g.D.Device.may_leave g.D.Device.failed g.D.Device.stale c.args.self.now.journal c.texts_anew.new.journal
    c.args.self.now.unsaved c.texts_anew.ensures.same c.in_ok-texts.ensures.open c.requires.ready)

pub returns-in_err-edits-clause-all : goal.returns-in_err-edits-clause-all
returns-in_err-edits-clause-all g c =
    always _ _
    (all_read c.args.self.now.journal c.texts_anew.new.journal c.args.self.now.unsaved c.texts_anew.ensures.same c.requires.all)

pub returns-in_err-edits-clause-any_moment : goal.returns-in_err-edits-clause-any_moment
returns-in_err-edits-clause-any_moment g c = λ config begin is.
    leaves_read g.D.Device.seen g.D.Device.may_leave g.D.Device.failed g.D.Device.stale g.D.Device.moment g.D.Device.left_since config
    begin c.args.self.now.journal c.texts_anew.new.journal c.args.self.now.unsaved c.args.self.now.hub.1
    c.texts_anew.ensures.any_moment is

pub returns-in_err-edits-clause-failed : goal.returns-in_err-edits-clause-failed
returns-in_err-edits-clause-failed g c =
    can_write c.from_residual-in_err-edits.result (faults.Refused refusals.Memory) c.from_residual-in_err-edits.ensures.1
    (HasFailed g.D.Device.failed c.texts_anew.new.journal) (λ is. cc)

-- they are found

pub returns-clause-ready : goal.returns-clause-ready
returns-clause-ready g c =
    ready_anew g.D.Device.seen g.D.Device.may_leave g.D.Device.failed g.D.Device.stale c.args.self.now.journal c.texts_anew.new.journal
    c.args.self.now.unsaved c.lines_where.result c.texts_anew.ensures.same c.in_ok-texts.ensures.open c.requires.ready
    c.lines_where.ensures.none

pub returns-clause-begun : goal.returns-clause-begun
returns-clause-begun g c = record {
  texts = c.get-records.result.now;
  are_texts = subst (AreTexts g.D.Device.seen g.D.Device.may_leave g.D.Device.failed g.D.Device.stale c.texts_anew.new.journal) (sym c.get-records.ensures) c.in_ok-texts.ensures.read;
  count = refl;
  again = c.in_ok-again.again;
  is = c.in_ok-again.ensures.start;
  edits = c.in_ok-edits.ensures ∙ ap (λ (s : Site). led s c.in_ok-again.again.site) c.store.ensures.site;
  old_site = c.in_ok-again.ensures.sites.1;
  new_site = c.in_ok-again.ensures.sites.0;
  counted = c.in_ok-again.ensures.counted;
  fits = subst (λ o. RemovalsFit o (map.len c.in_ok-again.again.site.pages)) c.room.ensures c.in_ok-again.ensures.room;
  fresh = c.lines_where.ensures.none;
  made = refl;
  media = refl;
  apart = λ apart. apart;
}

pub returns-clause-saved : goal.returns-clause-saved
returns-clause-saved g c = λ config begin is.
    stays_anew g.D.Device.seen g.D.Device.may_leave g.D.Device.failed g.D.Device.stale config begin c.args.self.now.journal
    c.texts_anew.new.journal c.args.self.now.unsaved c.lines_where.result c.args.self.now.hub.1 c.texts_anew.ensures.same
    c.in_ok-texts.ensures.open c.requires.all c.lines_where.ensures.none is

pub returns-clause-any_moment : goal.returns-clause-any_moment
returns-clause-any_moment g c = λ config begin is.
    leaves_read g.D.Device.seen g.D.Device.may_leave g.D.Device.failed g.D.Device.stale g.D.Device.moment g.D.Device.left_since config
    begin c.args.self.now.journal c.texts_anew.new.journal c.args.self.now.unsaved c.args.self.now.hub.1
    c.texts_anew.ensures.any_moment is
