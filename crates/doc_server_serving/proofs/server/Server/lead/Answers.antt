use Rattle.std.proofs.Common.{◌≡◌, ◌≤◌, ◌<◌, ◌++◌, ◌∙◌, List, [], ◌∷◌, true, length, ap, arith, append-nil, append_assoc, refl, subst, sym}
use Rattle.std.specs.Prelude.{◌==◌}
use Rattle.std.specs.FinMap as map
use Rattle.std.proofs.lemmas.Bool.{eqb-true}
use Rattle.doc_hub.specs.Worlds.{World}
use Rattle.doc_server_network.proofs.Leading.{all_stays, is_of_all, led_further, ready_stays, unedited_stays}
use Rattle.doc_server_network.specs.Reloads.{IsUnderWay}
use Rattle.doc_store.specs.declared.site_edit.SiteEdit.{SiteEdit}
use Rattle.doc_server_serving.specs.Leading.{IsOfLead}
use Rattle.doc_server_turns.specs.QuietRuns.{IsOfPeers}
use Rattle.doc_server_serving.proofs.Accepting.{quiet_nowhere}
use Rattle.doc_server_serving.proofs.Going.{goes_on, goes_unheard, goes_wider}
use Rattle.doc_server_serving.proofs.Reloading.{peers_lead, quiet_part}
use Rattle.doc_server_serving.proofs.server.Server.lead.Goals as goal

none_left : (edits : List SiteEdit) → (length edits == 0) ≡ true → edits ≡ []
none_left [] none = refl
none_left (edit ∷ edits) none = absurd (omega (arith, eqb-true (length (edit ∷ edits)) 0 none))

further : (edits front left part rest : List SiteEdit) → edits ≡ front ++ left → part ++ rest ≡ left → edits ≡ (front ++ part) ++ rest
further edits front left part rest is whole = is ∙ ap (λ l. front ++ l) (sym whole) ∙ sym (append_assoc front part rest)

pub parts-init : goal.parts-init
parts-init g c = record {
  goes = goes_unheard g.R.Renderer.page g.N.Network.came g.N.Network.gone g.N.Network.wakes g.N.Network.is_free (IsOfLead c.args.lead.now.edits)
      c.args.saved.now.hub c.args.saved.now.hub c.args.net.now c.args.self.now.peers refl
      (quiet_nowhere (IsOfLead c.args.lead.now.edits) (g.R.Renderer.page c.args.saved.now.hub.0) c.args.saved.now.hub.1) refl;
  done = ([], sym c.get-left.ensures, λ config begin is. is);
  readers = refl;
  journal = refl;
  bound = λ le. le;
  most = refl;
  calls = λ k f. f;
  ends = λ e. cc;
  all = c.requires.all;
  ready = c.requires.ready;
}

pub pass-requires-clause-all : goal.pass-requires-clause-all
pass-requires-clause-all g c =
    all_stays c.parts.saved c.lead.new.self c.lead.ensures.journal c.lead.ensures.unsaved c.parts.invariant.all

pub pass-requires-clause-ready : goal.pass-requires-clause-ready
pass-requires-clause-ready g c =
    ready_stays g.D.Device.seen g.D.Device.may_leave g.D.Device.failed g.D.Device.stale c.parts.saved c.lead.new.self
    c.lead.ensures.journal c.lead.ensures.unsaved c.parts.invariant.ready

pub pass-requires-clause-free : goal.pass-requires-clause-free
pass-requires-clause-free g c =
    subst (λ given. (k : _) → given < k → g.N.Network.is_free c.parts.net k) (sym (ap (λ (w : World). w.given) c.lead.ensures.others))
    (c.parts.invariant.goes.free c.requires.free)

pub parts-preserved : goal.parts-preserved
parts-preserved g c =
    let led = goes_on g.R.Renderer.page g.N.Network.came g.N.Network.gone g.N.Network.wakes g.N.Network.is_free (IsOfLead c.args.lead.now.edits)
    c.args.saved.now.hub c.parts.saved.hub c.lead.new.self.hub c.args.net.now c.parts.net c.parts.net c.args.self.now.peers
    c.parts.self.peers c.parts.self.peers c.parts.invariant.goes
    (goes_unheard g.R.Renderer.page g.N.Network.came g.N.Network.gone g.N.Network.wakes g.N.Network.is_free (IsOfLead c.args.lead.now.edits)
    c.parts.saved.hub c.lead.new.self.hub c.parts.net c.parts.self.peers c.lead.ensures.same
    (quiet_part c.args.lead.now.edits c.part_of.result.0.now
    (is_of_all c.args.lead.now.edits c.parts.invariant.done.0 c.part_of.result.0.now c.part_of.result.1.now
    (c.parts.invariant.done.1 ∙ ap (λ l. c.parts.invariant.done.0 ++ l) (sym c.part_of.ensures.whole)))
    (g.R.Renderer.page c.parts.saved.hub.0) c.parts.saved.hub.1 c.lead.new.self.hub.1 c.lead.ensures.leads)
    (ap (λ (w : World). w.given) c.lead.ensures.others)) in
    record {
      goes = goes_on g.R.Renderer.page g.N.Network.came g.N.Network.gone g.N.Network.wakes g.N.Network.is_free (IsOfLead c.args.lead.now.edits)
          c.args.saved.now.hub c.lead.new.self.hub c.pass.new.saved.hub c.args.net.now c.parts.net c.pass.new.net c.args.self.now.peers
          c.parts.self.peers c.pass.new.self.peers led
          (goes_wider g.R.Renderer.page g.N.Network.came g.N.Network.gone g.N.Network.wakes g.N.Network.is_free IsOfPeers (IsOfLead c.args.lead.now.edits)
          c.lead.new.self.hub c.pass.new.saved.hub c.parts.net c.pass.new.net c.parts.self.peers c.pass.new.self.peers
          (peers_lead c.args.lead.now.edits) c.pass.ensures.goes);
      done = (
        c.parts.invariant.done.0 ++ c.part_of.result.0.now,
        further c.args.lead.now.edits c.parts.invariant.done.0 c.parts.left.now c.part_of.result.0.now c.part_of.result.1.now
            c.parts.invariant.done.1 c.part_of.ensures.whole,
        λ config begin is.
            unedited_stays g.D.Device.seen g.D.Device.may_leave g.D.Device.failed g.D.Device.stale config begin c.args.lead.now
            (c.parts.invariant.done.0 ++ c.part_of.result.0.now) c.lead.new.self
            (led_further g.D.Device.seen g.D.Device.may_leave g.D.Device.failed g.D.Device.stale config begin c.args.lead.now
            c.parts.invariant.done.0 c.parts.saved (c.parts.invariant.done.2 config begin is)
            (g.R.Renderer.page c.parts.saved.hub.0) c.part_of.result.0.now c.lead.new.self c.in_ok-lead.ensures.made
            c.lead.ensures.leads c.lead.ensures.others c.lead.ensures.journal c.lead.ensures.unsaved)
            c.pass.new.saved c.pass.ensures.unedited,
      );
      readers = c.pass.ensures.unedited.site.readers ∙ ap (λ (w : World). w.readers) c.lead.ensures.others ∙ c.parts.invariant.readers;
      journal = c.pass.ensures.unedited.journal ∙ c.lead.ensures.journal ∙ c.parts.invariant.journal;
      bound = λ le.
          subst (λ most. map.len c.pass.new.self.peers ≤ most) c.parts.invariant.most
          (c.pass.ensures.bound (subst (λ most. map.len c.parts.self.peers ≤ most) (sym c.parts.invariant.most)
          (c.parts.invariant.bound le)));
      most = c.pass.ensures.most ∙ c.parts.invariant.most;
      calls = λ k f. c.pass.ensures.calls k (c.parts.invariant.calls k f);
      ends = c.in_ok-has_ended.ensures.ends;
      all = c.in_ok-has_ended.ensures.all;
      ready = c.in_ok-has_ended.ensures.ready;
    }

pub returns-in_err-lead-clause-goes : goal.returns-in_err-lead-clause-goes
returns-in_err-lead-clause-goes g c =
    let led = goes_on g.R.Renderer.page g.N.Network.came g.N.Network.gone g.N.Network.wakes g.N.Network.is_free (IsOfLead c.args.lead.now.edits)
    c.args.saved.now.hub c.parts.saved.hub c.lead.new.self.hub c.args.net.now c.parts.net c.parts.net c.args.self.now.peers
    c.parts.self.peers c.parts.self.peers c.parts.invariant.goes
    (goes_unheard g.R.Renderer.page g.N.Network.came g.N.Network.gone g.N.Network.wakes g.N.Network.is_free (IsOfLead c.args.lead.now.edits)
    c.parts.saved.hub c.lead.new.self.hub c.parts.net c.parts.self.peers c.lead.ensures.same
    (quiet_part c.args.lead.now.edits c.part_of.result.0.now
    (is_of_all c.args.lead.now.edits c.parts.invariant.done.0 c.part_of.result.0.now c.part_of.result.1.now
    (c.parts.invariant.done.1 ∙ ap (λ l. c.parts.invariant.done.0 ++ l) (sym c.part_of.ensures.whole)))
    (g.R.Renderer.page c.parts.saved.hub.0) c.parts.saved.hub.1 c.lead.new.self.hub.1 c.lead.ensures.leads)
    (ap (λ (w : World). w.given) c.lead.ensures.others)) in led

pub returns-in_err-lead-clause-readers : goal.returns-in_err-lead-clause-readers
returns-in_err-lead-clause-readers g c = ap (λ (w : World). w.readers) c.lead.ensures.others ∙ c.parts.invariant.readers

pub returns-in_err-lead-clause-journal : goal.returns-in_err-lead-clause-journal
returns-in_err-lead-clause-journal g c = c.lead.ensures.journal ∙ c.parts.invariant.journal

pub returns-in_err-has_ended-clause-goes : goal.returns-in_err-has_ended-clause-goes
returns-in_err-has_ended-clause-goes g c =
    let led = goes_on g.R.Renderer.page g.N.Network.came g.N.Network.gone g.N.Network.wakes g.N.Network.is_free (IsOfLead c.args.lead.now.edits)
    c.args.saved.now.hub c.parts.saved.hub c.lead.new.self.hub c.args.net.now c.parts.net c.parts.net c.args.self.now.peers
    c.parts.self.peers c.parts.self.peers c.parts.invariant.goes
    (goes_unheard g.R.Renderer.page g.N.Network.came g.N.Network.gone g.N.Network.wakes g.N.Network.is_free (IsOfLead c.args.lead.now.edits)
    c.parts.saved.hub c.lead.new.self.hub c.parts.net c.parts.self.peers c.lead.ensures.same
    (quiet_part c.args.lead.now.edits c.part_of.result.0.now
    (is_of_all c.args.lead.now.edits c.parts.invariant.done.0 c.part_of.result.0.now c.part_of.result.1.now
    (c.parts.invariant.done.1 ∙ ap (λ l. c.parts.invariant.done.0 ++ l) (sym c.part_of.ensures.whole)))
    (g.R.Renderer.page c.parts.saved.hub.0) c.parts.saved.hub.1 c.lead.new.self.hub.1 c.lead.ensures.leads)
    (ap (λ (w : World). w.given) c.lead.ensures.others)) in
    goes_on g.R.Renderer.page g.N.Network.came g.N.Network.gone g.N.Network.wakes g.N.Network.is_free (IsOfLead c.args.lead.now.edits)
    c.args.saved.now.hub c.lead.new.self.hub c.pass.new.saved.hub c.args.net.now c.parts.net c.pass.new.net c.args.self.now.peers
    c.parts.self.peers c.pass.new.self.peers led
    (goes_wider g.R.Renderer.page g.N.Network.came g.N.Network.gone g.N.Network.wakes g.N.Network.is_free IsOfPeers (IsOfLead c.args.lead.now.edits)
    c.lead.new.self.hub c.pass.new.saved.hub c.parts.net c.pass.new.net c.parts.self.peers c.pass.new.self.peers
    (peers_lead c.args.lead.now.edits) c.pass.ensures.goes)

pub returns-in_err-has_ended-clause-readers : goal.returns-in_err-has_ended-clause-readers
returns-in_err-has_ended-clause-readers g c = c.pass.ensures.unedited.site.readers ∙ ap (λ (w : World). w.readers) c.lead.ensures.others ∙ c.parts.invariant.readers

pub returns-in_err-has_ended-clause-journal : goal.returns-in_err-has_ended-clause-journal
returns-in_err-has_ended-clause-journal g c = c.pass.ensures.unedited.journal ∙ c.lead.ensures.journal ∙ c.parts.invariant.journal

pub returns-in_err-has_ended-clause-bound : goal.returns-in_err-has_ended-clause-bound
returns-in_err-has_ended-clause-bound g c = λ le.
    subst (λ most. map.len c.pass.new.self.peers ≤ most) c.parts.invariant.most
    (c.pass.ensures.bound (subst (λ most. map.len c.parts.self.peers ≤ most) (sym c.parts.invariant.most)
    (c.parts.invariant.bound le)))

pub returns-in_err-has_ended-clause-most : goal.returns-in_err-has_ended-clause-most
returns-in_err-has_ended-clause-most g c = c.pass.ensures.most ∙ c.parts.invariant.most

pub returns-in_err-has_ended-clause-calls : goal.returns-in_err-has_ended-clause-calls
returns-in_err-has_ended-clause-calls g c = λ k f. c.pass.ensures.calls k (c.parts.invariant.calls k f)

pub returns-clause-leads : goal.returns-clause-leads
returns-clause-leads g c = λ config begin is.
    subst (λ done. IsUnderWay g.D.Device.seen g.D.Device.may_leave g.D.Device.failed g.D.Device.stale config begin c.args.lead.now done
    c.parts.saved)
    (sym (c.parts.invariant.done.1
    ∙ ap (λ l. c.parts.invariant.done.0 ++ l) (none_left c.parts.left.now (sym c.is_empty.ensures ∙ c.parts-test.false))
    ∙ append-nil c.parts.invariant.done.0))
    (c.parts.invariant.done.2 config begin is)
