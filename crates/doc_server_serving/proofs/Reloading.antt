-- What a reload does to a hub: it is told to nobody's connection.
use Rattle.std.proofs.Common.{◌≡◌, ◌++◌, ℕ, List, [], Bool, refl, sym, ap, subst, ◌∙◌}
use Rattle.std.specs.Prelude.{flat_map, Contains, IfSome, Option, Some, None}
use Rattle.std.proofs.lemmas.List.Elements.{All-weaker}
use Rattle.doc_hub.specs.Replies.{Renders}
use Rattle.doc_hub_events.specs.declared.event.Event.{Event}
use Rattle.doc_hub_events.specs.declared.event.Event.TheVariants as events
use Rattle.doc_hub_events.specs.declared.event.ReaderEdit.TheVariants as reader_edits
use Rattle.doc_hub.specs.Runs.{sent_by}
use Rattle.doc_hub.specs.RunParts.{pushed_by}
use Rattle.doc_hub.specs.Worlds.{World, with_media}
use Rattle.doc_media.specs.Media.{Media}
use Rattle.doc_server_journal.specs.declared.journal.Journal.{Journal}
use Rattle.doc_server_network.specs.declared.reload_fault.Refusal.{Refusal}
use Rattle.doc_server_network.specs.declared.reload_fault.Refusal.TheVariants as refusals
use Rattle.doc_server_network.specs.Leading.{IsOneOf, LeadsByEdits}
use Rattle.doc_server_network.specs.Reloads.{IsOnTheWay, IsRefusedFor}
use Rattle.doc_server_network.specs.Followings.{EditsAlone}
use Rattle.doc_server_turns.specs.Settings.{IsUnset}
use Rattle.doc_server_serving.specs.Leading.{IsEdit, IsOfGiven, IsOfLead, IsOfReload, IsOfServer}
use Rattle.doc_server_turns.specs.QuietRuns.{IsOfPeers, LeadsQuietlyBy}
use Rattle.doc_server_turns.specs.Settings.{IsSetting}
use Rattle.doc_server_serving.specs.declared.given.Configuration.{Configuration}
use Rattle.doc_server_serving.specs.declared.given.Given.{Given}
use Rattle.doc_server_serving.specs.declared.given.Given.TheVariants as givens
use Rattle.doc_server_serving.proofs.Leading.{leads_wider, nothing_on}
use Rattle.doc_store.specs.Store.{StoreState}
use Rattle.doc_store.specs.declared.site_edit.SiteEdit.{SiteEdit}

-- a quiet run of some events is one of more of them
pub quiet_wider : (own more : Event → Type 0) (render : Renders) (w v : World) → ((e : Event) → own e → more e)
    → LeadsQuietlyBy own render w v → LeadsQuietlyBy more render w v
quiet_wider own more render w v wider a =
    record { leads = leads_wider own more render w v wider a.leads; pushes = a.pushes; sends = a.sends }

-- where there is something, what follows from what holds there
pub if_weaker : {A : Type 0} (o : Option A) (P Q : Type 0) → (P → Q) → IfSome o (λ _. P) → IfSome o (λ _. Q)
if_weaker None P Q so is = tt
if_weaker (Some x) P Q so is = so is

-- what sets the readers and the media of a configuration is of it
pub setting_reloads : (given : Configuration) (e : Event) → IsSetting given.readers given.media e → IsOfReload given e
setting_reloads given events.Connect is = absurd is
setting_reloads given (events.On id call) is = absurd is
setting_reloads given (events.Site edit) is = absurd is
setting_reloads given (events.Reader (reader_edits.All readers)) is = is
setting_reloads given (events.Reader (reader_edits.Set token reader)) is = absurd is
setting_reloads given (events.Reader (reader_edits.Remove token)) is = absurd is
setting_reloads given (events.TakePuts takes) is = absurd is
setting_reloads given (events.SetMedia media) is = is

-- why the media weren't set is why the reload was refused
pub unset_refused : {D : Type 0} (seen : D → Option (List ℕ)) (may_leave : D → List ℕ → Type 0) (failed : D → Bool)
    (stale : D → ℕ → Type 0) (config : StoreState) (w : World) (media : Media) (journal : Option (Journal D)) (refusal : Refusal)
    → IsUnset w media refusal → IsRefusedFor seen may_leave failed stale config (with_media w media) journal refusal
unset_refused seen may_leave failed stale config w media journal refusals.Taken is = is
unset_refused seen may_leave failed stale config w media journal refusals.Memory is = tt
unset_refused seen may_leave failed stale config w media journal refusals.Other is = absurd is
unset_refused seen may_leave failed stale config w media journal refusals.Full is = absurd is
unset_refused seen may_leave failed stale config w media journal (refusals.Record fault) is = absurd is

-- the edits of a part of a reload
module _ (edits part : List SiteEdit) (some : (edit : SiteEdit) → Contains part edit → Contains edits edit) where
  edits_alone : (e : Event) → IsOneOf part e → (edit : SiteEdit) × (e ≡ events.Site edit)
  edits_alone events.Connect is = absurd is
  edits_alone (events.On id call) is = absurd is
  edits_alone (events.Site edit) is = (edit, refl)
  edits_alone (events.Reader edit) is = absurd is
  edits_alone (events.TakePuts takes) is = absurd is
  edits_alone (events.SetMedia media) is = absurd is

  are_of_lead : (e : Event) → IsOneOf part e → IsOfLead edits e
  are_of_lead events.Connect is = absurd is
  are_of_lead (events.On id call) is = absurd is
  are_of_lead (events.Site edit) is = some edit is
  are_of_lead (events.Reader edit) is = absurd is
  are_of_lead (events.TakePuts takes) is = absurd is
  are_of_lead (events.SetMedia media) is = absurd is

  pub quiet_part : (render : Renders) (w v : World) → LeadsByEdits render part w v → LeadsQuietlyBy (IsOfLead edits) render w v
  quiet_part render w v is = record {
    leads = record {
      run = is.run;
      runs = is.runs;
      own = All-weaker (λ h. IsOneOf part h.event) (λ h. IsOfLead edits h.event) (λ h of. are_of_lead h.event of) is.run is.own;
    };
    pushes = λ k. ap (flat_map (λ h. pushed_by h.event h.outcome)) (nothing_on (IsOneOf part) edits_alone k is.run is.own);
    sends = λ k. ap (flat_map (λ h. sent_by h.outcome)) (nothing_on (IsOneOf part) edits_alone k is.run is.own);
  }

-- what peers do between
pub peers_lead : (edits : List SiteEdit) (e : Event) → IsOfPeers e → IsOfLead edits e
peers_lead edits events.Connect is = tt
peers_lead edits (events.On id call) is = tt
peers_lead edits (events.TakePuts takes) is = tt
peers_lead edits (events.Site edit) is = absurd is
peers_lead edits (events.Reader edit) is = absurd is
peers_lead edits (events.SetMedia media) is = absurd is

-- a reload's edits, made with turns between, are of its configuration
pub lead_reloads : (given : Configuration) (edits : List SiteEdit) → ((edit : SiteEdit) → Contains edits edit → IsOnTheWay given.pages edit)
    → (e : Event) → IsOfLead edits e → IsOfReload given e
lead_reloads given edits way events.Connect is = tt
lead_reloads given edits way (events.On id call) is = tt
lead_reloads given edits way (events.TakePuts takes) is = tt
lead_reloads given edits way (events.Site edit) is = way edit is
lead_reloads given edits way (events.Reader edit) is = absurd is
lead_reloads given edits way (events.SetMedia media) is = absurd is

-- and the server's, where that was answered
pub reload_serves : (answered : Option Given → Type 0) (given : Configuration) → answered (Some (givens.Configuration given)) → (e : Event)
    → IsOfReload given e → IsOfServer answered e
reload_serves answered given was events.Connect is = tt
reload_serves answered given was (events.On id call) is = tt
reload_serves answered given was (events.TakePuts takes) is = tt
reload_serves answered given was (events.Site edit) is = (givens.Configuration given, was, is)
reload_serves answered given was (events.Reader edit) is = (givens.Configuration given, was, is)
reload_serves answered given was (events.SetMedia media) is = (givens.Configuration given, was, is)

-- the edits of records that are followed
edits_are : (e : Event) → IsEdit e → (edit : SiteEdit) × (e ≡ events.Site edit)
edits_are events.Connect is = absurd is
edits_are (events.On id call) is = absurd is
edits_are (events.Site edit) is = (edit, refl)
edits_are (events.Reader edit) is = absurd is
edits_are (events.TakePuts takes) is = absurd is
edits_are (events.SetMedia media) is = absurd is

pub quiet_follow : (texts : List (List ℕ)) (render : Renders) (w v : World) → EditsAlone render w v
    → LeadsQuietlyBy (IsOfGiven (givens.Records texts)) render w v
quiet_follow texts render w v is =
    let own = All-weaker (λ h. (edit : SiteEdit) × (h.event ≡ events.Site edit)) (λ h. IsEdit h.event)
    (λ h of. subst IsEdit (sym of.1) tt) is.run is.own in
    record {
      leads = record { run = is.run; runs = is.runs; own = own };
      pushes = λ k. ap (flat_map (λ h. pushed_by h.event h.outcome)) (nothing_on IsEdit edits_are k is.run own);
      sends = λ k. ap (flat_map (λ h. sent_by h.outcome)) (nothing_on IsEdit edits_are k is.run own);
    }
