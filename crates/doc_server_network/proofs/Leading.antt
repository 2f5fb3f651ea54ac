-- What keeps a reload under way, and what it comes to where all of its edits are made.
use Rattle.std.proofs.Common.{◌≡◌, ◌≤◌, ◌+◌, ◌*◌, ◌++◌, ℕ, List, [], ◌∷◌, refl, ap, sym, subst, ◌∙◌}
use Rattle.std.specs.Prelude.{Bool, Contains, IfSome, Option, Some, None, option_map, Result}
use Rattle.std.specs.FinMap as map
use Rattle.std.proofs.lemmas.List.Elements.{All-weaker, Contains-append_left, Contains-append_right}
use Rattle.doc_hub.proofs.MediaLaws.{media_stand_apart}
use Rattle.doc_hub.specs.Runs.{Happened, Happens}
use Rattle.doc_hub.specs.Worlds.{IsApart, World, store_of, with_media, with_store}
use Rattle.doc_hub.specs.Replies.{Renders}
use Rattle.doc_hub_events.specs.Events.{disconnect_on, push_on}
use Rattle.doc_hub_events.specs.declared.event.ConnId.{ConnId}
use Rattle.doc_hub_events.specs.declared.event.Event.{Event}
use Rattle.doc_hub_events.specs.declared.event.Event.TheVariants as events
use Rattle.doc_hub_events.specs.declared.refusal.ConnectError.{ConnectError}
use Rattle.doc_hub_events.specs.declared.refusal.PushError.{PushError}
use Rattle.doc_media.specs.Media.{Media}
use Rattle.doc_server_journal.specs.declared.journal.Journal.{Journal}
use Rattle.doc_server_listen.specs.Edits.{Kept}
use Rattle.doc_server_reload.proofs.KeptSites.{what_is_made_gives_the_site}
use Rattle.doc_server_reload.specs.KeptTurns.{IsOfCalls}
use Rattle.doc_server_reload.specs.Leading.{IsOneOf, LeadsByEdits}
use Rattle.doc_server_reload.specs.Leads.{led}
use Rattle.doc_server_reload.specs.ReplyLaws.{IsSiteEdit, SiteEditsLeaveTheRest}
use Rattle.doc_server_restore.specs.Restores.{all_made, made, unstamped}
use Rattle.doc_server_settling.specs.Reserves.{removal_most}
use Rattle.doc_store.specs.Store.{StoreState, page_limit}
use Rattle.doc_store.specs.declared.site_edit.SiteEdit.{SiteEdit}
use Rattle.doc_store_readers.specs.Sites.{Site}
use Rattle.doc_server_network.proofs.QuietEvents.{connects_same, disconnects_same, pushes_same}
use Rattle.doc_server_network.proofs.Settling.{begun}
use Rattle.doc_server_network.specs.Crashes.{OfBoth}
use Rattle.doc_server_network.specs.Reloads.{AreTexts, IsOfStart, IsOnTheWay, IsReloading, IsRestarted, IsUnderWay, Reloads}
use Rattle.doc_server_network.specs.Reloads.{ReloadsAreRestored, RemovalsFit, beside, pages_alone}
use Rattle.doc_server_network.specs.Saved.{HasAll, IsAllSaved, IsReady, IsSavedIn, IsSettled, IsUnedited, no_lines}
use Rattle.doc_server_network.specs.declared.lead.Lead.{Lead}
use Rattle.doc_server_network.specs.declared.saved_hub.SavedHub.{SavedHub}

-- ---- edits behind edits

some_same : {A : Type 0} (x y : A) → Some x ≡ Some y → x ≡ y
some_same x y is = cc

no_some : {A : Type 0} (x : A) → ◌≡◌ {A = Option A} None (Some x) → ⊥
no_some x is = cc

module _ (media : Media) (mid next : StoreState) (more : List SiteEdit) (second : all_made media mid more ≡ Some next) where
  made_join : (edits : List SiteEdit) (store : StoreState) → all_made media store edits ≡ Some mid
      → all_made media store (edits ++ more) ≡ Some next
  made_join [] store first = subst (λ s. all_made media s more ≡ Some next) (sym (some_same store mid first)) second
  made_join (edit ∷ edits) store first = by (made media store edit) (λ s. made_join edits s) first
    where
      by : (found : Option StoreState)
          → ((s : StoreState) → all_made media s edits ≡ Some mid → all_made media s (edits ++ more) ≡ Some next)
          → ◌≡◌ {A = Option StoreState} (elim found [ None ↦ None | Some s ↦ all_made media s edits ]) (Some mid)
          → ◌≡◌ {A = Option StoreState} (elim found [ None ↦ None | Some s ↦ all_made media s (edits ++ more) ]) (Some next)
      by None each none = absurd (no_some mid none)
      by (Some s) each first = each s first

-- a part of some edits has edits of theirs
pub is_of_all : (edits done part rest : List SiteEdit) → edits ≡ done ++ (part ++ rest) → (edit : SiteEdit) → Contains part edit
    → Contains edits edit
is_of_all edits done part rest are edit one =
    subst (λ l. Contains l edit) (sym are)
    (Contains-append_right done (part ++ rest) edit (Contains-append_left part rest edit one))

same_store : (w v : World) → v.site ≡ w.site → v.puts ≡ w.puts → store_of v ≡ store_of w
same_store w v site puts =
    ap (λ s. record { site = s; stamps = map.empty; puts = v.puts }) site
    ∙ ap (λ n. record { site = w.site; stamps = map.empty; puts = n }) puts

-- ---- edits of a hub leave all else

module _ (render : Renders) (part : List SiteEdit) (w v : World) (leads : LeadsByEdits render part w v) where
  is_edit : (h : Happened) (e : Event) → h.event ≡ e → IsOneOf part e → IsSiteEdit h
  is_edit h events.Connect is one = absurd one
  is_edit h (events.On id call) is one = absurd one
  is_edit h (events.Site edit) is one = (edit, is)
  is_edit h (events.Reader edit) is one = absurd one
  is_edit h (events.TakePuts takes) is one = absurd one
  is_edit h (events.SetMedia media) is one = absurd one

  pub rest_stays : SiteEditsLeaveTheRest → v ≡ with_store w (store_of v)
  rest_stays law =
      law render w v leads.run leads.runs
      (All-weaker (λ h. IsOneOf part h.event) IsSiteEdit (λ h one. is_edit h h.event refl one) leads.run leads.own)

-- ---- what leaves a hub unedited

module _ {D R : Type 0} where
  -- the very same
  pub same_is_unedited : (old new : SavedHub D R) → new ≡ old → IsUnedited old new
  same_is_unedited old new is =
      subst (IsUnedited old) (sym is)
      (record { site = record { site = refl; media = refl; puts = refl; readers = refl }; journal = refl; unsaved = refl })

  -- one call behind another
  pub unedited_behind : (a b c : SavedHub D R) → IsUnedited a b → IsUnedited b c → IsUnedited a c
  unedited_behind a b c first second = record {
    site = record {
      site = second.site.site ∙ first.site.site;
      media = second.site.media ∙ first.site.media;
      puts = second.site.puts ∙ first.site.puts;
      readers = second.site.readers ∙ first.site.readers;
    };
    journal = second.journal ∙ first.journal;
    unsaved = second.unsaved ∙ first.unsaved;
  }

  module _ (render : Renders) (old new : SavedHub D R) (journal : new.journal ≡ old.journal) (unsaved : new.unsaved ≡ old.unsaved) where
    pub connect_is_unedited : (said : Result ConnId ConnectError) → Happens render old.hub.1 events.Connect new.hub.1 said
        → IsUnedited old new
    connect_is_unedited said happens =
        record { site = connects_same render old.hub.1 new.hub.1 said happens; journal = journal; unsaved = unsaved }

    pub push_is_unedited : (id : ConnId) (bytes : List ℕ) (said : Result (Unit {0}) PushError)
        → Happens render old.hub.1 (push_on id bytes) new.hub.1 said → IsUnedited old new
    push_is_unedited id bytes said happens =
        record { site = pushes_same render old.hub.1 new.hub.1 id bytes said happens; journal = journal; unsaved = unsaved }

    pub disconnect_is_unedited : (id : ConnId) (said : Bool) → Happens render old.hub.1 (disconnect_on id) new.hub.1 said
        → IsUnedited old new
    disconnect_is_unedited id said happens =
        record { site = disconnects_same render old.hub.1 new.hub.1 id said happens; journal = journal; unsaved = unsaved }

  -- so all stays saved, and the journal stays ready
  pub all_stays : (old new : SavedHub D R) → new.journal ≡ old.journal → new.unsaved ≡ old.unsaved → IsAllSaved old → IsAllSaved new
  all_stays old new journal unsaved all =
      subst (λ j. HasAll j new.unsaved) (sym journal) (subst (HasAll old.journal) (sym unsaved) all)

-- where there is a journal still, what held where there was one
pub if_both : {D : Type 0} (P : Journal D → Journal D → Type 0) (Q : Type 0) (old new : Option (Journal D)) → OfBoth P old new
    → IfSome old (λ _. Q) → IfSome new (λ _. Q)
if_both P Q None None both is = tt
if_both P Q None (Some j) both is = absurd both
if_both P Q (Some i) None both is = absurd both
if_both P Q (Some i) (Some j) both is = is

-- the site of a saved hub is apart from its media
pub apart_of_saved : {D : Type 0} (seen : D → Option (List ℕ)) (may_leave : D → List ℕ → Type 0) (failed : D → Bool)
    (stale : D → ℕ → Type 0) (config : StoreState) (begin w : World) (journal : Option (Journal D)) (unsaved : Kept)
    → IfSome journal (λ j. IsSavedIn seen may_leave failed stale config begin j unsaved w)
    → IfSome journal (λ _. IsApart w.site w.media)
apart_of_saved seen may_leave failed stale config begin w None unsaved is = tt
apart_of_saved seen may_leave failed stale config begin w (Some j) unsaved is = is.apart

module _ {D R : Type 0} (seen : D → Option (List ℕ)) (may_leave : D → List ℕ → Type 0) (failed : D → Bool) (stale : D → ℕ → Type 0) where
  pub ready_stays : (old new : SavedHub D R) → new.journal ≡ old.journal → new.unsaved ≡ old.unsaved
      → IsReady seen may_leave failed stale old → IsReady seen may_leave failed stale new
  ready_stays old new journal unsaved ready =
      subst (λ j. IsReady seen may_leave failed stale (record new { journal = j })) (sym journal)
      (subst (λ k. IsReady seen may_leave failed stale (record new { journal = old.journal; unsaved = k })) (sym unsaved) ready)

  -- ---- a reload that is under way

  module _ (config : StoreState) (begin : World) (lead : Lead) (done : List SiteEdit) (saved : SavedHub D R)
      (is : IsUnderWay seen may_leave failed stale config begin lead done saved) where
    texts_too : (journal : Option (Journal D)) → journal ≡ saved.journal → AreTexts seen may_leave failed stale journal is.texts
    texts_too journal same = subst (λ j. AreTexts seen may_leave failed stale j is.texts) (sym same) is.are_texts

    fits_too : (journal : Option (Journal D)) → journal ≡ saved.journal
        → RemovalsFit (option_map (λ j. j.room) journal) (map.len is.again.site.pages)
    fits_too journal same =
        subst (λ j. RemovalsFit (option_map (λ i. i.room) j) (map.len is.again.site.pages)) (sym same) is.fits

    fresh_too : (journal : Option (Journal D)) (unsaved : Kept) → journal ≡ saved.journal → unsaved ≡ saved.unsaved
        → IfSome journal (λ j. unsaved ≡ no_lines j.room)
    fresh_too journal unsaved same waits =
        subst (λ o. IfSome o (λ j. unsaved ≡ no_lines j.room)) (sym same)
        (subst (λ k. IfSome saved.journal (λ j. k ≡ no_lines j.room)) (sym waits) is.fresh)

    -- some more of its edits are made
    pub led_further : (render : Renders) (part : List SiteEdit) (next : SavedHub D R)
        → all_made saved.hub.1.media (store_of saved.hub.1) part ≡ Some (store_of next.hub.1)
        → LeadsByEdits render part saved.hub.1 next.hub.1 → next.hub.1 ≡ with_store saved.hub.1 (store_of next.hub.1)
        → next.journal ≡ saved.journal → next.unsaved ≡ saved.unsaved
        → IsUnderWay seen may_leave failed stale config begin lead (done ++ part) next
    led_further render part next made leads others journal unsaved = record {
      texts = is.texts;
      are_texts = texts_too next.journal journal;
      count = is.count;
      again = is.again;
      is = is.is;
      edits = is.edits;
      old_site = is.old_site;
      new_site = is.new_site;
      counted = is.counted;
      fits = fits_too next.journal journal;
      fresh = fresh_too next.journal next.unsaved journal unsaved;
      made = made_join begin.media (store_of saved.hub.1) (store_of next.hub.1) part
          (subst (λ m. all_made m (store_of saved.hub.1) part ≡ Some (store_of next.hub.1)) is.media made) done (store_of begin) is.made;
      media = ap (λ (w : World). w.media) others ∙ is.media;
      apart = λ apart. media_stand_apart.apart render saved.hub.1 next.hub.1 leads.run (is.apart apart) leads.runs;
    }

    stays_on : (next : SavedHub D R) → next.hub.1.site ≡ saved.hub.1.site → next.hub.1.media ≡ saved.hub.1.media
        → next.hub.1.puts ≡ saved.hub.1.puts → next.journal ≡ saved.journal → next.unsaved ≡ saved.unsaved
        → IsUnderWay seen may_leave failed stale config begin lead done next
    stays_on next site media puts journal unsaved = record {
      texts = is.texts;
      are_texts = texts_too next.journal journal;
      count = is.count;
      again = is.again;
      is = is.is;
      edits = is.edits;
      old_site = is.old_site;
      new_site = is.new_site;
      counted = is.counted;
      fits = fits_too next.journal journal;
      fresh = fresh_too next.journal next.unsaved journal unsaved;
      made = is.made ∙ ap Some (sym (same_store saved.hub.1 next.hub.1 site puts));
      media = media ∙ is.media;
      apart = λ apart.
          subst (λ (s : Site). IsApart s next.hub.1.media) (sym site)
          (subst (λ (m : Media). IsApart saved.hub.1.site m) (sym media) (is.apart apart));
    }

    -- nothing is edited
    pub unedited_stays : (next : SavedHub D R) → IsUnedited saved next
        → IsUnderWay seen may_leave failed stale config begin lead done next
    unedited_stays next rests = stays_on next rests.site.site rests.site.media rests.site.puts rests.journal rests.unsaved

    -- ---- each edit is one on the way

    pub on_the_way : (edit : SiteEdit) → Contains lead.edits edit → IsOnTheWay config edit
    on_the_way edit one = record {
      media = begin.media;
      texts = is.texts;
      old = begin;
      again = is.again;
      is = is.is;
      one = subst (λ l. Contains l edit) is.edits one;
    }

    module _ (part : List SiteEdit) (some : (edit : SiteEdit) → Contains part edit → Contains lead.edits edit) where
      is_reloading : (e : Event) → IsOneOf part e → IsReloading config e
      is_reloading events.Connect one = absurd one
      is_reloading (events.On id call) one = absurd one
      is_reloading (events.Site edit) one = on_the_way edit (some edit one)
      is_reloading (events.Reader edit) one = absurd one
      is_reloading (events.TakePuts takes) one = absurd one
      is_reloading (events.SetMedia media) one = absurd one

      -- a run of some of the edits is one of a reload
      pub reloads : (render : Renders) (w v : World) → LeadsByEdits render part w v → Reloads config render w v
      reloads render w v leads = record {
        run = leads.run;
        runs = leads.runs;
        own = All-weaker (λ h. IsOneOf part h.event) (λ h. IsReloading config h.event) (λ h one. is_reloading h.event one) leads.run
            leads.own;
      }

    -- ---- all edits are made

    module _ (all : done ≡ lead.edits) where
      all_of_them : all_made begin.media (store_of begin) (led begin.site is.again.site) ≡ Some (store_of saved.hub.1)
      all_of_them =
          subst (λ l. all_made begin.media (store_of begin) l ≡ Some (store_of saved.hub.1)) (all ∙ is.edits) is.made

      site_behind : saved.hub.1.site ≡ is.again.site
      site_behind =
          what_is_made_gives_the_site begin.media (store_of begin) (store_of saved.hub.1) is.again.site is.old_site is.new_site all_of_them

      -- they are those that led the hub there
      pub are_led : lead.edits ≡ led begin.site saved.hub.1.site
      are_led = is.edits ∙ ap (λ (s : Site). led begin.site s) (sym site_behind)

      pub is_restarted : IsRestarted seen may_leave failed stale config saved.journal saved.hub.1 lead.records
      is_restarted = record {
        texts = is.texts;
        are_texts = is.are_texts;
        count = is.count;
        again = is.again;
        is = subst (λ (m : Media). IsOfStart config m is.texts is.again) (sym is.media) is.is;
        site = site_behind;
      }

      settled_in : ReloadsAreRestored → (journal : Option (Journal D)) (unsaved : Kept) → IsOfCalls config.site
          → AreTexts seen may_leave failed stale journal is.texts
          → RemovalsFit (option_map (λ j. j.room) journal) (map.len is.again.site.pages) → IfSome journal (λ j. unsaved ≡ no_lines j.room)
          → IfSome journal (λ _. IsApart begin.site begin.media)
          → IfSome journal (λ j. IsSavedIn seen may_leave failed stale (pages_alone config) saved.hub.1 j unsaved saved.hub.1)
      settled_in laws None unsaved of_calls are fit fresh apart = tt
      settled_in laws (Some journal) unsaved of_calls are fit fresh apart =
          let v = saved.hub.1 in
          let w : World = with_store v (store_of begin) in
          let start = subst (λ (m : Media). IsOfStart config m is.texts is.again) (sym is.media) is.is in
          let (restored, behind) = laws.0 config is.again is.texts w v is.old_site
          (laws.1 v.media config (unstamped is.again) is.texts of_calls start.gives) start.gives is.counted
          (subst (λ (m : Media). all_made m (store_of begin) (led begin.site is.again.site) ≡ Some (store_of v)) (sym is.media) all_of_them)
          refl in
          subst (λ k. IsSavedIn seen may_leave failed stale (pages_alone config) v journal k v) (sym fresh)
          (begun seen may_leave failed stale (pages_alone config) journal is.texts v are restored behind (is.apart apart)
          (subst (λ (s : Site). (map.len s.pages ≤ page_limit) × ((map.len s.pages + 1) * removal_most ≤ journal.room)) (sym site_behind)
          fit))

      pub is_settled : ReloadsAreRestored → IsAllSaved saved → IsOfCalls config.site → IfSome saved.journal (λ _. IsApart begin.site begin.media)
          → IsSettled seen may_leave failed stale (pages_alone config) saved
      is_settled laws saved_all of_calls apart = (
        settled_in laws saved.journal saved.unsaved of_calls is.are_texts is.fits is.fresh apart,
        saved_all,
      )

  -- one that was found beside media is under way once these are set, and whatever readers
  pub set_is_under_way : (config : StoreState) (begin : World) (lead : Lead) (media : Media) (saved next : SavedHub D R)
      → IsUnderWay seen may_leave failed stale config (with_media begin media) lead [] (beside media saved)
      → next.hub.1.site ≡ saved.hub.1.site → next.hub.1.media ≡ media → next.hub.1.puts ≡ saved.hub.1.puts → next.journal ≡ saved.journal
      → next.unsaved ≡ saved.unsaved → IsUnderWay seen may_leave failed stale config (with_media begin media) lead [] next
  set_is_under_way config begin lead media saved next is site set puts journal unsaved =
      stays_on config (with_media begin media) lead [] (beside media saved) is next site set puts journal unsaved
