-- What calls on a hub leave saved.
use Rattle.std.proofs.Common.{◌≡◌, ◌≤◌, ◌+◌, ◌-◌, ◌*◌, ℕ, List, [], ◌∷◌, ◌++◌, Bool, true, refl, ap, sym, subst, ◌∙◌, append-nil, length}
use Rattle.std.specs.Prelude.{All, IfSome, OnErr, Option, Some, None, option_map, option_to_list, Result, Ok, Err}
use Rattle.std.specs.FinMap as map
use Rattle.std.proofs.lemmas.Grind.{flat_map-append}
use Rattle.std.proofs.lemmas.List.Elements.{All-cons, All-nil}
use Rattle.doc_store.specs.Store.{StoreState, page_limit}
use Rattle.doc_store.specs.declared.site_edit.SiteEdit.{SiteEdit}
use Rattle.doc_store_readers.specs.Sites.{Site}
use Rattle.doc_hub.proofs.MediaLaws.{media_stand_apart}
use Rattle.doc_hub.specs.Runs.{Happened, Happens, Leaves, Runs, first, nothing}
use Rattle.doc_hub.specs.Worlds.{IsApart, World}
use Rattle.doc_hub.specs.Replies.{Renders}
use Rattle.doc_hub_events.specs.Events.{step_on, stepping}
use Rattle.doc_hub_events.specs.declared.event.ConnId.{ConnId}
use Rattle.doc_hub_events.specs.declared.event.Step.{Step}
use Rattle.doc_hub_events.specs.declared.refusal.StepError.{StepError}
use Rattle.doc_server_journal.specs.Journals.{record_beside}
use Rattle.doc_server_journal.specs.declared.journal.Journal.{Journal}
use Rattle.doc_server_reload.specs.KeptTurns.{IsOfCalls, IsOfServer, IsRestored, TurnIsRestored, TurnStaysOfCalls}
use Rattle.doc_server_restore.specs.Restores.{restored, unstamped}
use Rattle.doc_server_listen.proofs.Counting.{edits_are_counted}
use Rattle.doc_server_listen.specs.Counting.{Counts, IsOfPeer, count_in}
use Rattle.doc_server_listen.specs.Edits.{Adds, AreMade, Kept, MakesIn, accepted, longest_removal}
use Rattle.doc_server_script.specs.PageLines.{line_of, lines_of}
use Rattle.doc_server_settling.specs.Reserves.{removal_most, reserve, used}
use Rattle.doc_server_network.proofs.QuietEvents.{IsQuiet, IsSameStore}
use Rattle.doc_server_network.proofs.Records.{as_one_record}
use Rattle.doc_server_network.proofs.Rooms.{keeps_reserve, leaves, takes_more}
use Rattle.doc_server_network.specs.Saved.{IsSavedIn, Waits, takes_step}

-- ---- where the site stays

pub restored_too : (config : StoreState) (texts : List (List ℕ)) (w v : World) → IsSameStore w v → IsRestored config texts w
    → IsRestored config texts v
restored_too config texts w v same is = record {
  store = is.store;
  gives = subst (λ m. restored m (unstamped config) texts ≡ Ok is.store) (sym same.media) is.gives;
  site = is.site ∙ sym same.site;
  puts = subst (λ n. is.store.puts ≤ n) (sym same.puts) is.puts;
}

pub apart_too : (w v : World) → IsSameStore w v → IsApart w.site w.media → IsApart v.site v.media
apart_too w v same is = subst (λ s. IsApart s v.media) (sym same.site) (subst (λ m. IsApart w.site m) (sym same.media) is)

waits_too : (config : StoreState) (texts : List (List ℕ)) (room most : ℕ) (w v : World) (lines : List ℕ) → IsQuiet w v
    → Waits config texts room most w lines → Waits config texts room most v lines
waits_too config texts room most w v lines quiet is = record {
  edits = is.edits;
  are = is.are;
  gives = restored_too config (texts ++ lines ∷ []) w v quiet.same is.gives;
  enough = λ fits.
      subst (λ (s : Site). (map.len s.pages + 1) * removal_most + used lines ≤ room) (sym quiet.same.site) (is.enough fits);
  further = λ off.
      subst (λ (s : Site). length lines + (map.len s.pages + 1) * longest_removal ≤ most) (sym quiet.same.site)
      (is.further (sym quiet.taking ∙ off));
}

module _ {D : Type 0} (seen : D → Option (List ℕ)) (may_leave : D → List ℕ → Type 0) (failed : D → Bool) (stale : D → ℕ → Type 0)
    (config : StoreState) (begin : World) where
  abbrev Saved : Journal D → Kept → World → Type 0
  Saved journal unsaved w = IsSavedIn seen may_leave failed stale config begin journal unsaved w

  saved_too : (journal : Journal D) (unsaved : Kept) (w v : World) → IsQuiet w v → Saved journal unsaved w → Saved journal unsaved v
  saved_too journal unsaved w v quiet is = record {
    texts = is.texts;
    is_open = is.is_open;
    began = is.began;
    waits = λ whole.
        let (lines, kept, waits) = is.waits whole in
        (lines, kept, waits_too config is.texts journal.room unsaved.most w v lines quiet waits);
    of_calls = subst IsOfCalls (sym quiet.same.site) is.of_calls;
    apart = apart_too w v quiet.same is.apart;
    limit = subst (λ (s : Site). map.len s.pages ≤ page_limit) (sym quiet.same.site) is.limit;
    most = is.most;
  }

  pub stays : (journal : Option (Journal D)) (unsaved : Kept) (w v : World) → IsQuiet w v
      → IfSome journal (λ j. Saved j unsaved w) → IfSome journal (λ j. Saved j unsaved v)
  stays None unsaved w v quiet is = tt
  stays (Some journal) unsaved w v quiet is = saved_too journal unsaved w v quiet is

-- where it is refused
pub on_err : {X E : Type 0} (said : Result X E) (P : Type 0) → ((e : E) → said ≡ Err e → P) → OnErr said P
on_err (Ok x) P so = tt
on_err (Err e) P so = so e refl

-- ---- a step

module _ (render : Renders) (w v : World) (id : ConnId) (said : Result Step StepError) (edit : Option SiteEdit)
    (happens : Happens render w (step_on id) v said) (makes : MakesIn render w (step_on id) (stepping said) v edit) where
  abbrev stepped : Happened
  stepped = record { world = w; event = step_on id; outcome = stepping said }

  leaving : Leaves render w (step_on id) v (stepping said)
  leaving = (said, happens, refl)

  runs : Runs render w (stepped ∷ []) v
  runs = first w v v (step_on id) (stepping said) [] leaving (nothing v)

  made : AreMade render (stepped ∷ []) v (edit ∷ [])
  made = (makes, tt)

  are_those : accepted (edit ∷ []) ≡ option_to_list edit
  are_those = append-nil (option_to_list edit)

  of_server : All (λ h. IsOfServer h.event) (stepped ∷ [])
  of_server = All-cons (λ h. IsOfServer h.event) stepped [] tt (All-nil (λ h. IsOfServer h.event))

  counts : Counts w v (option_to_list edit)
  counts =
      subst (Counts w v) are_those
      (edits_are_counted render w v (stepped ∷ []) (edit ∷ []) runs (All-cons IsOfPeer stepped [] (id.0, refl) (All-nil IsOfPeer)) made)

  behind : (config : StoreState) (texts : List (List ℕ)) (edits : List SiteEdit) → TurnIsRestored → IsOfCalls w.site
      → IsApart w.site w.media → IsRestored config (texts ++ lines_of edits ∷ []) w
      → IsRestored config (texts ++ (lines_of edits ++ lines_of (option_to_list edit)) ∷ []) v
  behind config texts edits law of_calls apart is =
      as_one_record config texts v edits (lines_of (option_to_list edit))
      (subst (λ es. IsRestored config ((texts ++ lines_of edits ∷ []) ++ lines_of es ∷ []) v) are_those
      (law render config w v (stepped ∷ []) (edit ∷ []) (texts ++ lines_of edits ∷ []) of_calls apart runs of_server made is))

  more : (lines : List ℕ) (edits : List SiteEdit) → lines ≡ lines_of edits
      → lines ++ lines_of (option_to_list edit) ≡ lines_of (edits ++ option_to_list edit)
  more lines edits are =
      ap (λ l. l ++ lines_of (option_to_list edit)) are ∙ sym (flat_map-append line_of edits (option_to_list edit))

  waits_behind : (config : StoreState) (texts : List (List ℕ)) (room most : ℕ) (lines : List ℕ) → TurnIsRestored → IsOfCalls w.site
      → IsApart w.site w.media → count_in w ≤ page_limit → (w.takes_puts ≡ true → reserve ≤ room)
      → Waits config texts room most w lines
      → Waits config texts room most v (lines ++ lines_of (option_to_list edit))
  waits_behind config texts room most lines law of_calls apart limit keeps is = record {
    edits = is.edits ++ option_to_list edit;
    are = more lines is.edits is.are;
    gives = subst (λ l. IsRestored config (texts ++ (l ++ lines_of (option_to_list edit)) ∷ []) v) (sym is.are)
        (behind config texts is.edits law of_calls apart
        (subst (λ l. IsRestored config (texts ++ l ∷ []) w) is.are is.gives));
    enough = leaves room w v lines edit counts limit keeps is.enough;
    further = takes_more most w v lines edit counts is.further;
  }

  module _ {D : Type 0} (seen : D → Option (List ℕ)) (may_leave : D → List ℕ → Type 0) (failed : D → Bool) (stale : D → ℕ → Type 0)
      (restores : TurnIsRestored) (stays_so : TurnStaysOfCalls) (old new : Kept)
      (adds : Adds old new (option_to_list edit)) where
    step_in : (journal : Journal D) (config : StoreState) (begin : World) → takes_step (Some journal) old w.takes_puts ≡ true
        → IsSavedIn seen may_leave failed stale config begin journal old w
        → IsSavedIn seen may_leave failed stale config begin journal new v
    step_in journal config begin may is = record {
      texts = is.texts;
      is_open = is.is_open;
      began = is.began;
      waits = λ whole.
          let (before, lines_are) = adds.1 whole in
          let (lines, kept, waits) = is.waits before in
          let all = lines_are ∙ ap (option_map (λ l. l ++ lines_of (option_to_list edit))) kept in (
            lines ++ lines_of (option_to_list edit),
            all,
            subst (λ n. Waits config is.texts journal.room n v (lines ++ lines_of (option_to_list edit))) (sym adds.0)
                (waits_behind config is.texts journal.room old.most lines restores is.of_calls is.apart is.limit
                (keeps_reserve journal old w.takes_puts may) waits),
          );
      of_calls = stays_so render w v (stepped ∷ []) is.of_calls runs of_server;
      apart = media_stand_apart.apart render w v (stepped ∷ []) is.apart runs;
      limit = counts.limit is.limit;
      most = subst (λ n. n ≤ journal.room - record_beside) (sym adds.0) is.most;
    }

    pub steps : (journal : Option (Journal D)) (config : StoreState) (begin : World) → takes_step journal old w.takes_puts ≡ true
        → IfSome journal (λ j. IsSavedIn seen may_leave failed stale config begin j old w)
        → IfSome journal (λ j. IsSavedIn seen may_leave failed stale config begin j new v)
    steps None config begin may is = tt
    steps (Some journal) config begin may is = step_in journal config begin may is
