-- What is saved where the lines are written, and where the journal grows.
use Rattle.std.proofs.Common.{◌≡◌, ◌==◌, false, ◌≤◌, ◌+◌, ◌-◌, ◌*◌, ℕ, List, [], ◌∷◌, ◌++◌, length, min, Bool, true, refl, ap, sym, subst, ◌∙◌, arith}
use Rattle.std.specs.Prelude.{IfSome, Option, Some, None}
use Rattle.std.proofs.lemmas.Bool.Decides.{nat_tests}
use Rattle.doc_hub.specs.Worlds.{IsApart, World}
use Rattle.doc_server_journal.specs.Devices.{AreBehind, LeavesOnly}
use Rattle.doc_server_journal.specs.Journals.{IsBeforeOrAfter, IsOpen, record_beside}
use Rattle.doc_server_journal.specs.declared.journal.Journal.{Journal}
use Rattle.doc_server_journal_records.specs.Readings.{ReadsAs}
use Rattle.doc_server_journal_records.specs.Records.{text_limit}
use Rattle.doc_server_reload.specs.KeptTurns.{IsOfCalls, IsRestored}
use Rattle.doc_server_listen.specs.Counting.{count_in}
use Rattle.doc_server_listen.specs.Edits.{Kept}
use Rattle.doc_server_settling.specs.Reserves.{HasRoomFor, HasRoomToRemove, removal_most}
use Rattle.doc_store.specs.Store.{StoreState, page_limit}
use Rattle.doc_server_network.proofs.Crashes.{leaves_begin, leaves_either}
use Rattle.doc_server_network.proofs.QuietEvents.{IsSameStore}
use Rattle.doc_server_network.proofs.Records.{none_behind, none_left_out}
use Rattle.doc_server_network.proofs.Rooms.{first_lines, first_step, removal_may_come, used_of_some}
use Rattle.doc_server_network.proofs.Saving.{apart_too, restored_too}
use Rattle.doc_server_network.proofs.Texts.{some_is}
use Rattle.doc_server_network.specs.Crashes.{CrashesLeave, LeavesFiles, OfBoth, Restores, RestoresEither, StaleIsBehind}
use Rattle.doc_server_network.specs.Saved.{HasAll, IsSavedIn, Waits, no_lines, takes_step}

-- no line yet, behind records that give the site
no_lines_wait : (config : StoreState) (texts : List (List ℕ)) (room : ℕ) (w : World) → IsRestored config texts w
    → count_in w ≤ page_limit → (count_in w + 1) * removal_most ≤ room → Waits config texts room (no_lines room).most w []
no_lines_wait config texts room w is limit enough = record {
  edits = [];
  are = refl;
  gives = none_behind config texts w is;
  enough = λ fits. omega (arith, enough);
  further = λ off. first_lines room w limit enough;
}

pub within : (a b : ℕ) → min a b ≤ a
within a b = omega arith

-- ---- whether lines are empty

zero : (n : ℕ) → (n == 0) ≡ true → n ≡ 0
zero n is = grind (arith, nat_tests)

not_zero : (n : ℕ) → (n == 0) ≡ false → n ≡ 0 → ⊥
not_zero n is e = grind (arith, nat_tests)

pub none_there : (xs : List ℕ) → (length xs == 0) ≡ true → xs ≡ []
none_there [] is = refl
none_there (b ∷ xs) is = absurd (omega (arith, zero (length (b ∷ xs)) is))

some_there : (xs : List ℕ) → (length xs == 0) ≡ false → xs ≡ [] → ⊥
some_there xs is e = not_zero (length xs) is (ap length e)

module _ {D : Type 0} (seen : D → Option (List ℕ)) (may_leave : D → List ℕ → Type 0) (failed : D → Bool) (stale : D → ℕ → Type 0)
    (config : StoreState) where
  abbrev Saved : World → Journal D → Kept → World → Type 0
  Saved begin journal unsaved w = IsSavedIn seen may_leave failed stale config begin journal unsaved w

  -- a journal whose records give the site, before the first line
  pub begun : (journal : Journal D) (texts : List (List ℕ)) (w : World) → IsOpen seen may_leave failed stale journal texts
      → IsRestored config texts w → IsOfCalls w.site → IsApart w.site w.media → HasRoomToRemove journal.room w
      → Saved w journal (no_lines journal.room) w
  begun journal texts w is_open is of_calls apart (limit, enough) = record {
    texts = texts;
    is_open = is_open;
    began = is;
    waits = λ whole. ([], refl, no_lines_wait config texts journal.room w is limit enough);
    of_calls = of_calls;
    apart = apart;
    limit = limit;
    most = within (journal.room - record_beside) text_limit;
  }

  module _ (begin : World) (unsaved : Kept) (w : World) where
    -- ---- nothing is written

    rests : (journal : Journal D) → unsaved.lines ≡ Some [] → unsaved.is_whole ≡ true → Saved begin journal unsaved w
        → Saved w journal unsaved w
    rests journal none whole is = record {
      texts = is.texts;
      is_open = is.is_open;
      began =
          let (lines, kept, waits) = is.waits whole in
          none_left_out config is.texts w
          (subst (λ l. IsRestored config (is.texts ++ l ∷ []) w) (some_is lines [] (sym kept ∙ none)) waits.gives);
      waits = is.waits;
      of_calls = is.of_calls;
      apart = is.apart;
      limit = is.limit;
      most = is.most;
    }

    pub settled_at_rest : (journal : Option (Journal D)) → HasAll journal unsaved → IfSome journal (λ j. Saved begin j unsaved w)
        → IfSome journal (λ j. Saved w j unsaved w)
    settled_at_rest None all is = tt
    settled_at_rest (Some journal) all is = rests journal all.0 all.1 is

    -- ---- the lines are written

    module _ (journal after : Journal D) (lines : List ℕ) (whole : unsaved.is_whole ≡ true) (kept : unsaved.lines ≡ Some lines)
        (is : Saved begin journal unsaved w) where
      waiting : Waits config is.texts journal.room unsaved.most w lines
      waiting =
          let (these, are, waits) = is.waits whole in
          subst (Waits config is.texts journal.room unsaved.most w) (some_is these lines (sym are ∙ kept)) waits

      pub written : (lines ≡ [] → ⊥) → length lines ≤ text_limit
          → ((texts : List (List ℕ)) → IsOpen seen may_leave failed stale journal texts
          → IsOpen seen may_leave failed stale after (texts ++ lines ∷ []))
          → after.room + (length lines + record_beside) ≡ journal.room → Saved w after (no_lines after.room) w
      written some fits opens room =
          begun after (is.texts ++ lines ∷ []) w (opens is.texts is.is_open) waiting.gives is.of_calls is.apart
          (is.limit, omega (arith, waiting.enough fits, used_of_some lines some, room))

      pub leaves_either_site : (moment : D → ℕ) (left_since : D → ℕ → List ℕ → Type 0)
          → ((texts : List (List ℕ)) → IsOpen seen may_leave failed stale journal texts
          → IfSome (seen journal.device) (λ file. LeavesOnly moment left_since journal.device after.device (IsBeforeOrAfter texts lines)))
          → LeavesFiles seen moment left_since (RestoresEither config begin w) journal after
      leaves_either_site moment left_since leaves =
          leaves_either seen may_leave failed stale moment left_since config begin w is.texts lines journal after is.began waiting.gives
          (leaves is.texts is.is_open)

  -- ---- the journal grows

  module _ (begin : World) (unsaved : Kept) (w v : World) (journal after : Journal D) (is : Saved begin journal unsaved w) where
    pub has_room_to_remove : unsaved.lines ≡ Some [] → unsaved.is_whole ≡ true → HasRoomToRemove journal.room w
    has_room_to_remove none whole =
        let (lines, kept, waits) = is.waits whole in
        let none_wait = subst (Waits config is.texts journal.room unsaved.most w) (some_is lines [] (sym kept ∙ none)) waits in
        (is.limit, omega (arith, none_wait.enough (omega arith)))

    pub leaves_begin_site : (moment : D → ℕ) (left_since : D → ℕ → List ℕ → Type 0)
        → ((texts : List (List ℕ)) → IsOpen seen may_leave failed stale journal texts
        → IfSome (seen journal.device) (λ file. LeavesOnly moment left_since journal.device after.device (λ c. ReadsAs c texts)))
        → LeavesFiles seen moment left_since (Restores config begin) journal after
    leaves_begin_site moment left_since leaves =
        leaves_begin seen may_leave failed stale moment left_since config begin is.texts journal after is.began (leaves is.texts is.is_open)

  pub grown : (unsaved : Kept) (w v : World) (journal after : Journal D) → unsaved.lines ≡ Some [] → unsaved.is_whole ≡ true
      → IsSameStore w v
      → ((texts : List (List ℕ)) → IsOpen seen may_leave failed stale journal texts → IsOpen seen may_leave failed stale after texts)
      → HasRoomFor after.room v → Saved w journal unsaved w → Saved v after (no_lines after.room) v
  grown unsaved w v journal after none whole same opens room is =
      begun after is.texts v (opens is.texts is.is_open) (restored_too config is.texts w v same is.began)
      (subst IsOfCalls (sym same.site) is.of_calls) (apart_too w v same is.apart) room.0

  -- ---- as calls tell it

  -- what holds of the journal, where there is one, holds of this one
  pub of_this : (P : Journal D → Type 0) (o : Option (Journal D)) (journal : Journal D) → o ≡ Some journal → IfSome o P → P journal
  of_this P o journal is all = subst (λ p. IfSome p P) is all

  pub settles : (begin : World) (unsaved behind : Kept) (w : World) (o : Option (Journal D)) (journal after : Journal D)
      (lines text : List ℕ)
      → o ≡ Some journal → unsaved.is_whole ≡ true → unsaved.lines ≡ Some lines → (length lines == 0) ≡ false → length lines ≤ text_limit
      → text ≡ lines
      → ((texts : List (List ℕ)) → IsOpen seen may_leave failed stale journal texts
      → IsOpen seen may_leave failed stale after (texts ++ text ∷ []))
      → after.room + (length text + record_beside) ≡ journal.room → behind ≡ no_lines after.room
      → IfSome o (λ j. Saved begin j unsaved w) → Saved w after behind w
  settles begin unsaved behind w o journal after lines text there whole kept some fits same opens room anew is =
      subst (λ k. Saved w after k w) (sym anew)
      (written begin unsaved w journal after lines whole kept (of_this (λ j. Saved begin j unsaved w) o journal there is)
      (some_there lines some) fits
      (subst (λ l. (texts : List (List ℕ)) → IsOpen seen may_leave failed stale journal texts
      → IsOpen seen may_leave failed stale after (texts ++ l ∷ [])) same opens)
      (subst (λ l. after.room + (length l + record_beside) ≡ journal.room) same room))

  pub crashes : (moment : D → ℕ) (left_since : D → ℕ → List ℕ → Type 0) (begin : World) (unsaved : Kept) (w : World)
      (o : Option (Journal D)) (journal after : Journal D) (lines text : List ℕ)
      → o ≡ Some journal → unsaved.is_whole ≡ true → unsaved.lines ≡ Some lines → text ≡ lines
      → ((texts : List (List ℕ)) → IsOpen seen may_leave failed stale journal texts
      → IfSome (seen journal.device) (λ file. LeavesOnly moment left_since journal.device after.device (IsBeforeOrAfter texts text)))
      → IfSome o (λ j. Saved begin j unsaved w)
      → CrashesLeave seen moment left_since (RestoresEither config begin w) o (Some after)
  crashes moment left_since begin unsaved w o journal after lines text there whole kept same leaves is =
      subst (λ p. CrashesLeave seen moment left_since (RestoresEither config begin w) p (Some after)) (sym there)
      (leaves_either_site begin unsaved w journal after lines whole kept (of_this (λ j. Saved begin j unsaved w) o journal there is) moment
      left_since
      (subst (λ l. (texts : List (List ℕ)) → IsOpen seen may_leave failed stale journal texts
      → IfSome (seen journal.device) (λ file. LeavesOnly moment left_since journal.device after.device (IsBeforeOrAfter texts l))) same
      leaves))

  pub grows : (unsaved behind : Kept) (w v : World) (o : Option (Journal D)) (journal after : Journal D) → o ≡ Some journal
      → HasAll o unsaved → IsSameStore w v
      → ((texts : List (List ℕ)) → IsOpen seen may_leave failed stale journal texts → IsOpen seen may_leave failed stale after texts)
      → (HasRoomToRemove journal.room w → HasRoomFor after.room v) → behind ≡ no_lines after.room
      → IfSome o (λ j. Saved w j unsaved w) → Saved v after behind v
  grows unsaved behind w v o journal after there all same opens room anew is =
      let (none, whole) = subst (λ p. HasAll p unsaved) there all in
      let here = of_this (λ j. Saved w j unsaved w) o journal there is in
      subst (λ k. Saved v after k v) (sym anew)
      (grown unsaved w v journal after none whole same opens (room (has_room_to_remove w unsaved w v journal after here none whole)) here)

  pub may_step_behind : (unsaved behind : Kept) (w v : World) (o : Option (Journal D)) (journal after : Journal D) → o ≡ Some journal
      → HasAll o unsaved → (HasRoomToRemove journal.room w → HasRoomFor after.room v) → behind ≡ no_lines after.room
      → IfSome o (λ j. Saved w j unsaved w) → takes_step (Some after) behind v.takes_puts ≡ true
  may_step_behind unsaved behind w v o journal after there all room anew is =
      let (none, whole) = subst (λ p. HasAll p unsaved) there all in
      let here = of_this (λ j. Saved w j unsaved w) o journal there is in
      subst (λ k. takes_step (Some after) k v.takes_puts ≡ true) (sym anew)
      (first_step after v (room (has_room_to_remove w unsaved w v journal after here none whole)))

  pub crashes_to_begin : (moment : D → ℕ) (left_since : D → ℕ → List ℕ → Type 0) (begin : World) (unsaved : Kept) (w v : World)
      (o : Option (Journal D)) (journal after : Journal D) → o ≡ Some journal
      → ((texts : List (List ℕ)) → IsOpen seen may_leave failed stale journal texts
      → IfSome (seen journal.device) (λ file. LeavesOnly moment left_since journal.device after.device (λ c. ReadsAs c texts)))
      → IfSome o (λ j. Saved begin j unsaved w) → CrashesLeave seen moment left_since (Restores config begin) o (Some after)
  crashes_to_begin moment left_since begin unsaved w v o journal after there leaves is =
      subst (λ p. CrashesLeave seen moment left_since (Restores config begin) p (Some after)) (sym there)
      (leaves_begin_site begin unsaved w v journal after (of_this (λ j. Saved begin j unsaved w) o journal there is) moment left_since
      leaves)

  pub removals_may_come : (begin : World) (unsaved : Kept) (w : World) (o : Option (Journal D)) → IfSome o (λ j. Saved begin j unsaved w)
      → w.takes_puts ≡ false → unsaved.is_whole ≡ true → takes_step o unsaved w.takes_puts ≡ true
  removals_may_come begin unsaved w None is off whole = refl
  removals_may_come begin unsaved w (Some journal) is off whole =
      let (lines, kept, waits) = is.waits whole in
      subst (λ t. takes_step (Some journal) unsaved t ≡ true) (sym off)
      (removal_may_come journal unsaved (count_in w) lines whole kept (waits.further off))

  -- where no line waits, none is there to be written
  pub none_waits : (unsaved : Kept) (o : Option (Journal D)) (journal : Journal D) (lines : List ℕ) → o ≡ Some journal → HasAll o unsaved
      → unsaved.lines ≡ Some lines → (length lines == 0) ≡ false → ⊥
  none_waits unsaved o journal lines there all kept some =
      let (none, whole) = subst (λ p. HasAll p unsaved) there all in
      some_there lines some (some_is lines [] (sym kept ∙ none))

-- ---- whether a journal is ready, and what is stale

module _ {D : Type 0} (seen : D → Option (List ℕ)) (may_leave : D → List ℕ → Type 0) (failed : D → Bool) (stale : D → ℕ → Type 0)
    (o : Option (Journal D)) (unsaved : Kept) (journal after : Journal D) (there : o ≡ Some journal)
    (ready : IfSome o (λ j. ((texts : List (List ℕ)) × IsOpen seen may_leave failed stale j texts)
    × (unsaved.most ≤ j.room - record_beside))) where
  pub ready_here : ((texts : List (List ℕ)) × IsOpen seen may_leave failed stale journal texts)
      × (unsaved.most ≤ journal.room - record_beside)
  ready_here =
      subst (λ p. IfSome p (λ j. ((texts : List (List ℕ)) × IsOpen seen may_leave failed stale j texts)
      × (unsaved.most ≤ j.room - record_beside))) there ready

  pub ready_behind : (text : List ℕ) (behind : Kept)
      → ((texts : List (List ℕ)) → IsOpen seen may_leave failed stale journal texts
      → IsOpen seen may_leave failed stale after (texts ++ text ∷ []))
      → behind ≡ no_lines after.room
      → ((texts : List (List ℕ)) × IsOpen seen may_leave failed stale after texts) × (behind.most ≤ after.room - record_beside)
  ready_behind text behind opens anew = (
    (ready_here.0.0 ++ text ∷ [], opens ready_here.0.0 ready_here.0.1),
    subst (λ k. k.most ≤ after.room - record_beside) (sym anew) (within (after.room - record_beside) text_limit),
  )

  pub ready_grown : (behind : Kept)
      → ((texts : List (List ℕ)) → IsOpen seen may_leave failed stale journal texts → IsOpen seen may_leave failed stale after texts)
      → behind ≡ no_lines after.room
      → ((texts : List (List ℕ)) × IsOpen seen may_leave failed stale after texts) × (behind.most ≤ after.room - record_beside)
  ready_grown behind opens anew = (
    (ready_here.0.0, opens ready_here.0.0 ready_here.0.1),
    subst (λ k. k.most ≤ after.room - record_beside) (sym anew) (within (after.room - record_beside) text_limit),
  )

  pub stale_behind : ((texts : List (List ℕ)) → IsOpen seen may_leave failed stale journal texts
      → AreBehind (stale after.device) journal.end) → OfBoth (StaleIsBehind stale) o (Some after)
  stale_behind are = subst (λ p. OfBoth (StaleIsBehind stale) p (Some after)) (sym there) (are ready_here.0.0 ready_here.0.1)
