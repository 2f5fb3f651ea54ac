-- What the first call of a reload leaves saved.
use Rattle.std.proofs.Common.{◌≡◌, ◌≤◌, ◌+◌, ◌*◌, ◌-◌, ℕ, List, [], Bool, true, false, refl, ap, sym, subst, ◌∙◌, arith}
use Rattle.std.proofs.Common.{inl, inr}
use Rattle.std.specs.Prelude.{IfSome, IsErrAnd, Result, Ok, Err, Option, Some, None, nat_le, option_map, if◌then◌else◌}
use Rattle.std.proofs.lemmas.Bool.Decides.{nat_tests}
use Rattle.doc_hub.specs.Worlds.{World}
use Rattle.doc_server_journal.proofs.HoldLemmas.{open_reads}
use Rattle.doc_server_journal.proofs.Moments.{if_known, known, weaker}
use Rattle.doc_server_journal.specs.Devices.{LeavesOnly}
use Rattle.doc_server_journal.specs.Journals.{IsOpen, record_beside}
use Rattle.doc_server_journal.specs.declared.journal.Journal.{Journal}
use Rattle.doc_server_listen.specs.Counting.{count_in}
use Rattle.doc_server_listen.specs.Edits.{Kept}
use Rattle.doc_server_reload.specs.Texts.{moved_to}
use Rattle.doc_store.specs.Store.{StoreState, page_limit, put_limit, stamp_after}
use Rattle.doc_server_journal_records.specs.Records.{text_limit}
use Rattle.doc_server_settling.specs.Reserves.{removal_most}
use Rattle.doc_server_network.proofs.Rooms.{first_lines}
use Rattle.doc_server_network.proofs.Settling.{within}
use Rattle.doc_server_network.proofs.Texts.{some_is}
use Rattle.doc_server_network.specs.Crashes.{CrashesLeave, OfBoth, Restores}
use Rattle.doc_server_network.specs.Reloads.{AreTexts, IsJustRead}
use Rattle.doc_server_network.specs.Reloads.{IfCannotWrite, IfRefused, IsRefusedFor, IsStoppedBy, IsUnread, UnlessEnds, is_counted}
use Rattle.doc_server_network.specs.declared.lead.Lead.{Lead}
use Rattle.doc_server_network.specs.declared.reload_fault.Refusal.{Refusal}
use Rattle.doc_server_network.specs.declared.reload_fault.Refusal.TheVariants as refusals
use Rattle.doc_server_network.specs.declared.reload_fault.ReloadFault.{ReloadFault}
use Rattle.doc_server_network.specs.declared.reload_fault.ReloadFault.TheVariants as faults
use Rattle.doc_server_settling.specs.declared.fault.TurnFault.TheVariants as turn_faults
use Rattle.doc_server_network.specs.Saved.{HasAll, IsSavedIn, Waits, no_lines}

-- ---- counts

no_yes : false ≡ true → ⊥
no_yes e = cc

counted : (a c h : ℕ) (x y z : Bool)
    → is_counted (if x then None else Some a) (if y then None else Some c) (if z then None else Some h) ≡ true → a ≤ c + h
counted a c h true y z is = absurd (no_yes is)
counted a c h false true z is = absurd (no_yes is)
counted a c h false false true is = absurd (no_yes is)
counted a c h false false false is = grind (arith, nat_tests)

pub has_counted_so : (a c h : ℕ) → is_counted (stamp_after a) (stamp_after c) (stamp_after h) ≡ true → a ≤ c + h
has_counted_so a c h is = counted a c h (nat_le put_limit a) (nat_le put_limit c) (nat_le put_limit h) is

-- ---- the journal is read

-- lines that are none wait, as far as there is room, behind the next record's first line too
none_waits : (config : StoreState) (texts : List (List ℕ)) (room more : ℕ) (unsaved : Kept) (w : World) → more ≡ room
    → unsaved.lines ≡ Some [] → count_in w ≤ page_limit
    → (lines : List ℕ) × (unsaved.lines ≡ Some lines) × Waits config texts room unsaved.most w lines
    → Waits config texts more (no_lines more).most w []
none_waits config texts room more unsaved w same none limit (lines, kept, waits) =
    let these : Waits config texts room unsaved.most w [] =
    subst (Waits config texts room unsaved.most w) (some_is lines [] (sym kept ∙ none)) waits in
    let enough : (count_in w + 1) * removal_most ≤ more = omega (arith, same, these.enough (omega arith)) in
    record {
      edits = these.edits;
      are = these.are;
      gives = these.gives;
      enough = λ fits. omega (arith, enough);
      further = λ off. first_lines more w limit enough;
    }

module _ {D : Type 0} (seen : D → Option (List ℕ)) (may_leave : D → List ℕ → Type 0) (failed : D → Bool) (stale : D → ℕ → Type 0) where
  abbrev pub Opens : Journal D → Journal D → Type 0
  Opens before behind =
      (texts : List (List ℕ)) → IsOpen seen may_leave failed stale before texts → IsOpen seen may_leave failed stale behind texts

  saved_read : (config : StoreState) (begin : World) (before behind : Journal D) (unsaved : Kept) (w : World)
      → behind ≡ moved_to before behind.device → Opens before behind → IsSavedIn seen may_leave failed stale config begin before unsaved w
      → IsSavedIn seen may_leave failed stale config begin behind unsaved w
  saved_read config begin before behind unsaved w same opens is =
      let room : behind.room ≡ before.room = ap (λ (j : Journal D). j.room) same in record {
        texts = is.texts;
        is_open = opens is.texts is.is_open;
        began = is.began;
        waits = λ whole.
            let (lines, kept, waits) = is.waits whole in
            (lines, kept, subst (λ r. Waits config is.texts r unsaved.most w lines) (sym room) waits);
        of_calls = is.of_calls;
        apart = is.apart;
        limit = is.limit;
        most = subst (λ r. unsaved.most ≤ r - record_beside) (sym room) is.most;
      }

  pub stays_read : (config : StoreState) (begin : World) (o n : Option (Journal D)) (unsaved : Kept) (w : World) → IsJustRead o n
      → OfBoth Opens o n → IfSome o (λ j. IsSavedIn seen may_leave failed stale config begin j unsaved w)
      → IfSome n (λ j. IsSavedIn seen may_leave failed stale config begin j unsaved w)
  stays_read config begin None None unsaved w same opens is = tt
  stays_read config begin None (Some behind) unsaved w same opens is = absurd same
  stays_read config begin (Some before) None unsaved w same opens is = absurd same
  stays_read config begin (Some before) (Some behind) unsaved w same opens is =
      saved_read config begin before behind unsaved w same opens is

  abbrev IsReadyWith : Kept → Journal D → Type 0
  IsReadyWith unsaved journal =
      ((texts : List (List ℕ)) × IsOpen seen may_leave failed stale journal texts) × (unsaved.most ≤ journal.room - record_beside)

  pub ready_read : (o n : Option (Journal D)) (unsaved : Kept) → IsJustRead o n → OfBoth Opens o n → IfSome o (IsReadyWith unsaved)
      → IfSome n (IsReadyWith unsaved)
  ready_read None None unsaved same opens is = tt
  ready_read None (Some behind) unsaved same opens is = absurd same
  ready_read (Some before) None unsaved same opens is = absurd same
  ready_read (Some before) (Some behind) unsaved same opens is = (
    (is.0.0, opens is.0.0 is.0.1),
    subst (λ r. unsaved.most ≤ r - record_beside) (sym (ap (λ (j : Journal D). j.room) same)) is.1,
  )

  pub ready_anew : (o n : Option (Journal D)) (unsaved behind : Kept) → IsJustRead o n → OfBoth Opens o n
      → IfSome o (IsReadyWith unsaved) → IfSome n (λ j. behind ≡ no_lines j.room) → IfSome n (IsReadyWith behind)
  ready_anew None None unsaved behind same opens is none = tt
  ready_anew None (Some j) unsaved behind same opens is none = absurd same
  ready_anew (Some i) None unsaved behind same opens is none = absurd same
  ready_anew (Some i) (Some j) unsaved behind same opens is none = (
    (is.0.0, opens is.0.0 is.0.1),
    subst (λ (k : Kept). k.most ≤ j.room - record_beside) (sym none) (within (j.room - record_beside) text_limit),
  )

  -- what is saved stays so before the first line of the next record, where none waited
  saved_anew : (config : StoreState) (begin : World) (before behind : Journal D) (unsaved : Kept) (w : World)
      → behind ≡ moved_to before behind.device → Opens before behind → unsaved.lines ≡ Some [] → unsaved.is_whole ≡ true
      → IsSavedIn seen may_leave failed stale config begin before unsaved w
      → IsSavedIn seen may_leave failed stale config begin behind (no_lines behind.room) w
  saved_anew config begin before behind unsaved w same opens none whole is =
      let room : behind.room ≡ before.room = ap (λ (j : Journal D). j.room) same in record {
        texts = is.texts;
        is_open = opens is.texts is.is_open;
        began = is.began;
        waits = λ fresh. ([], refl, none_waits config is.texts before.room behind.room unsaved w room none is.limit (is.waits whole));
        of_calls = is.of_calls;
        apart = is.apart;
        limit = is.limit;
        most = within (behind.room - record_beside) text_limit;
      }

  pub stays_anew : (config : StoreState) (begin : World) (o n : Option (Journal D)) (unsaved behind : Kept) (w : World) → IsJustRead o n
      → OfBoth Opens o n → HasAll o unsaved → IfSome n (λ j. behind ≡ no_lines j.room)
      → IfSome o (λ j. IsSavedIn seen may_leave failed stale config begin j unsaved w)
      → IfSome n (λ j. IsSavedIn seen may_leave failed stale config begin j behind w)
  stays_anew config begin None None unsaved behind w same opens all none is = tt
  stays_anew config begin None (Some j) unsaved behind w same opens all none is = absurd same
  stays_anew config begin (Some i) None unsaved behind w same opens all none is = absurd same
  stays_anew config begin (Some i) (Some j) unsaved behind w same opens all none is =
      subst (λ k. IsSavedIn seen may_leave failed stale config begin j k w) (sym none)
      (saved_anew config begin i j unsaved w same opens all.0 all.1 is)

  -- nothing is written
  module _ (moment : D → ℕ) (left_since : D → ℕ → List ℕ → Type 0) where
    pub leaves_read : (config : StoreState) (begin : World) (o n : Option (Journal D)) (unsaved : Kept) (w : World)
        → OfBoth (λ before behind. LeavesOnly moment left_since before.device behind.device (may_leave before.device)) o n
        → IfSome o (λ j. IsSavedIn seen may_leave failed stale config begin j unsaved w)
        → CrashesLeave seen moment left_since (Restores config begin) o n
    leaves_read config begin None None unsaved w leaves is = tt
    leaves_read config begin None (Some behind) unsaved w leaves is = absurd leaves
    leaves_read config begin (Some before) None unsaved w leaves is = absurd leaves
    leaves_read config begin (Some before) (Some behind) unsaved w leaves is =
        if_known (seen before.device) (λ file. LeavesOnly moment left_since before.device behind.device (Restores config begin))
        (λ file there.
        weaker moment left_since before.device behind.device (may_leave before.device) (Restores config begin) leaves
        (λ c left.
        subst (Restores config begin)
        (sym (known (seen before.device) file (λ f. (d : List ℕ) → may_leave before.device d → d ≡ f) there is.is_open.durable c left))
        (record {
          texts = is.texts;
          reads = known (seen before.device) file _ there (open_reads seen may_leave failed stale before is.texts is.is_open);
          gives = is.began;
        })))

-- ---- what came of it

pub all_read : {D : Type 0} (o n : Option (Journal D)) (unsaved : Kept) → IsJustRead o n → HasAll o unsaved → HasAll n unsaved
all_read None None unsaved same all = tt
all_read None (Some j) unsaved same all = absurd same
all_read (Some i) None unsaved same all = absurd same
all_read (Some i) (Some j) unsaved same all = all

-- what holds holds unless the server ends
pub always : {A : Type 0} (result : Result A ReloadFault) (P : Type 0) → P → UnlessEnds result P
always (Ok x) P is = is
always (Err (faults.Refused refusal)) P is = is
always (Err (faults.Ends fault)) P is = tt

-- why
module _ {D : Type 0} (seen : D → Option (List ℕ)) (may_leave : D → List ℕ → Type 0) (failed : D → Bool) (stale : D → ℕ → Type 0) where
  pub unread : (config : StoreState) (w : World) (journal : Option (Journal D)) (refusal : Refusal)
      → IsUnread seen may_leave failed stale journal refusal → IsRefusedFor seen may_leave failed stale config w journal refusal
  unread config w journal refusals.Other is = inl (refl, is)
  unread config w journal (refusals.Record fault) is = absurd is
  unread config w journal refusals.Full is = absurd is
  unread config w journal refusals.Taken is = absurd is
  unread config w journal refusals.Memory is = tt

  pub stopped : (config : StoreState) (w : World) (journal : Option (Journal D)) (texts : List (List ℕ)) (refusal : Refusal)
      → AreTexts seen may_leave failed stale journal texts
      → IsStoppedBy config w (option_map (λ j. j.room) journal) texts refusal
      → IsRefusedFor seen may_leave failed stale config w journal refusal
  stopped config w journal texts refusals.Other are is = inr (texts, are, is)
  stopped config w journal texts (refusals.Record fault) are is = inr (texts, are, is)
  stopped config w journal texts refusals.Full are is = inr (texts, are, is)
  stopped config w journal texts refusals.Taken are is = absurd is
  stopped config w journal texts refusals.Memory are is = tt

-- a fault that is handed on
err_is : {B : Type 0} (s : Result B ReloadFault) (fault : ReloadFault) → IsErrAnd s (λ e. e ≡ fault) → s ≡ Err fault
err_is (Ok x) fault is = absurd is
err_is (Err e) fault is = ap Err is

module _ (s : Result Lead ReloadFault) (fault : ReloadFault) (handed : IsErrAnd s (λ e. e ≡ fault)) where
  unless_ends : (P Q : Type 0) → (P → Q) → UnlessEnds {A = List (List ℕ)} (Err fault) P → UnlessEnds s Q
  unless_ends P Q so is = subst (λ r. UnlessEnds r Q) (sym (err_is s fault handed)) (by fault is)
    where
      by : (f : ReloadFault) → UnlessEnds {A = List (List ℕ)} (Err f) P → UnlessEnds {A = Lead} (Err f) Q
      by (faults.Refused refusal) is = so is
      by (faults.Ends f) is = tt

  refused_unless : (P Q : Type 0) → (P → Q) → UnlessEnds {A = List (List ℕ)} (Err fault) P → IfRefused s (λ refusal. Q)
  refused_unless P Q so is = subst (λ r. IfRefused r (λ refusal. Q)) (sym (err_is s fault handed)) (by fault is)
    where
      by : (f : ReloadFault) → UnlessEnds {A = List (List ℕ)} (Err f) P → IfRefused {A = Lead} (Err f) (λ refusal. Q)
      by (faults.Refused refusal) is = so is
      by (faults.Ends f) is = tt

  pub refused_if : (A : Type 0) (P Q : Refusal → Type 0) → ((refusal : Refusal) → P refusal → Q refusal) → IfRefused {A = A} (Err fault) P
      → IfRefused s Q
  refused_if A P Q so is = subst (λ r. IfRefused r Q) (sym (err_is s fault handed)) (by fault is)
    where
      by : (f : ReloadFault) → IfRefused {A = A} (Err f) P → IfRefused {A = Lead} (Err f) Q
      by (faults.Refused refusal) is = so refusal is
      by (faults.Ends f) is = tt

  pub refused_as : (Q : Refusal → Type 0) (refusal : Refusal) → fault ≡ faults.Refused refusal → Q refusal → IfRefused s Q
  refused_as Q refusal is so = subst (λ r. IfRefused r Q) (sym (err_is s fault handed ∙ ap Err is)) so

  pub cannot_so : (P : Type 0) → IfCannotWrite {A = List (List ℕ)} (Err fault) P → IfCannotWrite s P
  cannot_so P is = subst (λ r. IfCannotWrite r P) (sym (err_is s fault handed)) (by fault is)
    where
      by : (f : ReloadFault) → IfCannotWrite {A = List (List ℕ)} (Err f) P → IfCannotWrite {A = Lead} (Err f) P
      by (faults.Refused refusal) is = tt
      by (faults.Ends turn_faults.Memory) is = tt
      by (faults.Ends turn_faults.CannotWrite) is = is

  pub can_write : (P : Type 0) → (fault ≡ faults.Ends turn_faults.CannotWrite → ⊥) → IfCannotWrite s P
  can_write P not = subst (λ r. IfCannotWrite r P) (sym (err_is s fault handed)) (by fault not)
    where
      by : (f : ReloadFault) → (f ≡ faults.Ends turn_faults.CannotWrite → ⊥) → IfCannotWrite {A = Lead} (Err f) P
      by (faults.Refused refusal) not = tt
      by (faults.Ends turn_faults.Memory) not = tt
      by (faults.Ends turn_faults.CannotWrite) not = absurd (not refl)

  module _ {D : Type 0} (seen : D → Option (List ℕ)) (may_leave : D → List ℕ → Type 0) (failed : D → Bool) (stale : D → ℕ → Type 0)
      (config : StoreState) (w : World) (o n : Option (Journal D)) (unsaved : Kept) (same : IsJustRead o n) where
    abbrev SavedAt : World → Option (Journal D) → StoreState → World → Type 0
    SavedAt v journal before begin = IfSome journal (λ j. IsSavedIn seen may_leave failed stale before begin j unsaved v)

    abbrev StaysAt : World → Type 0
    StaysAt v = (before : StoreState) (begin : World) → SavedAt w o before begin → SavedAt v n before begin

    stays : OfBoth (Opens seen may_leave failed stale) o n → StaysAt w
    stays opens = λ before begin is. stays_read seen may_leave failed stale before begin o n unsaved w same opens is

    -- the records aren't read
    pub unread_ready : IfSome o (IsReadyWith seen may_leave failed stale unsaved)
        → UnlessEnds {A = List (List ℕ)} (Err fault) (OfBoth (Opens seen may_leave failed stale) o n)
        → UnlessEnds s (IfSome n (IsReadyWith seen may_leave failed stale unsaved))
    unread_ready ready is =
        unless_ends (OfBoth (Opens seen may_leave failed stale) o n) (IfSome n (IsReadyWith seen may_leave failed stale unsaved))
        (λ opens. ready_read seen may_leave failed stale o n unsaved same opens ready) is

    pub unread_kept : UnlessEnds {A = List (List ℕ)} (Err fault) (OfBoth (Opens seen may_leave failed stale) o n)
        → IfRefused s (λ refusal. StaysAt w)
    unread_kept is = refused_unless (OfBoth (Opens seen may_leave failed stale) o n) (StaysAt w) stays is

    pub unread_why : IfRefused {A = List (List ℕ)} (Err fault) (IsUnread seen may_leave failed stale n)
        → IfRefused s (IsRefusedFor seen may_leave failed stale config w n)
    unread_why is =
        refused_if (List (List ℕ)) (IsUnread seen may_leave failed stale n) (IsRefusedFor seen may_leave failed stale config w n)
        (λ refusal why. unread seen may_leave failed stale config w n refusal why) is

    -- what a start would serve isn't served
    pub stopped_kept : (refusal : Refusal) → fault ≡ faults.Refused refusal → OfBoth (Opens seen may_leave failed stale) o n
        → IfRefused s (λ r. StaysAt w)
    stopped_kept refusal is opens = refused_as (λ r. StaysAt w) refusal is (stays opens)

    pub stopped_why : (texts : List (List ℕ)) (room : Option ℕ) (refusal : Refusal) → fault ≡ faults.Refused refusal
        → AreTexts seen may_leave failed stale n texts → room ≡ option_map (λ j. j.room) n → IsStoppedBy config w room texts refusal
        → IfRefused s (IsRefusedFor seen may_leave failed stale config w n)
    stopped_why texts room refusal is are room_is why =
        refused_as (IsRefusedFor seen may_leave failed stale config w n) refusal is
        (stopped seen may_leave failed stale config w n texts refusal are
        (subst (λ x. IsStoppedBy config w x texts refusal) room_is why))

    -- the edits aren't found
    pub lacking_why : fault ≡ faults.Refused refusals.Memory → IfRefused s (IsRefusedFor seen may_leave failed stale config w n)
    lacking_why is = refused_as (IsRefusedFor seen may_leave failed stale config w n) refusals.Memory is tt
