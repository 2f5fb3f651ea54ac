-- The end of a journal, and what a crash leaves while it is written again.
use Rattle.std.proofs.Common.{◌≡◌, inl, inr, ℕ, ◌+◌, ◌-◌, ◌≤◌, List, [], ◌∷◌, ◌++◌, length, take, drop, replicate, Option, Some, IfSome, Result, Ok, Err, OnOk, sym, ap, subst, ◌∙◌, arith, length-append}
use Rattle.std.specs.Option.{option_map}
use Rattle.doc_server_journal.specs.Devices.{Torn, LeavesFile, LeavesOnly, Stepped}
use Rattle.doc_server_journal.specs.Journals.{Holds}
use Rattle.doc_server_journal.specs.Openings.{IsEndAgain, WasLeftOrReads}
use Rattle.doc_server_journal_records.specs.Records.{closed_gate, front_of}
use Rattle.doc_server_journal_records.specs.Readings.{IsFound, ReadsAs, last_size}
use Rattle.doc_server_journal_records.specs.declared.found.Found.{Found}
use Rattle.doc_server_journal_records.proofs.ChainLemmas.{last_within}
use Rattle.doc_server_journal.proofs.HoldLemmas.{reads_so}
use Rattle.doc_server_journal.proofs.Mixtures.{rest_shut, zeros_shut}
use Rattle.doc_server_journal.proofs.Moments.{if_known, known, if_mapped, weaker, goes_on}
use Rattle.doc_server_journal.proofs.WriteLemmas.{again_done, again_torn, length_again, part_read}
use Rattle.doc_server_journal_records.proofs.Digits.{all_append}

pub on_ok : {X E P Q : Type 0} (r : Result X E) → OnOk r P → (P → Q) → OnOk r Q
on_ok (Ok x) p f = f p
on_ok (Err e) p f = tt

-- what was found in bytes
module _ (bytes : List ℕ) (found : Found) (is : IsFound bytes found) where
  abbrev front : List ℕ
  front = front_of is.identity is.entries

  pub size : length bytes ≡ found.end + 1 + length is.tail
  size = omega (arith, is.end, ap length is.records.split, length-append front (closed_gate ∷ is.tail))

  -- the last record stands in front of the closed gate
  pub last_inside : found.last ≤ found.end
  last_inside = omega (arith, is.end, is.last, ap last_size is.texts, last_within is.identity is.entries is.records.are_entries)

  pub reads : ReadsAs bytes found.texts
  reads = record {
    identity = is.identity;
    entries = is.entries;
    tail = is.tail;
    records = is.records;
    is_tail = is.is_tail;
    texts_are = is.texts;
  }

  pub holds_reads : (c : List ℕ) → Holds is.identity is.entries c → ReadsAs c found.texts
  holds_reads c holds = reads_so is.identity is.entries found.texts c is.records.is_identity is.records.are_entries is.texts holds

  module _ (torn : ℕ) (again : List ℕ) (again_is : IsEndAgain bytes found torn again) where
    abbrev from : ℕ
    from = found.end - found.last

    again_parts : again ≡ drop from (front ++ closed_gate ∷ []) ++ replicate torn 0
    again_parts =
        again_is ∙ ap (λ l. l ++ replicate torn 0)
        (part_read front found.end is.end bytes is.tail from (omega arith) is.records.split)

    pub written : take from bytes ++ again ++ drop (from + length again) bytes
        ≡ front ++ closed_gate ∷ (replicate torn 0 ++ drop torn is.tail)
    written =
        ap (λ f. take from f ++ again ++ drop (from + length again) f) is.records.split
        ∙ again_done front found.end is.end is.tail again from torn (omega arith) again_parts

    pub written_holds : Holds is.identity is.entries (take from bytes ++ again ++ drop (from + length again) bytes)
    written_holds = (
      replicate torn 0 ++ drop torn is.tail,
      all_append _ (replicate torn 0) (drop torn is.tail) (zeros_shut torn) (rest_shut torn is.tail is.is_tail),
      written,
    )

    -- it is written up to the end of the file
    pub all_again : length bytes ≡ found.end + 1 + torn → length bytes ≤ from + length again
    all_again all =
        omega (arith, all, length_again front found.end is.end is.tail again from torn (omega arith) again_parts)

    pub torn_reads : (c : List ℕ) → Torn from again bytes c → ReadsAs c found.texts
    torn_reads c cut =
        holds_reads c (again_torn front found.end is.end is.tail again from torn (omega arith) again_parts is.is_tail c
        (subst (λ f. Torn from again f c) is.records.split cut))

-- nothing but a sync
pub only_synced : {D : Type 0} (seen : D → Option (List ℕ)) (may_leave : D → List ℕ → Type 0) (moment : D → ℕ)
    (left_since : D → ℕ → List ℕ → Type 0) (old mid : D) (texts : List (List ℕ)) → LeavesOnly moment left_since old mid (may_leave old)
    → IfSome (seen old) (λ file. LeavesOnly moment left_since old mid (WasLeftOrReads (may_leave old) texts))
only_synced seen may_leave moment left_since old mid texts synced =
    if_known (seen old) (λ file. LeavesOnly moment left_since old mid (WasLeftOrReads (may_leave old) texts))
    (λ file is. weaker moment left_since old mid (may_leave old) (WasLeftOrReads (may_leave old) texts) synced (λ c left. inl left))

-- a sync, and then a change
module _ {D : Type 0} (seen : D → Option (List ℕ)) (may_leave : D → List ℕ → Type 0) (moment : D → ℕ) (left_since : D → ℕ → List ℕ
    → Type 0) (old mid new : D)
    (bytes : List ℕ) (texts : List (List ℕ)) (reads : ReadsAs bytes texts) (known_is : IfSome (seen old) (λ file. file ≡ bytes))
    (same : seen mid ≡ seen old) where
  file_is : (file : List ℕ) → seen old ≡ Some file → file ≡ bytes
  file_is file is = known (seen old) file (λ f. f ≡ bytes) is known_is

  pub place : (n : ℕ) → n ≤ length bytes → IfSome (seen mid) (λ file. n ≤ length file)
  place n fits =
      subst (λ o. IfSome o (λ file. n ≤ length file)) (sym same)
      (if_known (seen old) (λ file. n ≤ length file) (λ file is. omega (arith, fits, ap length (file_is file is))))

  pub filled : (P : List ℕ → Type 0) (f : List ℕ → List ℕ) → seen new ≡ option_map f (seen mid) → P (f bytes)
      → IfSome (seen new) P
  filled P f writes done =
      subst (λ o. IfSome o P) (sym (writes ∙ ap (λ o. option_map f o) same))
      (if_mapped f (seen old) P (λ file is. subst P (sym (ap f (file_is file is))) done))

  abbrev After : List ℕ → Type 0
  After c = WasLeftOrReads (may_leave old) texts c

  here : LeavesFile (seen mid) (may_leave mid) → (file : List ℕ) → seen old ≡ Some file → (c : List ℕ) → may_leave mid c → c ≡ bytes
  here durable file is c left = known (seen mid) file (λ f. (x : List ℕ) → may_leave mid x → x ≡ f) (same ∙ is) durable c left
      ∙ file_is file is

  by_step : LeavesFile (seen mid) (may_leave mid) → (file : List ℕ) → seen old ≡ Some file → (step : List ℕ → List ℕ → Type 0)
      → ((c : List ℕ) → step bytes c → ReadsAs c texts) → (c : List ℕ) → Stepped step (may_leave mid) c → After c
  by_step durable file is step on c (inl left) = inr (subst (λ f. ReadsAs f texts) (sym (here durable file is c left)) reads)
  by_step durable file is step on c (inr (d, left, stepped)) = inr (on c (subst (λ f. step f c) (here durable file is d left) stepped))

  pub changed : LeavesOnly moment left_since old mid (may_leave old) → LeavesFile (seen mid) (may_leave mid)
      → (step : List ℕ → List ℕ → Type 0)
      → LeavesOnly moment left_since mid new (Stepped step (may_leave mid)) → ((c : List ℕ) → step bytes c → ReadsAs c texts)
      → IfSome (seen old) (λ file. LeavesOnly moment left_since old new After)
  changed synced durable step run on = if_known (seen old) (λ file. LeavesOnly moment left_since old new After) (λ file is.
      goes_on moment left_since old mid new After
      (weaker moment left_since old mid (may_leave old) After synced (λ c left. inl left))
      (weaker moment left_since mid new (Stepped step (may_leave mid)) After run (by_step durable file is step on)))
