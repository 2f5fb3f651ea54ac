-- A journal's file that is read anew.
use Rattle.std.proofs.Common.{◌≡◌, ℕ, ◌+◌, List, ◌∷◌, ◌++◌, Bool, true, false, length, refl, ap, sym, subst, not, bytes_eq, ◌∙◌, arith, append_assoc}
use Rattle.std.proofs.Common.{length-append}
use Rattle.std.proofs.Common.{Option, Some, None, Result, Err, IfSome, IsErrAnd}
use Rattle.doc_page_parts.proofs.Bools.{clash}
use Rattle.doc_page_parts.proofs.Texts.{bytes_eq_itself, bytes_eq_true}
use Rattle.doc_server_journal_records.specs.Records.{Entry, IsTail, closed_gate, chain, front_of, header, last_digest, seed}
use Rattle.doc_server_journal_records.specs.Readings.{AreRecords, IsFound, IsWhy, ReadsAs}
use Rattle.doc_server_journal_records.specs.declared.found.Found.{Found}
use Rattle.doc_server_journal_records.specs.declared.read_error.ReadError.{ReadError}
use Rattle.doc_server_journal_records.specs.declared.read_error.ReadError.TheVariants as reads
use Rattle.doc_server_journal_records.proofs.ChainLemmas.{end_not_open}
use Rattle.doc_server_journal_records.proofs.HeaderLemmas.{identity_part, length_header}
use Rattle.doc_server_journal_records.proofs.LawLemmas.{one_reading, read_is_not_damaged, reads_one_way}
use Rattle.doc_server_journal_records.proofs.RecordLemmas.{parts}
use Rattle.doc_server_journal.specs.Devices.{LeavesFile}
use Rattle.doc_server_journal.specs.Journals.{Holds, IsOpen}
use Rattle.doc_server_journal.specs.declared.journal.Journal.{Journal}
use Rattle.doc_server_journal.proofs.HoldLemmas.{open_reads}
use Rattle.doc_server_journal.proofs.Moments.{if_known, known}
use Rattle.doc_server_reload.specs.declared.anew.TextsFault.{TextsFault}
use Rattle.doc_server_reload.specs.declared.anew.TextsFault.TheVariants.{Other, Memory}
use Rattle.doc_server_reload.specs.Texts.{moved_to, of_reading}

-- ---- bytes are one journal

-- where two journals begin, and the digest of the last record
record IsOne (i j : List ℕ) (es fs : List Entry) : Type 0 where
  end : length (front_of i es) ≡ length (front_of j fs)
  digest : last_digest (seed i) es ≡ last_digest (seed j) fs

one_journal : (bytes i j : List ℕ) (es fs : List Entry) (x y : List ℕ) → AreRecords bytes i es (closed_gate ∷ x)
    → AreRecords bytes j fs (closed_gate ∷ y) → IsTail x → IsTail y → IsOne i j es fs
one_journal bytes i j es fs x y one two x_is y_is =
    let heads = parts (header i) (header j) (chain (seed i) es ++ closed_gate ∷ x) (chain (seed j) fs ++ closed_gate ∷ y)
    (length_header i one.is_identity ∙ sym (length_header j two.is_identity))
    (sym (append_assoc (header i) (chain (seed i) es) (closed_gate ∷ x)) ∙ sym one.split ∙ two.split
    ∙ append_assoc (header j) (chain (seed j) fs) (closed_gate ∷ y)) in
    let same : i ≡ j = sym (identity_part (header i) i one.is_identity refl) ∙ identity_part (header i) j two.is_identity heads.0 in
    let both = one_reading bytes i j es fs (closed_gate ∷ x) (closed_gate ∷ y) one two
    (end_not_open (last_digest (seed i) es) (closed_gate ∷ x) (x, refl, x_is))
    (end_not_open (last_digest (seed j) fs) (closed_gate ∷ y) (y, refl, y_is)) in
    record {
      end = omega (
        arith,
        ap length one.split,
        length-append (front_of i es) (closed_gate ∷ x),
        ap length two.split,
        length-append (front_of j fs) (closed_gate ∷ y),
        ap length both.rest,
      );
      digest = both.digest ∙ ap (λ k. last_digest (seed k) fs) same;
    }

-- ---- digests that are compared

pub digests_are : (xs ys : List ℕ) → false ≡ not (bytes_eq xs ys) → xs ≡ ys
digests_are xs ys told = by (bytes_eq xs ys) refl told
  where
    by : (b : Bool) → bytes_eq xs ys ≡ b → false ≡ not b → xs ≡ ys
    by true e told = bytes_eq_true xs ys e
    by false e told = absurd (clash false told refl)

pub digests_differ : (xs ys : List ℕ) → true ≡ not (bytes_eq xs ys) → xs ≡ ys → ⊥
digests_differ xs ys told is = clash true refl (told ∙ ap not (ap (bytes_eq xs) (sym is) ∙ bytes_eq_itself xs))

-- ---- an open journal whose file was read

-- bytes that are those that were loaded are those of the file
pub as_loaded : (o : Option (List ℕ)) (loaded bytes : List ℕ) → bytes ≡ loaded → IfSome o (λ file. file ≡ loaded)
    → IfSome o (λ file. file ≡ bytes)
as_loaded o loaded bytes is read = subst (λ b. IfSome o (λ file. file ≡ b)) (sym is) read

pub none_known : {X : Type 0} (o : Option X) → ((x : X) → o ≡ Some x → ⊥) → o ≡ None
none_known None none = refl
none_known (Some x) none = absurd (none x refl)

pub its_fault : {X : Type 0} (r : Result X TextsFault) (fault : TextsFault) → IsErrAnd r (λ e. e ≡ fault) → r ≡ Err Other → fault ≡ Other
its_fault r fault is other = sym (subst (λ s. IsErrAnd s (λ e. e ≡ fault)) other is)

-- bytes that read as a journal are refused for want of memory alone
only_memory : (bytes : List ℕ) (texts : List (List ℕ)) (e : ReadError) → ReadsAs bytes texts → IsWhy bytes e → of_reading e ≡ Memory
only_memory bytes texts reads.NoJournal is why = absurd ((read_is_not_damaged bytes texts is).1 why.0)
only_memory bytes texts reads.First is why = absurd ((read_is_not_damaged bytes texts is).1 why.0)
only_memory bytes texts (reads.Damaged n) is why = absurd ((read_is_not_damaged bytes texts is).0 n why)
only_memory bytes texts reads.Memory is why = refl

module _ {D : Type 0} (seen : D → Option (List ℕ)) (may_leave : D → List ℕ → Type 0) (failed : D → Bool) (stale : D → ℕ → Type 0)
    (journal : Journal D) (new : D) (same : seen new ≡ seen journal.device)
    (fewer : (c : List ℕ) → may_leave new c → may_leave journal.device c)
    (older : (i : ℕ) → stale new i → stale journal.device i) where
  abbrev Open : Journal D → List (List ℕ) → Type 0
  Open j texts = IsOpen seen may_leave failed stale j texts

  module _ (usable : failed new ≡ false) where
    leaves : LeavesFile (seen journal.device) (may_leave journal.device) → LeavesFile (seen new) (may_leave new)
    leaves durable =
        if_known (seen new) (λ file. (c : List ℕ) → may_leave new c → c ≡ file) (λ file there c left.
        known (seen journal.device) file (λ f. (d : List ℕ) → may_leave journal.device d → d ≡ f) (sym same ∙ there) durable c
        (fewer c left))

    module _ (bytes : List ℕ) (read : IfSome (seen journal.device) (λ file. file ≡ bytes)) (found : Found) (is_found : IsFound bytes found)
        (ends : found.end ≡ journal.end) (digests : found.digest ≡ journal.digest) where
      holds : Holds is_found.identity is_found.entries bytes
      holds = (is_found.tail, is_found.is_tail, is_found.records.split)

      pub open_with_these : (texts : List (List ℕ)) → Open journal texts → Open (moved_to journal new) found.texts
      open_with_these texts is = record {
        identity = is_found.identity;
        entries = is_found.entries;
        is_identity = is_found.records.is_identity;
        are_entries = is_found.records.are_entries;
        texts_are = is_found.texts;
        file = if_known (seen new) (λ file. Holds is_found.identity is_found.entries file) (λ file there.
            subst (λ f. Holds is_found.identity is_found.entries f)
            (sym (known (seen journal.device) file (λ f. f ≡ bytes) (sym same ∙ there) read)) holds);
        durable = leaves is.durable;
        fresh = λ i was. is.fresh i (older i was);
        digest = sym digests ∙ is_found.digest;
        end = sym ends ∙ is_found.end;
        room = subst (λ o. IfSome o (λ file. length file ≡ journal.end + 1 + journal.room)) (sym same) is.room;
        fits = is.fits;
        usable = usable;
      }

-- a file that is known reads as the texts that the journal is open with
module _ {D : Type 0} (seen : D → Option (List ℕ)) (may_leave : D → List ℕ → Type 0) (failed : D → Bool) (stale : D → ℕ → Type 0)
    (journal : Journal D) (texts : List (List ℕ)) (is : IsOpen seen may_leave failed stale journal texts) (bytes : List ℕ)
    (read : IfSome (seen journal.device) (λ file. file ≡ bytes)) where
  reads_so : (file : List ℕ) → seen journal.device ≡ Some file → ReadsAs bytes texts
  reads_so file there =
      subst (λ f. ReadsAs f texts) (known (seen journal.device) file (λ f. f ≡ bytes) there read)
      (known (seen journal.device) file (λ f. ReadsAs f texts) there (open_reads seen may_leave failed stale journal texts is))

  -- nothing is refused of it but for want of memory
  pub known_is_read : (e : ReadError) → IsWhy bytes e → of_reading e ≡ Other → seen journal.device ≡ None
  known_is_read e why other =
      none_known (seen journal.device) (λ file there. unlike (sym (only_memory bytes texts e (reads_so file there) why) ∙ other))
    where
      unlike : Memory ≡ Other → ⊥
      unlike same = cc

  module _ (found : Found) (is_found : IsFound bytes found) where
    its_reading : ReadsAs bytes found.texts
    its_reading = record {
      identity = is_found.identity;
      entries = is_found.entries;
      tail = is_found.tail;
      records = is_found.records;
      is_tail = is_found.is_tail;
      texts_are = is_found.texts;
    }

    pub known_texts : IfSome (seen journal.device) (λ file. found.texts ≡ texts)
    known_texts = if_known (seen journal.device) (λ file. found.texts ≡ texts) (λ file there.
        reads_one_way bytes found.texts texts its_reading (reads_so file there))

    its_place : (file : List ℕ) → seen journal.device ≡ Some file → IsOne is_found.identity is.identity is_found.entries is.entries
    its_place file there =
        let held = known (seen journal.device) file (λ f. Holds is.identity is.entries f) there is.file in
        one_journal bytes is_found.identity is.identity is_found.entries is.entries is_found.tail held.0 is_found.records
        (record {
          is_identity = is.is_identity;
          are_entries = is.are_entries;
          split = sym (known (seen journal.device) file (λ f. f ≡ bytes) there read) ∙ held.2;
        }) is_found.is_tail held.1

    -- it ends where the journal does, and has its digest
    pub known_end : (file : List ℕ) → seen journal.device ≡ Some file → found.end ≡ journal.end
    known_end file there = is_found.end ∙ (its_place file there).end ∙ sym is.end

    pub known_digest : (file : List ℕ) → seen journal.device ≡ Some file → found.digest ≡ journal.digest
    known_digest file there = is_found.digest ∙ (its_place file there).digest ∙ sym is.digest
