-- A journal that is opened, and one that is refused.
use Rattle.std.proofs.Common.{Bool, Err, IfErr, IfSome, IsErrAnd, List, Ok, Option, Result, Some, [], ap, arith, false, inl, inr, length, length-append, refl, subst, sym, ℕ, ◌+◌, ◌++◌, ◌-◌, ◌<◌, ◌^◌, ◌∙◌, ◌∷◌, ◌≡◌, ◌≢◌}
use Rattle.doc_server_journal.specs.Devices.{AreBehind, IsFresh, LeavesFile, LeavesOnly, is_failed}
use Rattle.std.proofs.lemmas.List.{append-nil}
use Rattle.doc_server_journal_records.specs.Records.{IsIdentity, closed_gate, header, seed}
use Rattle.doc_server_journal_records.proofs.HeaderLemmas.{length_header}
use Rattle.doc_server_journal_records.specs.Readings.{ReadsAs, IsDamaged, IsWhy, IsFound, last_size}
use Rattle.doc_server_journal.specs.Journals.{Holds, IsOpen}
use Rattle.doc_server_journal.specs.Openings.{of_load, of_reading, IsForeign, IsOfFirst, WasLeftOrReads, IsRefused}
use Rattle.doc_server_journal.specs.declared.fault.LoadError.{LoadError}
use Rattle.doc_server_journal.specs.declared.fault.OpenFault.{OpenFault}
use Rattle.doc_server_journal.specs.declared.fault.OpenFault.TheVariants.{Failed}
use Rattle.doc_server_journal.specs.declared.fault.LoadError.TheVariants as loads
use Rattle.doc_server_journal_records.specs.declared.read_error.ReadError.{ReadError}
use Rattle.doc_server_journal_records.specs.declared.read_error.ReadError.TheVariants as readings
use Rattle.doc_server_journal_records.specs.declared.found.Found.{Found}
use Rattle.doc_server_journal_records.proofs.LawLemmas.{reads_one_way}
use Rattle.doc_server_journal.proofs.RepairLemmas.{reads as its_reading}
use Rattle.doc_server_journal.proofs.Moments.{if_known, known, weaker, goes_on}

pub not_loaded : (most : ℕ) (old new : Option (List ℕ)) (failed : Bool) (e : LoadError)
    → (e ≡ loads.Long → IfSome old (λ file. most < length file))
    → new ≡ old → failed ≡ is_failed (Err e) → IsRefused most old new failed (of_load e)
not_loaded most old new failed loads.Memory long same cause = (same, cause)
not_loaded most old new failed loads.Long long same cause = (long refl, (same, cause))
not_loaded most old new failed loads.Failed long same cause = cause

pub not_read : (most : ℕ) (old new : Option (List ℕ)) (failed : Bool) (bytes : List ℕ) (e : ReadError) → IfSome old (λ file. file ≡ bytes)
    → new ≡ old
    → failed ≡ false → IsWhy bytes e → IsRefused most old new failed (of_reading e)
not_read most old new failed bytes readings.NoJournal known_is same usable why = (
  if_known old IsForeign (λ file is. subst IsForeign (sym (known old file (λ f. f ≡ bytes) is known_is)) why),
  (same, usable),
)
not_read most old new failed bytes readings.First known_is same usable why = (
  if_known old IsOfFirst (λ file is. subst IsOfFirst (sym (known old file (λ f. f ≡ bytes) is known_is)) why),
  (same, usable),
)
not_read most old new failed bytes (readings.Damaged n) known_is same usable why = (
  if_known old (λ file. IsDamaged file n) (λ file is. subst (λ f. IsDamaged f n) (sym (known old file (λ f. f ≡ bytes) is known_is)) why),
  (same, usable),
)
not_read most old new failed bytes readings.Memory known_is same usable why = (same, usable)

-- it is refused for that reason
pub refused_so : {X : Type 0} (r : Result X OpenFault) (fault : OpenFault) (most : ℕ) (old new : Option (List ℕ)) (failed : Bool)
    → IsErrAnd r (λ e. e ≡ fault) → IsRefused most old new failed fault → IfErr r (λ e. IsRefused most old new failed e)
refused_so (Ok x) fault most old new failed is refused = tt
refused_so (Err e) fault most old new failed is refused = subst (λ f. IsRefused most old new failed f) (sym is) refused

module _ {D : Type 0} (moment : D → ℕ) (left_since : D → ℕ → List ℕ → Type 0) (old new : D) (P : List ℕ → Type 0) where
  pub so_each : {X : Type 0} (r : Result X OpenFault) → LeavesOnly moment left_since old new P
      → IfErr r (λ e. e ≢ Failed → LeavesOnly moment left_since old new P)
  so_each (Ok x) run = tt
  so_each (Err e) run = λ other. run

  pub not_failed : {X : Type 0} (r : Result X OpenFault) → IsErrAnd r (λ e. e ≡ Failed)
      → IfErr r (λ e. e ≢ Failed → LeavesOnly moment left_since old new P)
  not_failed (Ok x) is = tt
  not_failed (Err e) is = λ other. absurd (other is)

module _ {D : Type 0} (seen : D → Option (List ℕ)) (may_leave : D → List ℕ → Type 0) (moment : D → ℕ) (left_since : D → ℕ → List ℕ
    → Type 0) (old mid : D)
    (loaded : LeavesOnly moment left_since old mid (may_leave old)) where
  -- nothing was changed
  pub untouched : (texts : List (List ℕ)) → IfSome (seen old) (λ file. ReadsAs file texts
      → LeavesOnly moment left_since old mid (WasLeftOrReads (may_leave old) texts))
  untouched texts =
      if_known (seen old) (λ file. ReadsAs file texts → LeavesOnly moment left_since old mid (WasLeftOrReads (may_leave old) texts))
      (λ file is reads. weaker moment left_since old mid (may_leave old) (WasLeftOrReads (may_leave old) texts) loaded (λ c left. inl left))

  module _ (fewer : (c : List ℕ) → may_leave mid c → may_leave old c) (same : seen mid ≡ seen old) (bytes : List ℕ) (found : Found)
      (found_is : IsFound bytes found)
      (known_is : IfSome (seen old) (λ file. file ≡ bytes)) (new : D) where
    module _ (texts : List (List ℕ)) where
      abbrev After : List ℕ → Type 0
      After c = WasLeftOrReads (may_leave old) texts c

      on : texts ≡ found.texts → (c : List ℕ) → WasLeftOrReads (may_leave mid) found.texts c → After c
      on texts_are c (inl left) = inl (fewer c left)
      on texts_are c (inr these) = inr (subst (λ ts. ReadsAs c ts) (sym texts_are) these)

      run_of : IfSome (seen mid) (λ file. LeavesOnly moment left_since mid new (WasLeftOrReads (may_leave mid) found.texts))
          → (file : List ℕ)
          → seen old ≡ Some file → LeavesOnly moment left_since mid new (WasLeftOrReads (may_leave mid) found.texts)
      run_of run file is = known (seen mid) file (λ f. LeavesOnly moment left_since mid new (WasLeftOrReads (may_leave mid) found.texts))
          (same ∙ is) run

      texts_of : (file : List ℕ) → seen old ≡ Some file → ReadsAs file texts → texts ≡ found.texts
      texts_of file is reads =
          reads_one_way bytes texts found.texts (subst (λ f. ReadsAs f texts) (known (seen old) file (λ f. f ≡ bytes) is known_is) reads)
          (its_reading bytes found found_is)

      pub repaired : IfSome (seen mid) (λ file. LeavesOnly moment left_since mid new (WasLeftOrReads (may_leave mid) found.texts))
          → IfSome (seen old) (λ file. ReadsAs file texts → LeavesOnly moment left_since old new After)
      repaired run = if_known (seen old) (λ file. ReadsAs file texts → LeavesOnly moment left_since old new After) (λ file is reads.
          goes_on moment left_since old mid new After
          (weaker moment left_since old mid (may_leave old) After loaded (λ c left. inl left))
          (weaker moment left_since mid new (WasLeftOrReads (may_leave mid) found.texts) After (run_of run file is)
          (on (texts_of file is reads))))

-- the texts are those of the file
pub its_texts : (old : Option (List ℕ)) (bytes : List ℕ) (found : Found) → IsFound bytes found → IfSome old (λ file. file ≡ bytes)
    → IfSome old (λ file. ReadsAs file found.texts)
its_texts old bytes found is known_is =
    if_known old (λ file. ReadsAs file found.texts) (λ file there. subst (λ f. ReadsAs f found.texts)
    (sym (known old file (λ f. f ≡ bytes) there known_is)) (its_reading bytes found is))

-- the last record's gate
pub gate_is : (stale : ℕ → Type 0) (bytes : List ℕ) (found : Found) → IsFound bytes found
    → AreBehind stale (found.end - last_size found.texts) → AreBehind stale (found.end - found.last)
gate_is stale bytes found is behind = subst (λ n. AreBehind stale (found.end - n)) (sym is.last) behind

pub is_open : {D : Type 0} (seen : D → Option (List ℕ)) (may_leave : D → List ℕ → Type 0) (failed : D → Bool) (stale : D → ℕ
    → Type 0) (device : D) (bytes : List ℕ) (found : Found) (room : ℕ) (is : IsFound bytes found)
    → IfSome (seen device) (λ file. Holds is.identity is.entries file) → LeavesFile (seen device) (may_leave device)
    → IsFresh (stale device) → failed device ≡ false
    → IfSome (seen device) (λ file. length file ≡ found.end + 1 + room) → found.end + 1 + room < 2 ^ 63
    → IsOpen seen may_leave failed stale (record { device = device; end = found.end; room = room; digest = found.digest }) found.texts
is_open seen may_leave failed stale device bytes found room is file durable fresh usable room_is fits = record {
  identity = is.identity;
  entries = is.entries;
  is_identity = is.records.is_identity;
  are_entries = is.records.are_entries;
  texts_are = is.texts;
  file = file;
  durable = durable;
  fresh = fresh;
  digest = is.digest;
  end = is.end;
  room = room_is;
  fits = fits;
  usable = usable;
}

-- a file that was begun
pub is_made : {D : Type 0} (seen : D → Option (List ℕ)) (may_leave : D → List ℕ → Type 0) (failed : D → Bool) (stale : D → ℕ
    → Type 0) (device : D) (identity header_bytes digest : List ℕ)
    → IsIdentity identity → header_bytes ≡ header identity → digest ≡ seed identity
    → IfSome (seen device) (λ file. file ≡ header_bytes ++ closed_gate ∷ []) → LeavesFile (seen device) (may_leave device)
    → IsFresh (stale device) → failed device ≡ false
    → IsOpen seen may_leave failed stale (record { device = device; end = 55; room = 0; digest = digest }) []
is_made seen may_leave failed stale device identity header_bytes digest identity_is headed seeded file durable fresh usable =
    let none = append-nil (header identity) in
    record {
      identity = identity;
      entries = [];
      is_identity = identity_is;
      are_entries = tt;
      texts_are = refl;
      file = if_known (seen device) (λ f. Holds identity [] f) (λ f known_is. (
        [],
        refl,
        known (seen device) f (λ l. l ≡ header_bytes ++ closed_gate ∷ []) known_is file
            ∙ ap (λ h. h ++ closed_gate ∷ []) (headed ∙ sym none),
      ));
      durable = durable;
      fresh = fresh;
      digest = seeded;
      end = omega (arith, ap length none, length_header identity identity_is);
      room = if_known (seen device) (λ f. length f ≡ 55 + 1 + 0) (λ f known_is.
          omega (
            arith,
            ap length (known (seen device) f (λ l. l ≡ header_bytes ++ closed_gate ∷ []) known_is file),
            length-append header_bytes (closed_gate ∷ []),
            ap length headed,
            length_header identity identity_is,
          ));
      fits = omega arith;
      usable = usable;
    }
