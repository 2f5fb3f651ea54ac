-- A new record: what a crash leaves at each moment, and what the journal is then.
use Rattle.std.proofs.Common.{◌≡◌, ◌⊎◌, inl, inr, ⊎_elim, ℕ, ◌+◌, ◌-◌, ◌≤◌, Bool, false, List, [], ◌∷◌, ◌++◌, length, take, drop, Option, Some, None, IfSome, refl, sym, ap, subst, ◌∙◌, arith, length-append, length-drop, append_assoc}
use Rattle.std.specs.Option.{option_map}
use Rattle.doc_server_journal.specs.Devices.{Torn, Writes, LeavesFile, LeavesOnly, Stepped, IsFresh, AreBehind}
use Rattle.doc_server_journal_records.specs.Records.{Entry, IsEntry, AreEntries, IsPlain, IsTail, text_limit, open_gate, closed_gate, header, seed, time_of, digest_behind, record_bytes, chain, last_digest, texts_of, front_of}
use Rattle.doc_server_journal.specs.Journals.{Holds, IsOpen, IsBeforeOrAfter, record_beside}
use Rattle.doc_server_journal_records.proofs.ChainLemmas.{chain_push, last_push, entries_push, texts_push}
use Rattle.doc_server_journal_records.proofs.Digits.{all_append, time_is}
use Rattle.doc_server_journal_records.proofs.RecordLemmas.{record_shut, length_record}
use Rattle.doc_server_journal.proofs.HoldLemmas.{reads_so}
use Rattle.doc_server_journal.proofs.Mixtures.{rest_shut}
use Rattle.doc_server_journal.proofs.Moments.{if_known, known, if_mapped, started, weaker, goes_on}
use Rattle.doc_server_journal.proofs.WriteLemmas.{first_done, first_torn, gate_done, gate_torn}

module _ {D : Type 0} (seen : D → Option (List ℕ)) (may_leave : D → List ℕ → Type 0) (failed : D → Bool) (stale : D → ℕ
    → Type 0) (moment : D → ℕ) (left_since : D → ℕ → List ℕ → Type 0)
    (only_now : (file : D) (c : List ℕ) → left_since file (moment file) c → may_leave file c) (device : D) (end room : ℕ) (digest : List ℕ)
    (texts : List (List ℕ)) (seconds : ℕ) (text bytes : List ℕ) (fits : length text ≤ text_limit) (plain : IsPlain text)
    (has_room : length text + record_beside ≤ room)
    (is : IsOpen seen may_leave failed stale (record { device = device; end = end; room = room; digest = digest }) texts) where
  abbrev After : List ℕ → Type 0
  After c = IsBeforeOrAfter texts text c

  abbrev entry : Entry
  entry = record { time = time_of seconds; text = text }

  is_entry : IsEntry entry
  is_entry = record { time = time_is seconds; within = fits; plain = plain }

  abbrev front : List ℕ
  front = front_of is.identity is.entries

  held : (file : List ℕ) → seen device ≡ Some file → Holds is.identity is.entries file
  held file known_is = known (seen device) file (λ f. Holds is.identity is.entries f) known_is is.file

  here : (file : List ℕ) → seen device ≡ Some file → (c : List ℕ) → may_leave device c → c ≡ file
  here file known_is c left = known (seen device) file (λ f. (x : List ℕ) → may_leave device x → x ≡ f) known_is is.durable c left

  -- bytes that hold the records of before, or one more
  before_reads : (c : List ℕ) → Holds is.identity is.entries c → After c
  before_reads c holds = inl (reads_so is.identity is.entries texts c is.is_identity is.are_entries is.texts_are holds)

  texts_then : texts ++ text ∷ [] ≡ texts_of (is.entries ++ entry ∷ [])
  texts_then = ap (λ ts. ts ++ text ∷ []) is.texts_are ∙ sym (texts_push is.entries entry)

  abbrev entries_then : AreEntries (is.entries ++ entry ∷ [])
  entries_then = entries_push is.entries entry is.are_entries is_entry

  after_reads : (c : List ℕ) → Holds is.identity (is.entries ++ entry ∷ []) c → After c
  after_reads c holds =
      inr (reads_so is.identity (is.entries ++ entry ∷ []) (texts ++ text ∷ []) c is.is_identity entries_then texts_then holds)

  resting : (file : List ℕ) → seen device ≡ Some file → (c : List ℕ) → may_leave device c → After c
  resting file known_is c left =
      before_reads c (subst (λ f. Holds is.identity is.entries f) (sym (here file known_is c left)) (held file known_is))

  -- nothing was written
  pub nothing : IfSome (seen device) (λ file. LeavesOnly moment left_since device device After)
  nothing = if_known (seen device) (λ file. LeavesOnly moment left_since device device After) (λ file known_is.
      started moment left_since device After (λ c left. resting file known_is c (only_now device c left)))

  pub none_behind : AreBehind (stale device) end
  none_behind = λ i here. absurd (is.fresh i here)

  -- what a sync that failed may have lost
  pub lost_behind : (now : ℕ → Type 0) (at : ℕ) → end ≤ at → ((i : ℕ) → now i → stale device i ⊎ (at ≤ i)) → AreBehind now end
  lost_behind now at behind lost = λ i here.
      ⊎_elim (λ was. absurd (is.fresh i was)) (λ le. omega (arith, behind, le)) (lost i here)

  pub first_place : IfSome (seen device) (λ file. end + 1 ≤ length file)
  first_place = if_known (seen device) (λ file. end + 1 ≤ length file) (λ file known_is.
      let holds = held file known_is in
      omega (arith, is.end, ap length holds.2, length-append front (closed_gate ∷ holds.0)))

  module _ (bytes_are : bytes ≡ record_bytes digest entry ++ closed_gate ∷ []) where
    abbrev record_is : List ℕ
    record_is = record_bytes (last_digest (seed is.identity) is.entries) entry

    bytes_written : bytes ≡ record_is ++ closed_gate ∷ []
    bytes_written = bytes_are ∙ ap (λ d. record_bytes d entry ++ closed_gate ∷ []) is.digest

    bytes_shut : IsTail bytes
    bytes_shut =
        subst IsTail (sym bytes_written) (all_append _ record_is (closed_gate ∷ []) (record_shut _ entry is_entry) refl)

    -- it fits behind the closed gate
    pub size : length bytes ≡ length text + record_beside
    size =
        omega (
          arith,
          ap length bytes_written,
          length-append record_is (closed_gate ∷ []),
          length_record (last_digest (seed is.identity) is.entries) entry is_entry.time.0,
        )

    pub inside : length bytes ≤ room
    inside = omega (arith, size, has_room)

    pub room_then : room - length bytes + (length text + record_beside) ≡ room
    room_then = omega (arith, size, has_room)

    -- behind the record in the file
    rest_of : List ℕ → List ℕ
    rest_of tail = bytes ++ drop (length bytes) tail

    abbrev behind : (file : List ℕ) → seen device ≡ Some file → List ℕ
    behind file known_is = bytes ++ drop (length bytes) (held file known_is).0

    behind_shut : (file : List ℕ) (known_is : seen device ≡ Some file) → IsTail (behind file known_is)
    behind_shut file known_is =
        let holds = held file known_is in
        all_append _ bytes (drop (length bytes) holds.0) bytes_shut (rest_shut (length bytes) holds.0 holds.1)

    -- the file with the record behind the closed gate, and with the gate opened
    abbrev staged : (file : List ℕ) → seen device ≡ Some file → List ℕ
    staged file known_is = front ++ closed_gate ∷ behind file known_is

    abbrev opened : (file : List ℕ) → seen device ≡ Some file → List ℕ
    opened file known_is = front ++ open_gate ∷ behind file known_is

    opened_holds : (file : List ℕ) (known_is : seen device ≡ Some file) (c : List ℕ) → c ≡ opened file known_is
        → Holds is.identity (is.entries ++ entry ∷ []) c
    opened_holds file known_is c same =
        let tail = drop (length bytes) (held file known_is).0 in
        let s = seed is.identity in (
          tail,
          rest_shut (length bytes) (held file known_is).0 (held file known_is).1,
          same
              ∙ ap (λ b. front ++ open_gate ∷ (b ++ tail)) bytes_written
              ∙ ap (λ b. front ++ open_gate ∷ b) (append_assoc record_is (closed_gate ∷ []) tail)
              ∙ append_assoc (header is.identity) (chain s is.entries) (open_gate ∷ (record_is ++ closed_gate ∷ tail))
              ∙ ap (λ l. header is.identity ++ l) (sym (chain_push s is.entries entry (closed_gate ∷ tail)))
              ∙ sym (append_assoc (header is.identity) (chain s (is.entries ++ entry ∷ [])) (closed_gate ∷ tail)),
        )

    module _ (mid : D) (run : LeavesOnly moment left_since device mid (Stepped (Torn (end + 1) bytes) (may_leave device))) where
      first : (file : List ℕ) → seen device ≡ Some file → LeavesOnly moment left_since device mid After
      first file known_is = weaker moment left_since device mid (Stepped (Torn (end + 1) bytes) (may_leave device)) After run step
        where
          step : (c : List ℕ) → Stepped (Torn (end + 1) bytes) (may_leave device) c → After c
          step c (inl left) = resting file known_is c left
          step c (inr (d, left, torn)) =
              let holds = held file known_is in
              before_reads c (first_torn front end is.end holds.0 bytes holds.1 bytes_shut c
              (subst (λ f. Torn (end + 1) bytes f c) (here file known_is d left ∙ holds.2) torn))

      pub after_first : IfSome (seen device) (λ file. LeavesOnly moment left_since device mid After)
      after_first = if_known (seen device) (λ file. LeavesOnly moment left_since device mid After) first

      module _ (writes : Writes (seen device) (end + 1) bytes (seen mid)) where
        laid : (file : List ℕ) (known_is : seen device ≡ Some file)
            → take (end + 1) file ++ bytes ++ drop (end + 1 + length bytes) file ≡ staged file known_is
        laid file known_is =
            let holds = held file known_is in
            ap (λ f. take (end + 1) f ++ bytes ++ drop (end + 1 + length bytes) f) holds.2
            ∙ first_done front end is.end holds.0 bytes

        mid_is : (file : List ℕ) (known_is : seen device ≡ Some file) → seen mid ≡ Some (staged file known_is)
        mid_is file known_is =
            writes ∙ ap (λ o. option_map (λ f. take (end + 1) f ++ bytes ++ drop (end + 1 + length bytes) f) o) known_is
            ∙ ap Some (laid file known_is)

        pub place : IfSome (seen mid) (λ file. end ≤ length file)
        place =
            let fills : (file : List ℕ) → seen device ≡ Some file
            → end ≤ length (take (end + 1) file ++ bytes ++ drop (end + 1 + length bytes) file) = λ file known_is.
            omega (arith, ap length (laid file known_is), is.end, length-append front (closed_gate ∷ behind file known_is)) in
            subst (λ o. IfSome o (λ file. end ≤ length file)) (sym writes)
            (if_mapped (λ file. take (end + 1) file ++ bytes ++ drop (end + 1 + length bytes) file) (seen device)
            (λ file. end ≤ length file) fills)

        module _ (durable : LeavesFile (seen mid) (may_leave mid)) (new : D)
            (opening : LeavesOnly moment left_since mid new (Stepped (Torn end (open_gate ∷ [])) (may_leave mid))) where
          second : (file : List ℕ) → seen device ≡ Some file → LeavesOnly moment left_since device new After
          second file known_is =
              goes_on moment left_since device mid new After (first file known_is)
              (weaker moment left_since mid new (Stepped (Torn end (open_gate ∷ [])) (may_leave mid)) After opening step)
            where
              there : (c : List ℕ) → may_leave mid c → c ≡ staged file known_is
              there c left =
                  known (seen mid) (staged file known_is) (λ f. (c : List ℕ) → may_leave mid c → c ≡ f)
                  (mid_is file known_is) durable c left

              staged_reads : (c : List ℕ) → c ≡ staged file known_is → After c
              staged_reads c same = before_reads c (behind file known_is, behind_shut file known_is, same)

              by : (c : List ℕ) → (c ≡ staged file known_is) ⊎ (c ≡ opened file known_is) → After c
              by c (inl shut) = staged_reads c shut
              by c (inr is_open) = after_reads c (opened_holds file known_is c is_open)

              step : (c : List ℕ) → Stepped (Torn end (open_gate ∷ [])) (may_leave mid) c → After c
              step c (inl left) = staged_reads c (there c left)
              step c (inr (d, left, torn)) =
                  by c (gate_torn front end is.end (behind file known_is) c
                  (subst (λ f. Torn end (open_gate ∷ []) f c) (there d left) torn))

          pub after_second : IfSome (seen device) (λ file. LeavesOnly moment left_since device new After)
          after_second = if_known (seen device) (λ file. LeavesOnly moment left_since device new After) second

          module _ (writes_gate : Writes (seen mid) end (open_gate ∷ []) (seen new)) (durable_new : LeavesFile (seen new) (may_leave new))
              (fresh : IsFresh (stale new)) (usable : failed new ≡ false)
              (next : List ℕ) (next_is : next ≡ digest_behind digest entry) where
            opened_is : (file : List ℕ) (known_is : seen device ≡ Some file) → seen new ≡ Some (opened file known_is)
            opened_is file known_is =
                writes_gate
                ∙ ap (λ o. option_map (λ f. take end f ++ (open_gate ∷ []) ++ drop (end + 1) f) o) (mid_is file known_is)
                ∙ ap Some (gate_done front end is.end (behind file known_is))

            of_opened : (P : List ℕ → Type 0) → ((file : List ℕ) (known_is : seen device ≡ Some file) → P (opened file known_is))
                → IfSome (seen new) P
            of_opened P all = by_old (seen device) refl
              where
                by_old : (o : Option (List ℕ)) → seen device ≡ o → IfSome (seen new) P
                by_old None none =
                    let gone : seen new ≡ None = writes_gate
                    ∙ ap (λ o. option_map (λ f. take end f ++ (open_gate ∷ []) ++ drop (end + 1) f) o) (writes
                    ∙ ap (λ o. option_map (λ f. take (end + 1) f ++ bytes ++ drop (end + 1 + length bytes) f) o) none) in
                    subst (λ o. IfSome o P) (sym gone) tt
                by_old (Some file) known_is =
                    subst (λ o. IfSome o P) (sym (opened_is file known_is)) (all file known_is)

            new_file : IfSome (seen new) (λ file. Holds is.identity (is.entries ++ entry ∷ []) file)
            new_file = of_opened (λ file. Holds is.identity (is.entries ++ entry ∷ []) file)
                (λ file known_is. opened_holds file known_is (opened file known_is) refl)

            new_end : end + length bytes ≡ length (front_of is.identity (is.entries ++ entry ∷ []))
            new_end =
                let s = seed is.identity in
                let all : chain s (is.entries ++ entry ∷ []) ++ [] ≡ chain s is.entries ++ (open_gate ∷ (record_is ++ [])) =
                chain_push s is.entries entry [] in
                omega (
                  arith,
                  is.end,
                  ap length bytes_written,
                  length-append record_is (closed_gate ∷ []),
                  ap length all,
                  length-append (chain s (is.entries ++ entry ∷ [])) [],
                  length-append (chain s is.entries) (open_gate ∷ (record_is ++ [])),
                  length-append record_is [],
                  length-append (header is.identity) (chain s is.entries),
                  length-append (header is.identity) (chain s (is.entries ++ entry ∷ [])),
                )

            opened_size : (file : List ℕ) (known_is : seen device ≡ Some file)
                → length (opened file known_is) ≡ end + length bytes + 1 + (room - length bytes)
            opened_size file known_is =
                let holds = held file known_is in
                omega (
                  arith,
                  is.end,
                  inside,
                  ap length holds.2,
                  length-append front (closed_gate ∷ holds.0),
                  known (seen device) file (λ f. length f ≡ end + 1 + room) known_is is.room,
                  length-append front (open_gate ∷ behind file known_is),
                  length-append bytes (drop (length bytes) holds.0),
                  length-drop (length bytes) holds.0,
                )

            new_room : IfSome (seen new) (λ file. length file ≡ end + length bytes + 1 + (room - length bytes))
            new_room = of_opened (λ file. length file ≡ end + length bytes + 1 + (room - length bytes)) opened_size

            pub acknowledged : IsOpen seen may_leave failed stale
                (record { device = new; end = end + length bytes; room = room - length bytes; digest = next })
                (texts ++ text ∷ [])
            acknowledged = record {
              identity = is.identity;
              entries = is.entries ++ entry ∷ [];
              is_identity = is.is_identity;
              are_entries = entries_then;
              texts_are = texts_then;
              file = new_file;
              durable = durable_new;
              fresh = fresh;
              digest = next_is ∙ ap (λ d. digest_behind d entry) is.digest ∙ sym (last_push (seed is.identity) is.entries entry);
              end = new_end;
              room = new_room;
              fits = omega (arith, inside, is.fits);
              usable = usable;
            }
