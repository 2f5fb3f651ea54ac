-- More zeros behind the closed gate: what a crash leaves at each moment, and what the journal is then.
use Rattle.std.proofs.Common.{◌≡◌, ◌⊎◌, inl, inr, ⊎_elim, ℕ, ◌+◌, ◌<◌, ◌^◌, Bool, false, List, ◌∷◌, ◌++◌, length, replicate, Option, Some, IfSome, sym, ap, subst, ◌∙◌, arith, length-append, append_assoc}
use Rattle.doc_server_journal.specs.Devices.{Grows, Grown, LeavesFile, LeavesOnly, Stepped, IsFresh, IsPastEnd, AreBehind}
use Rattle.doc_server_journal_records.specs.Records.{Entry, closed_gate, front_of}
use Rattle.doc_server_journal_records.specs.Readings.{ReadsAs}
use Rattle.doc_server_journal_records.proofs.Digits.{all_append}
use Rattle.doc_server_journal.specs.Journals.{Holds, IsOpen}
use Rattle.doc_server_journal.proofs.HoldLemmas.{reads_so}
use Rattle.doc_server_journal.proofs.Mixtures.{zeros_shut}
use Rattle.doc_server_journal.proofs.Moments.{if_known, known, if_mapped, weaker}
use Rattle.doc_server_journal.proofs.Places.{past_so}
use Rattle.doc_server_journal.proofs.WriteLemmas.{length_zeros}

-- zeros are no open gate
holds_more : (identity : List ℕ) (entries : List Entry) (n : ℕ) (file : List ℕ) → Holds identity entries file
    → Holds identity entries (file ++ replicate n 0)
holds_more identity entries n file (tail, tail_is, is) = (
  tail ++ replicate n 0,
  all_append _ tail (replicate n 0) tail_is (zeros_shut n),
  ap (λ f. f ++ replicate n 0) is ∙ append_assoc (front_of identity entries) (closed_gate ∷ tail) (replicate n 0),
)

module _ {D : Type 0} (seen : D → Option (List ℕ)) (may_leave : D → List ℕ → Type 0) (failed : D → Bool) (stale : D → ℕ
    → Type 0) (moment : D → ℕ) (left_since : D → ℕ → List ℕ → Type 0)
    (device : D) (end room : ℕ) (digest : List ℕ)
    (texts : List (List ℕ))
    (is : IsOpen seen may_leave failed stale (record { device = device; end = end; room = room; digest = digest }) texts) where
  abbrev Reads : List ℕ → Type 0
  Reads c = ReadsAs c texts

  held : (file : List ℕ) → seen device ≡ Some file → Holds is.identity is.entries file
  held file known_is = known (seen device) file (λ f. Holds is.identity is.entries f) known_is is.file

  here : (file : List ℕ) → seen device ≡ Some file → (c : List ℕ) → may_leave device c → c ≡ file
  here file known_is c left = known (seen device) file (λ f. (x : List ℕ) → may_leave device x → x ≡ f) known_is is.durable c left

  reads : (c : List ℕ) → Holds is.identity is.entries c → Reads c
  reads c holds = reads_so is.identity is.entries texts c is.is_identity is.are_entries is.texts_are holds

  resting : (file : List ℕ) → seen device ≡ Some file → (c : List ℕ) → may_leave device c → Reads c
  resting file known_is c left =
      reads c (subst (λ f. Holds is.identity is.entries f) (sym (here file known_is c left)) (held file known_is))

  module _ (new : D) where
    pub after_growth : (count : ℕ) → LeavesOnly moment left_since device new (Stepped (Grown count) (may_leave device))
        → IfSome (seen device) (λ file. LeavesOnly moment left_since device new Reads)
    after_growth count run = if_known (seen device) (λ file. LeavesOnly moment left_since device new Reads) (λ file known_is.
        weaker moment left_since device new (Stepped (Grown count) (may_leave device)) Reads run (step file known_is))
      where
        step : (file : List ℕ) → seen device ≡ Some file → (c : List ℕ) → Stepped (Grown count) (may_leave device) c → Reads c
        step file known_is c (inl left) = resting file known_is c left
        step file known_is c (inr (d, left, (n, most, grown))) =
            let was : Holds is.identity is.entries d =
            subst (λ f. Holds is.identity is.entries f) (sym (here file known_is d left)) (held file known_is) in
            reads c (subst (λ f. Holds is.identity is.entries f) (sym grown) (holds_more is.identity is.entries n d was))

    -- what a sync that failed may have lost
    pub lost_behind : ((i : ℕ) → stale new i → stale device i ⊎ IsPastEnd (seen device) i) → AreBehind (stale new) end
    lost_behind lost = λ i here.
        ⊎_elim (λ was. absurd (is.fresh i was)) (λ past. past_so (seen device) end room i is.room past) (lost i here)

    module _ (added : ℕ) (grows : Grows (seen device) added (seen new)) where
      of_grown : (P : List ℕ → Type 0) → ((file : List ℕ) → seen device ≡ Some file → P (file ++ replicate added 0))
          → IfSome (seen new) P
      of_grown P all =
          subst (λ o. IfSome o P) (sym grows) (if_mapped (λ file. file ++ replicate added 0) (seen device) P all)

      new_size : (file : List ℕ) → seen device ≡ Some file → length (file ++ replicate added 0) ≡ end + 1 + (room + added)
      new_size file known_is =
          omega (
            arith,
            known (seen device) file (λ f. length f ≡ end + 1 + room) known_is is.room,
            length-append file (replicate added 0),
            length_zeros added,
          )

      pub open_still : LeavesFile (seen new) (may_leave new) → IsFresh (stale new) → failed new ≡ false
          → end + 1 + (room + added) < 2 ^ 63
          → IsOpen seen may_leave failed stale (record { device = new; end = end; room = room + added; digest = digest }) texts
      open_still durable fresh usable fits = record {
        identity = is.identity;
        entries = is.entries;
        is_identity = is.is_identity;
        are_entries = is.are_entries;
        texts_are = is.texts_are;
        file = of_grown (λ f. Holds is.identity is.entries f)
            (λ file known_is. holds_more is.identity is.entries added file (held file known_is));
        durable = durable;
        fresh = fresh;
        digest = is.digest;
        end = is.end;
        room = of_grown (λ f. length f ≡ end + 1 + (room + added)) new_size;
        fits = fits;
        usable = usable;
      }
