-- What a crash leaves, step by step.
use Rattle.std.proofs.Common.{inl, inr, ℕ, List, ◌∷◌, [], ◌++◌}
use Rattle.std.specs.Prelude.{Bool, Option, Some, None, IfSome}
use Rattle.doc_hub.specs.Worlds.{World}
use Rattle.doc_server_journal.specs.Devices.{LeavesOnly}
use Rattle.doc_server_journal.specs.Journals.{IsBeforeOrAfter}
use Rattle.doc_server_journal.specs.declared.journal.Journal.{Journal}
use Rattle.doc_server_journal_records.specs.Readings.{ReadsAs}
use Rattle.doc_server_reload.specs.KeptTurns.{IsRestored}
use Rattle.doc_store.specs.Store.{StoreState}
use Rattle.doc_server_network.specs.Crashes.{LeavesFiles, Restores, RestoresEither}

if_some : {X : Type 0} (o : Option X) (P Q : X → Type 0) → ((x : X) → P x → Q x) → IfSome o P → IfSome o Q
if_some None P Q each is = tt
if_some (Some x) P Q each is = each x is

module _ {D : Type 0} (seen : D → Option (List ℕ)) (may_leave : D → List ℕ → Type 0) (failed : D → Bool) (stale : D → ℕ → Type 0)
    (moment : D → ℕ) (left_since : D → ℕ → List ℕ → Type 0) where
  weaker : (P Q : List ℕ → Type 0) (old new : D) → ((c : List ℕ) → P c → Q c) → LeavesOnly moment left_since old new P
      → LeavesOnly moment left_since old new Q
  weaker P Q old new each is = record {
    later = is.later;
    each = λ c left. each c (is.each c left);
    before = λ t c le left. elim (is.before t c le left) [ inl was ↦ inl was | inr p ↦ inr (each c p) ];
  }

  -- the file reads as these texts, or as these and one more
  pub either : (config : StoreState) (begin w : World) (texts : List (List ℕ)) (text : List ℕ) → IsRestored config texts begin
      → IsRestored config (texts ++ text ∷ []) w → (c : List ℕ) → IsBeforeOrAfter texts text c → RestoresEither config begin w c
  either config begin w texts text before after c (inl reads) = inl (record { texts = texts; reads = reads; gives = before })
  either config begin w texts text before after c (inr reads) =
      inr (record { texts = texts ++ text ∷ []; reads = reads; gives = after })

  pub leaves_either : (config : StoreState) (begin w : World) (texts : List (List ℕ)) (text : List ℕ) (old new : Journal D)
      → IsRestored config texts begin → IsRestored config (texts ++ text ∷ []) w
      → IfSome (seen old.device) (λ file. LeavesOnly moment left_since old.device new.device (IsBeforeOrAfter texts text))
      → LeavesFiles seen moment left_since (RestoresEither config begin w) old new
  leaves_either config begin w texts text old new before after =
      if_some (seen old.device) (λ file. LeavesOnly moment left_since old.device new.device (IsBeforeOrAfter texts text))
      (λ file. LeavesOnly moment left_since old.device new.device (RestoresEither config begin w))
      (λ file. weaker (IsBeforeOrAfter texts text) (RestoresEither config begin w) old.device new.device
      (either config begin w texts text before after))

  pub leaves_begin : (config : StoreState) (begin : World) (texts : List (List ℕ)) (old new : Journal D) → IsRestored config texts begin
      → IfSome (seen old.device) (λ file. LeavesOnly moment left_since old.device new.device (λ c. ReadsAs c texts))
      → LeavesFiles seen moment left_since (Restores config begin) old new
  leaves_begin config begin texts old new before =
      if_some (seen old.device) (λ file. LeavesOnly moment left_since old.device new.device (λ c. ReadsAs c texts))
      (λ file. LeavesOnly moment left_since old.device new.device (Restores config begin))
      (λ file. weaker (λ c. ReadsAs c texts) (Restores config begin) old.device new.device
      (λ c reads. record { texts = texts; reads = reads; gives = before }))
