-- How a turn begins.
use Rattle.std.proofs.Common.{◌≡◌, ℕ, List}
use Rattle.std.specs.Prelude.{Option}
use Rattle.doc_hub.specs.Replies.{Renders}
use Rattle.doc_hub.specs.Worlds.{World}
use Rattle.doc_server_network.specs.Networks.{Rests, Stays}
use Rattle.doc_server_serving.specs.Invariants.{GoesOn}
use Rattle.doc_server_turns.specs.QuietRuns.{LeadsQuietly}
use Rattle.doc_server_turns.specs.Wirings.{AreWoken, Gives, Table}
use Rattle.doc_server_serving.proofs.Accepting.{goes_silently}
use Rattle.doc_server_serving.proofs.Going.{goes_join, goes_nowhere, goes_told}
use Rattle.doc_server_turns.proofs.Tables.{woken_same}

module _ {N R : Type 0} (page : R → Renders) (came gone : N → ℕ → Option (List ℕ)) (wakes is_free : N → ℕ → Type 0) where
  -- the network is waited for
  pub goes_waited : (old : R × World) (n m : N) (t : Table) → Stays (wakes n) (wakes m) → Stays (is_free n) (is_free m)
      → Rests (came n) (came m) → Rests (gone n) (gone m) → GoesOn page came gone wakes is_free old old n m t t
  goes_waited old n m t wakes_still free comes goes =
      goes_nowhere page came gone wakes is_free old n m t wakes_still free comes goes (woken_same (wakes n) (wakes m) t wakes_still)

  -- and it is looked for the journal
  pub goes_looked : (old new : R × World) (n m : N) (t : Table) → Stays (wakes n) (wakes m) → Stays (is_free n) (is_free m)
      → Rests (came n) (came m) → Rests (gone n) (gone m) → page new.0 ≡ page old.0 → LeadsQuietly (page old.0) old.1 new.1
      → GoesOn page came gone wakes is_free old new n m t t
  goes_looked old new n m t wakes_still free comes goes same quiet =
      goes_join page came gone wakes is_free old old new n m m t t t (goes_waited old n m t wakes_still free comes goes)
      (goes_silently page came gone wakes is_free old new m t same quiet)

  -- and clients are told of
  pub goes_begun : (old new : R × World) (n m o : N) (t u : Table) → Stays (wakes n) (wakes m) → Stays (is_free n) (is_free m)
      → Rests (came n) (came m) → Rests (gone n) (gone m) → page new.0 ≡ page old.0 → LeadsQuietly (page old.0) old.1 new.1
      → (ended : ℕ → Type 0) → Gives (gone m) (gone o) ended t u → Rests (came m) (came o) → Rests (gone m) (gone o)
      → (AreWoken (wakes m) t → AreWoken (wakes o) u) → Stays (is_free m) (is_free o) → GoesOn page came gone wakes is_free old new n o t u
  goes_begun old new n m o t u wakes_still free comes goes same quiet ended gives told_comes told_goes woken told_free =
      goes_join page came gone wakes is_free old new new n m o t t u (goes_looked old new n m t wakes_still free comes goes same quiet)
      (goes_told page came gone wakes is_free new m o t u ended gives told_comes told_goes woken told_free)
