-- Turns, and what is given between them.
use Rattle.std.proofs.Common.{◌≡◌, ℕ, List}
use Rattle.std.specs.Prelude.{Option}
use Rattle.doc_hub.specs.Replies.{Renders}
use Rattle.doc_hub.specs.Worlds.{World}
use Rattle.doc_server_serving.specs.Invariants.{GoesOn, GoesOnWith}
use Rattle.doc_server_serving.specs.Leading.{IsOfServer, StayAnswered}
use Rattle.doc_server_turns.specs.QuietRuns.{IsOfPeers, LeadsQuietly}
use Rattle.doc_server_turns.specs.Wirings.{Table}
use Rattle.doc_server_serving.specs.declared.given.Given.{Given}
use Rattle.doc_server_serving.proofs.Accepting.{goes_silently}
use Rattle.doc_server_serving.proofs.Going.{goes_on, goes_wider}
use Rattle.doc_server_serving.proofs.Leading.{given_serve, peers_serve}

module _ {N R : Type 0} (page : R → Renders) (came gone : N → ℕ → Option (List ℕ)) (wakes is_free : N → ℕ → Type 0) where
  -- the room is looked for
  abbrev pub begun : (answered : Option Given → Type 0) (old new : R × World) (n : N) (t : Table) → page new.0 ≡ page old.0
      → LeadsQuietly (page old.0) old.1 new.1 → GoesOnWith page came gone wakes is_free answered old new n n t t
  begun answered old new n t same quiet =
      goes_wider page came gone wakes is_free IsOfPeers (IsOfServer answered) old new n n t t (peers_serve answered)
      (goes_silently page came gone wakes is_free old new n t same quiet)

  -- one part behind the other, with what was given until then
  abbrev pub goes_further : (before behind : Option Given → Type 0) → StayAnswered before behind → (old mid new : R × World) (n m o : N)
      (t u v : Table) → GoesOnWith page came gone wakes is_free before old mid n m t u
      → GoesOnWith page came gone wakes is_free behind mid new m o u v → GoesOnWith page came gone wakes is_free behind old new n o t v
  goes_further before behind stay old mid new n m o t u v a b =
      goes_on page came gone wakes is_free (IsOfServer behind) old mid new n m o t u v
      (goes_wider page came gone wakes is_free (IsOfServer before) (IsOfServer behind) old mid n m t u (given_serve before behind stay) a) b

  -- a turn behind which nothing is given
  abbrev pub turned : (answered : Option Given → Type 0) (old new : R × World) (n m : N) (t u : Table) → GoesOn page came gone wakes is_free old new n m t u
      → GoesOnWith page came gone wakes is_free answered old new n m t u
  turned answered old new n m t u a =
      goes_wider page came gone wakes is_free IsOfPeers (IsOfServer answered) old new n m t u (peers_serve answered) a
