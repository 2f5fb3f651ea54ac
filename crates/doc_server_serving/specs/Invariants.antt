-- What holds between turns, and what serving promises.
use Rattle.std.specs.Prelude.{◌≡◌, ◌++◌, ◌<◌, ℕ, List, [], Option}
use Rattle.std.specs.FinMap as map
use Rattle.doc_hub.specs.Replies.{Renders}
use Rattle.doc_hub.specs.Runs.{Happened, sent_on}
use Rattle.doc_hub.specs.RunParts.{pushed_on}
use Rattle.doc_hub.specs.Worlds.{World}
use Rattle.doc_hub_events.specs.declared.event.Event.{Event}
use Rattle.doc_server_serving.specs.Leading.{IsOfServer}
use Rattle.doc_server_turns.specs.QuietRuns.{IsOfPeers, LeadsBy}
use Rattle.doc_server_serving.specs.declared.given.Given.{Given}
use Rattle.doc_server_turns.specs.Wirings.{AreWoken, HearsFront, IsFront, IsNew, Table, Wired}

-- the numbers that a hub hasn't given yet have had no connection
abbrev pub AreFree : ℕ → (ℕ → Type 0) → Type 0
AreFree given is_free = (k : ℕ) → given < k → is_free k

-- Each connection is wired by what was pushed and what was sent there; and on those whose numbers the hub hasn't given yet nothing has passed.
pub record AreWired (given : ℕ) (came gone : ℕ → Option (List ℕ)) (pushed sent : ℕ → List ℕ) (peers : Table) : Type 0 where
  pub wired : (k : ℕ) → Wired (came k) (gone k) (pushed k) (sent k) (map.get peers k)
  pub new : (k : ℕ) → given < k → IsNew (came k) (gone k) (pushed k) (sent k) (map.get peers k)

module _ {N R : Type 0} (page : R → Renders) (came gone : N → ℕ → Option (List ℕ)) (wakes is_free : N → ℕ → Type 0) where
  -- A run of such events leads from the hub's world before to the one behind. Whatever was pushed and sent before it, the connections stay
  -- wired by it; who rests is woken still, and numbers that weren't given are free.
  pub record GoesOnBy (own : Event → Type 0) (old new : R × World) (n m : N) (before after : Table) : Type 0 where
    pub leads : LeadsBy own (page old.0) old.1 new.1
    pub same : page new.0 ≡ page old.0
    pub wired : (pushed sent : ℕ → List ℕ) → AreWired old.1.given (came n) (gone n) pushed sent before
        → AreWired new.1.given (came m) (gone m) (λ k. pushed k ++ pushed_on k leads.run) (λ k. sent k ++ sent_on k leads.run) after
    pub woken : AreWoken (wakes n) before → AreWoken (wakes m) after
    pub free : AreFree old.1.given (is_free n) → AreFree new.1.given (is_free m)

  -- by events of peers
  abbrev pub GoesOn : R × World → R × World → N → N → Table → Table → Type 0
  GoesOn old new n m before after = GoesOnBy IsOfPeers old new n m before after

  -- or by readers and edits of a configuration that was given
  abbrev pub GoesOnWith : (Option Given → Type 0) → R × World → R × World → N → N → Table → Table → Type 0
  GoesOnWith answered old new n m before after = GoesOnBy (IsOfServer answered) old new n m before after

-- On each connection a front of what the run sent there was handed over, and nothing else; and what it pushed there is a front of what came.
abbrev pub IsServed : List Happened → (ℕ → Option (List ℕ)) → (ℕ → Option (List ℕ)) → Type 0
IsServed run came gone = (k : ℕ) → IsFront (gone k) (sent_on k run) × HearsFront (came k) (pushed_on k run)

-- nobody stands, nothing has passed on any connection, and the numbers that the hub hasn't given yet are free
pub record HasServedNobody (given : ℕ) (came gone : ℕ → Option (List ℕ)) (is_free : ℕ → Type 0) (peers : Table) : Type 0 where
  pub new : (k : ℕ) → IsNew (came k) (gone k) [] [] (map.get peers k)
  pub free : AreFree given is_free
