-- Peers that are accepted, and those that aren't.
use Rattle.std.proofs.Common.{◌≡◌, ◌==◌, ◌<◌, ◌+◌, ℕ, List, [], Bool, true, false, cond, refl, sym, ap, subst, ◌∙◌, arith}
use Rattle.std.specs.Prelude.{Option, Some, None, Result, Ok, Err, nat_le, nat_lt}
use Rattle.std.specs.FinMap as map
use Rattle.std.proofs.lemmas.Bool.{eqb-true}
use Rattle.std.proofs.lemmas.List.Elements.{All-nil}
use Rattle.doc_hub.specs.Replies.{Renders}
use Rattle.doc_hub_events.specs.Events.{Said, disconnect_on, outcome_of}
use Rattle.doc_hub_events.specs.declared.event.ConnId.{ConnId}
use Rattle.doc_hub_events.specs.declared.event.Event.{Event}
use Rattle.doc_hub_events.specs.declared.event.Event.TheVariants as events
use Rattle.doc_hub_events.specs.declared.refusal.ConnectError.{ConnectError}
use Rattle.doc_hub.specs.Runs.{Happens, nothing, sent_by, sent_on}
use Rattle.doc_hub.specs.RunParts.{pushed_by, pushed_on}
use Rattle.doc_hub.specs.Worlds.{World, last_id}
use Rattle.doc_server_network.specs.Networks.{Rests, StaysBut}
use Rattle.doc_server_journal.specs.declared.journal.Journal.{Journal}
use Rattle.doc_server_network.specs.Saved.{TakesByRoom}
use Rattle.doc_server_settling.specs.Reserves.{reserve}
use Rattle.doc_server_serving.specs.Invariants.{AreFree, GoesOn}
use Rattle.doc_server_turns.specs.QuietRuns.{IsOfPeers, LeadsQuietly, LeadsQuietlyBy}
use Rattle.doc_server_turns.specs.Wirings.{AreWoken, IsNew, Peer, Table, Wired, WokenAt, new_peer}
use Rattle.doc_server_turns.proofs.Sites.{connected_if}
use Rattle.doc_server_serving.proofs.Going.{goes_quietly, new_on}
use Rattle.doc_server_serving.proofs.Leading.{leads_nowhere}
use Rattle.doc_server_turns.proofs.LeavingSteps.{get_gone, wired_on}
use Rattle.doc_server_turns.proofs.QuietRuns.{quiet_by_one}
use Rattle.doc_server_turns.proofs.Tables.{apart, get_other, get_same, later}
use Rattle.doc_server_turns.proofs.TurnSteps.{wired_same}
use Rattle.doc_server_turns.proofs.Wiring.{wired_new, wired_out}

-- ---- quiet runs

pub quiet_none : (render : Renders) (w v : World) → v ≡ w → LeadsQuietly render w v
quiet_none render w v is =
    subst (LeadsQuietly render w) (sym is)
    (record { leads = leads_nowhere render w; pushes = λ k. refl; sends = λ k. refl })

pub quiet_nowhere : (own : Event → Type 0) (render : Renders) (w : World) → LeadsQuietlyBy own render w w
quiet_nowhere own render w = record {
  leads = record { run = []; runs = nothing w; own = All-nil (λ h. own h.event) };
  pushes = λ k. refl;
  sends = λ k. refl;
}

quiet_by : (render : Renders) (w v : World) (event : Event) (said : Said event) → IsOfPeers event → Happens render w event v said
    → pushed_by event (outcome_of event said) ≡ [] → sent_by (outcome_of event said) ≡ [] → LeadsQuietly render w v
quiet_by render w v event said own happens pushes sends = quiet_by_one IsOfPeers render w v event said own happens pushes sends

pub quiet_taking : {D : Type 0} (render : Renders) (o : Option (Journal D)) (w v : World) → TakesByRoom render o w v
    → LeadsQuietly render w v
quiet_taking render None w v is = quiet_none render w v is
quiet_taking render (Some journal) w v is = quiet_by render w v (events.TakePuts (nat_le reserve journal.room)) tt tt is refl refl

pub quiet_connect : (render : Renders) (w v : World) (said : Result ConnId ConnectError) → Happens render w events.Connect v said
    → LeadsQuietly render w v
quiet_connect render w v (Ok id) happens = quiet_by render w v events.Connect (Ok id) tt happens refl refl
quiet_connect render w v (Err e) happens = quiet_by render w v events.Connect (Err e) tt happens refl refl

pub quiet_drop : (render : Renders) (w v : World) (id : ConnId) (said : Bool) → Happens render w (disconnect_on id) v said
    → LeadsQuietly render w v
quiet_drop render w v id said happens = quiet_by render w v (disconnect_on id) said tt happens refl refl

-- ---- the number of a connection that was just made

abbrev number_in : Result ConnId ConnectError → ℕ
number_in (Ok id) = id.0
number_in (Err e) = 0

abbrev is_refused : Result ConnId ConnectError → Bool
is_refused (Ok id) = false
is_refused (Err e) = true

yes_no : true ≡ false → ⊥
yes_no e = cc

numbered : (w v : World) (id : ConnId) (t : Bool) → ◌≡◌ {A = World × Result ConnId ConnectError} (connected_if w t) (v, Ok id)
    → (id.0 ≡ w.given + 1) × (v.given ≡ w.given + 1)
numbered w v id true is = (
  sym (ap (λ (q : World × Result ConnId ConnectError). number_in q.1) is),
  sym (ap (λ (q : World × Result ConnId ConnectError). q.0.given) is),
)
numbered w v id false is = absurd (yes_no (ap (λ (q : World × Result ConnId ConnectError). is_refused q.1) is))

pub number_made : (render : Renders) (w v : World) (id : ConnId) → Happens render w events.Connect v (Ok id)
    → (id.0 ≡ w.given + 1) × (v.given ≡ w.given + 1)
number_made render w v id happens = numbered w v id (nat_lt w.given last_id) happens

number_is_new : (a n : ℕ) → n ≡ a + 1 → a < n
number_is_new a n is = omega (arith, is)

pub free_number : (render : Renders) (w v : World) (id : ConnId) (is_free : ℕ → Type 0) → Happens render w events.Connect v (Ok id)
    → AreFree w.given is_free → is_free id.0
free_number render w v id is_free happens free = free id.0 (number_is_new w.given id.0 ((number_made render w v id happens).0))

past : (a b n k : ℕ) → n ≡ a + 1 → b ≡ a + 1 → b < k → (k ≡ n → ⊥) × (a < k)
past a b n k is also lt = (λ e. omega (arith, is, also, lt, e), omega (arith, is, also, lt))

module _ {N R : Type 0} (page : R → Renders) (came gone : N → ℕ → Option (List ℕ)) (wakes is_free : N → ℕ → Type 0) where
  -- nothing is done but what is told to nobody
  abbrev pub goes_silently : (old new : R × World) (n : N) (t : Table) → page new.0 ≡ page old.0 → LeadsQuietly (page old.0) old.1 new.1
      → GoesOn page came gone wakes is_free old new n n t t
  goes_silently old new n t same quiet =
      goes_quietly page came gone wakes is_free old new n n t t same (λ w. w) (λ k f. f) quiet.leads quiet.pushes quiet.sends (λ k. refl)
      (λ k. refl) (λ k pushed sent w. w) (λ k none. none)

  -- ---- a peer is accepted

  module _ (old new : R × World) (n m : N) (id : ConnId) (t u : Table) (same : page new.0 ≡ page old.0)
      (connects : Happens (page old.0) old.1 events.Connect new.1 (Ok id)) (is : u ≡ map.insert t id.0 new_peer)
      (comes : Rests (came n) (came m)) (goes : Rests (gone n) (gone m)) (others : StaysBut id.0 (wakes n) (wakes m))
      (arms : wakes m id.0) (free : StaysBut id.0 (is_free n) (is_free m)) where
    made : (id.0 ≡ old.1.given + 1) × (new.1.given ≡ old.1.given + 1)
    made = number_made (page old.0) old.1 new.1 id connects

    quiet : LeadsQuietly (page old.0) old.1 new.1
    quiet = quiet_connect (page old.0) old.1 new.1 (Ok id) connects

    here : (k : ℕ) → (k == id.0) ≡ true → map.get u k ≡ Some new_peer
    here k e = ap (λ m. map.get m k) is ∙ get_same t id.0 new_peer k e

    there : (k : ℕ) → (k == id.0) ≡ false → map.get u k ≡ map.get t k
    there k e = ap (λ m. map.get m k) is ∙ get_other t id.0 new_peer k e

    wired_in : (k : ℕ) (pushed sent : List ℕ) (b : Bool) → (k == id.0) ≡ b
        → (old.1.given < k → IsNew (came n k) (gone n k) pushed sent (map.get t k))
        → Wired (came n k) (gone n k) pushed sent (map.get t k) → Wired (came n k) (gone n k) pushed sent (map.get u k)
    wired_in k pushed sent true e new w =
        let lt = number_is_new old.1.given k (eqb-true k id.0 e ∙ made.0) in
        subst (λ (x : Option Peer). Wired (came n k) (gone n k) pushed sent x) (sym (here k e))
        (wired_new (came n k) (gone n k) pushed sent (map.get t k) (new lt))
    wired_in k pushed sent false e new w =
        subst (λ (x : Option Peer). Wired (came n k) (gone n k) pushed sent x) (sym (there k e)) w

    none_in : (k : ℕ) (b : Bool) → (k == id.0) ≡ b → (k ≡ id.0 → ⊥) → map.get t k ≡ None → map.get u k ≡ None
    none_in k true e off none = absurd (off (eqb-true k id.0 e))
    none_in k false e off none = there k e ∙ none

    woken_in : AreWoken (wakes n) t → (k : ℕ) (b : Bool) → (k == id.0) ≡ b → WokenAt (wakes m k) (map.get u k)
    woken_in w k true e =
        subst (λ (x : Option Peer). WokenAt (wakes m k) x) (sym (here k e)) (λ r. subst (wakes m) (sym (eqb-true k id.0 e)) arms)
    woken_in w k false e =
        subst (λ (x : Option Peer). WokenAt (wakes m k) x) (sym (there k e))
        (later (wakes n k) (wakes m k) (map.get t k) (others k (apart k id.0 e)) (w k))

    pub goes_in : GoesOn page came gone wakes is_free old new n m t u
    goes_in = record {
      leads = quiet.leads;
      same = same;
      wired = λ pushed sent are. record {
        wired = λ k.
            wired_on (came m k) (gone m k) (pushed k) (sent k) (pushed_on k quiet.leads.run) (sent_on k quiet.leads.run) (map.get u k)
            (quiet.pushes k) (quiet.sends k)
            (wired_same (came n k) (came m k) (gone n k) (gone m k) (pushed k) (sent k) (map.get u k) (comes k) (goes k)
            (wired_in k (pushed k) (sent k) (k == id.0) refl (are.new k) (are.wired k)));
        new = λ k lt.
            let off = past old.1.given new.1.given id.0 k made.0 made.1 lt in
            let was = are.new k off.1 in
            new_on (came n k) (came m k) (gone n k) (gone m k) (pushed k) (sent k) (pushed_on k quiet.leads.run)
            (sent_on k quiet.leads.run) (map.get t k) (map.get u k) (comes k) (goes k) (quiet.pushes k) (quiet.sends k)
            (none_in k (k == id.0) refl off.0 was.none) was;
      };
      woken = λ w k. woken_in w k (k == id.0) refl;
      free = λ f k lt.
          let off = past old.1.given new.1.given id.0 k made.0 made.1 lt in free k off.0 (f k off.1);
    }

  -- ---- nobody is

  module _ (old new : R × World) (n m : N) (id : ConnId) (t u v : Table) (same : page new.0 ≡ page old.0) (dropped : Bool)
      (drops : Happens (page old.0) old.1 (disconnect_on id) new.1 dropped) (is : u ≡ map.insert t id.0 new_peer)
      (gone_again : v ≡ map.remove u id.0) (comes : Rests (came n) (came m)) (goes : Rests (gone n) (gone m))
      (others : StaysBut id.0 (wakes n) (wakes m)) (free : StaysBut id.0 (is_free n) (is_free m)) (refused : is_free m id.0) where
    left : LeadsQuietly (page old.0) old.1 new.1
    left = quiet_drop (page old.0) old.1 new.1 id dropped drops

    out : (k : ℕ) → (k == id.0) ≡ true → map.get v k ≡ None
    out k e = ap (λ m. map.get m k) gone_again ∙ get_gone u id.0 k ∙ ap (λ b. cond b None (map.get u k)) e

    still : (k : ℕ) → (k == id.0) ≡ false → map.get v k ≡ map.get t k
    still k e =
        ap (λ m. map.get m k) gone_again ∙ get_gone u id.0 k ∙ ap (λ b. cond b None (map.get u k)) e
        ∙ ap (λ m. map.get m k) is ∙ get_other t id.0 new_peer k e

    wired_not_in : (k : ℕ) (pushed sent : List ℕ) (b : Bool) → (k == id.0) ≡ b → Wired (came n k) (gone n k) pushed sent (map.get t k)
        → Wired (came n k) (gone n k) pushed sent (map.get v k)
    wired_not_in k pushed sent true e w =
        subst (λ (x : Option Peer). Wired (came n k) (gone n k) pushed sent x) (sym (out k e))
        (wired_out (came n k) (gone n k) pushed sent (map.get t k) w)
    wired_not_in k pushed sent false e w =
        subst (λ (x : Option Peer). Wired (came n k) (gone n k) pushed sent x) (sym (still k e)) w

    none_still : (k : ℕ) (b : Bool) → (k == id.0) ≡ b → map.get t k ≡ None → map.get v k ≡ None
    none_still k true e none = out k e
    none_still k false e none = still k e ∙ none

    woken_still : AreWoken (wakes n) t → (k : ℕ) (b : Bool) → (k == id.0) ≡ b → WokenAt (wakes m k) (map.get v k)
    woken_still w k true e = subst (λ (x : Option Peer). WokenAt (wakes m k) x) (sym (out k e)) tt
    woken_still w k false e =
        subst (λ (x : Option Peer). WokenAt (wakes m k) x) (sym (still k e))
        (later (wakes n k) (wakes m k) (map.get t k) (others k (apart k id.0 e)) (w k))

    free_still : (k : ℕ) (b : Bool) → (k == id.0) ≡ b → is_free n k → is_free m k
    free_still k true e f = subst (is_free m) (sym (eqb-true k id.0 e)) refused
    free_still k false e f = free k (apart k id.0 e) f

    pub goes_not_in : GoesOn page came gone wakes is_free old new n m t v
    goes_not_in =
        goes_quietly page came gone wakes is_free old new n m t v same (λ w k. woken_still w k (k == id.0) refl)
        (λ k f. free_still k (k == id.0) refl f) left.leads left.pushes left.sends comes goes
        (λ k pushed sent w.
        wired_same (came n k) (came m k) (gone n k) (gone m k) pushed sent (map.get v k) (comes k) (goes k)
        (wired_not_in k pushed sent (k == id.0) refl w))
        (λ k none. none_still k (k == id.0) refl none)
