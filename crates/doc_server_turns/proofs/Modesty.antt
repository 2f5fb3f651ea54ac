-- How much a connection takes of a turn.
use Rattle.std.proofs.Common.{◌≡◌, ◌≤◌, ◌<◌, ◌+◌, ◌*◌, ◌++◌, ℕ, List, [], ◌∷◌, Bool, true, false, cond, length, inl, inr, ap, arith, length-append}
use Rattle.std.specs.Prelude.{Option, Some, None, if◌then◌else◌}
use Rattle.std.proofs.lemmas.List.Sums.{sum_by-le-sum_by}
use Rattle.doc_hub.specs.Runs.{Happened, events_on, sent_by, sent_on}
use Rattle.doc_hub.specs.Worlds.{World}
use Rattle.doc_hub.specs.declared.connection.Connection.{Connection}
use Rattle.doc_hub.proofs.RunParts.{sent_of}
use Rattle.doc_hub_events.specs.declared.event.ConnectionEvent.TheVariants as calls
use Rattle.doc_hub_events.specs.declared.event.Event.{Event}
use Rattle.doc_hub_events.specs.declared.event.Event.TheVariants as events
use Rattle.doc_server_listen.specs.Costs.{Left, cost_at, cost_by, cost_in, most_cost, step_cost}
use Rattle.doc_server_turns.specs.Replies.{most_pending}
use Rattle.doc_server_turns.specs.Servings.{ServedAt}
use Rattle.doc_server_turns.specs.Sharing.{IsModest, SendsFew, SharesTurn, is_step, steps_on}
use Rattle.doc_server_turns.specs.Parts.{times_among}
use Rattle.doc_server_turns.specs.Wirings.{Peer}

-- ---- steps

at_least : (a b : Bool) → 1 ≤ (if a then 1 else (if b then 8 else 64))
at_least true b = omega arith
at_least false true = omega arith
at_least false false = omega arith

costs_one : (unread : List ℕ) → 1 ≤ step_cost unread
unfolding step_cost most_cost
costs_one unread = at_least _ _

step_costs : (o : Option Connection) → 1 ≤ cost_at o
step_costs None = omega arith
step_costs (Some k) = costs_one k.unread

abbrev counted : Bool → ℕ
counted b = cond b 1 0

each_costs : (w : World) (event : Event) → counted (is_step event) ≤ cost_by w event
each_costs w (events.On id calls.Step) = step_costs _
each_costs w event = omega arith

at_most : (a b c : ℕ) → a ≤ b → b ≤ c → a ≤ c
at_most a b c le within = omega (arith, le, within)

few_steps : (c n : ℕ) (run : List Happened) → cost_in (events_on c run) ≤ n → steps_on c run ≤ n
few_steps c n run within =
    at_most (steps_on c run) (cost_in (events_on c run)) n
    (sum_by-le-sum_by (λ (h : Happened). counted (is_step h.event)) (λ h. cost_by h.world h.event) (events_on c run)
    (λ h. each_costs h.world h.event))
    within

-- ---- bytes

pub nothing_sent : (a b c : List ℕ) → b ≡ a ++ c → length b ≤ length a → c ≡ []
nothing_sent a b [] is le = ap (λ l. []) is
nothing_sent a b (x ∷ c) is le = absurd (omega (arith, le, ap length is, length-append a (x ∷ c)))

fewer : (a b c : List ℕ) (n : ℕ) → b ≡ a ++ c → length b < n → length c < n
fewer a b c n is lt = omega (arith, lt, ap length is, length-append a c)

pub few_bytes : (k : ℕ) (w v : World) (c d : Option (List ℕ)) (ended : Type 0) (run : List Happened) (p q : Option Peer)
    → ServedAt k w v c d ended run p q → SendsFew k run
few_bytes k w v c d ended run None None s = inl (ap sent_of s.1)
few_bytes k w v c d ended run None (Some q) s = absurd s
few_bytes k w v c d ended run (Some p) None s = absurd s
few_bytes k w v c d ended run (Some p) (Some q) s =
    elim s.bound as (λ b. SendsFew k run) [
      | inl le ↦ inl (nothing_sent p.pending q.pending (sent_on k run) s.takes.pending le)
      | inr gave ↦ inr (
        gave.0,
        gave.1,
        fewer p.pending q.pending (sent_on k run) (most_pending + length (sent_by gave.0.outcome)) s.takes.pending gave.2,
      )
    ]

pub modest : (ready : List ℕ) (run : List Happened) (old new : Left) → SharesTurn ready run old new → ((c : ℕ) → SendsFew c run)
    → IsModest ready run
modest ready run old new shares bytes = record {
  steps = λ c. few_steps c (most_cost * times_among ready c) run (shares.each c);
  bytes = bytes;
}
