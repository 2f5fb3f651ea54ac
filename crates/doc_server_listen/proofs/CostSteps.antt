-- What runs cost, run after run.
use Rattle.std.proofs.Common.{◌≡◌, ◌≤◌, ℕ, ◌+◌, List, [], ◌∷◌, ◌++◌, refl, ap, arith}
use Rattle.std.proofs.lemmas.List.Sums.{sum_by-append, sum_by-cons}
use Rattle.doc_hub_events.specs.Events.{disconnect_on, step_on}
use Rattle.doc_hub.specs.Runs.{Happened}
use Rattle.doc_hub.specs.Worlds.{World}
use Rattle.doc_hub_events.specs.declared.event.ConnId.{ConnId}
use Rattle.doc_hub_events.specs.declared.event.Event.{Event}
use Rattle.doc_hub_events.specs.declared.event.ConnectionEvent.TheVariants as calls
use Rattle.doc_hub_events.specs.declared.event.Event.TheVariants as events
use Rattle.doc_hub_events.specs.declared.outcome.Outcome.TheVariants as outcomes
use Rattle.doc_server_listen.specs.Costs.{CostsAtMost, IsWithin, Left, Takes, cost_by, cost_in, dear, dear_in, next_cost}
use Rattle.doc_server_listen.specs.Edits.{IsQuiet, AreQuiet}

-- ---- two runs

cost_join : (xs ys : List Happened) → cost_in (xs ++ ys) ≡ cost_in xs + cost_in ys
cost_join xs ys = sum_by-append (λ h. cost_by h.world h.event) xs ys

dear_join : (xs ys : List Happened) → dear_in (xs ++ ys) ≡ dear_in xs + dear_in ys
dear_join xs ys = sum_by-append (λ h. dear (cost_by h.world h.event)) xs ys

together : (a b c m n k : ℕ) → k ≡ m + n → m + b ≤ a → n + c ≤ b → k + c ≤ a
together a b c m n k is one two = omega (arith, is, one, two)

pub within_none : (a : Left) → IsWithin [] a a
within_none a = (omega arith, omega arith)

pub within_join : (xs ys : List Happened) (a b c : Left) → IsWithin xs a b → IsWithin ys b c → IsWithin (xs ++ ys) a c
within_join xs ys a b c one two = (
  together a.own b.own c.own (cost_in xs) (cost_in ys) (cost_in (xs ++ ys)) (cost_join xs ys) one.0 two.0,
  together a.dear b.dear c.dear (dear_in xs) (dear_in ys) (dear_in (xs ++ ys)) (dear_join xs ys) one.1 two.1,
)

-- ---- runs without steps

quiet_event : (w : World) (event : Event) → IsQuiet event → cost_by w event ≡ 0
quiet_event w (events.On id (calls.Push bytes)) q = refl
quiet_event w (events.On id calls.Disconnect) q = refl
quiet_event w (events.On id calls.Step) q = absurd q
quiet_event w event q = absurd q

no_sum : (s a b : ℕ) → s ≡ a + b → a ≡ 0 → b ≡ 0 → s ≡ 0
no_sum s a b sums none also = omega (arith, sums, none, also)

quiet_cost : (run : List Happened) → AreQuiet run → cost_in run ≡ 0
quiet_cost [] q = refl
quiet_cost (h ∷ run) q =
    no_sum (cost_in (h ∷ run)) (cost_by h.world h.event) (cost_in run) (sum_by-cons (λ x. cost_by x.world x.event) h run)
    (quiet_event h.world h.event q.0) (quiet_cost run q.1)

quiet_dear : (run : List Happened) → AreQuiet run → dear_in run ≡ 0
quiet_dear [] q = refl
quiet_dear (h ∷ run) q =
    no_sum (dear_in (h ∷ run)) (dear (cost_by h.world h.event)) (dear_in run) (sum_by-cons (λ x. dear (cost_by x.world x.event)) h run)
    (ap dear (quiet_event h.world h.event q.0)) (quiet_dear run q.1)

none_taken : (n a : ℕ) → n ≡ 0 → n + a ≤ a
none_taken n a is = omega (arith, is)

pub within_quiet : (run : List Happened) (a : Left) → AreQuiet run → IsWithin run a a
within_quiet run a q =
    (none_taken (cost_in run) a.own (quiet_cost run q), none_taken (dear_in run) a.dear (quiet_dear run q))

-- ---- a step

pub costs_none : (cost : ℕ) → CostsAtMost [] cost
costs_none cost = (omega arith, omega arith)

pub costs_step : (w : World) (id : ConnId)
    → CostsAtMost (record { world = w; event = step_on id; outcome = outcomes.Pushed } ∷ []) (next_cost w id.0)
costs_step w id = (omega arith, omega arith)

-- and the connection is dropped
pub costs_last : (w v : World) (id other : ConnId)
    → CostsAtMost (record { world = w; event = step_on id; outcome = outcomes.Pushed }
    ∷ record { world = v; event = disconnect_on other; outcome = outcomes.Pushed } ∷ []) (next_cost w id.0)
costs_last w v id other = (omega arith, omega arith)

less : (n own left cost : ℕ) → n ≤ cost → left + cost ≡ own → n + left ≤ own
less n own left cost le is = omega (arith, le, is)

pub within_step : (run : List Happened) (cost : ℕ) (a b : Left) → CostsAtMost run cost → Takes a b cost → IsWithin run a b
within_step run cost a b costs takes = (
  less (cost_in run) a.own b.own cost costs.0 takes.0,
  less (dear_in run) a.dear b.dear (dear cost) costs.1 takes.1,
)
