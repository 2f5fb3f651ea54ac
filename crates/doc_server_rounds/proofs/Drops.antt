-- Connections that are dropped one after another.
use Rattle.std.proofs.Common.{◌≡◌, ℕ, suc, List, [], ◌∷◌, Bool, true, false, cond, refl, ap, ◌∙◌, ◌==◌, inr, arith}
use Rattle.std.specs.Prelude.{◌||◌, All, Contains, Option, None}
use Rattle.std.specs.FinMap as map
use Rattle.std.specs.Cmp.{unsigned_tied}
use Rattle.std.proofs.lemmas.Cmp.{nat_cmp_total}
use Rattle.std.proofs.lemmas.List.Elements.{All-nil, All-cons}
use Rattle.doc_hub.specs.Replies.{Renders}
use Rattle.doc_hub.specs.Runs.{Happened, Runs, nothing, first}
use Rattle.doc_hub.specs.StepLaws.{connection}
use Rattle.doc_hub.specs.Worlds.{World, disconnected}
use Rattle.doc_hub.specs.declared.connection.Connection.{Connection}
use Rattle.doc_hub_events.specs.Events.{disconnect_on}
use Rattle.doc_hub_events.specs.declared.outcome.Outcome.TheVariants as outcomes
use Rattle.doc_server_rounds.specs.Dropped.{dropped_all, is_among}
use Rattle.doc_server_rounds.specs.Servings.{IsOwn}

either : (a b : Bool) (k : Option Connection) → cond b None (cond a None k) ≡ cond (a || b) None k
either true true k = refl
either true false k = refl
either false b k = refl

-- each connection after it
pub connection_after : (c : ℕ) (w : World) (ns : List ℕ) → connection c (dropped_all w ns) ≡ cond (is_among c ns) None (connection c w)
connection_after c w [] = refl
connection_after c w (n ∷ ns) =
    connection_after c (disconnected w n).0 ns
    ∙ ap (cond (is_among c ns) None) (map.get-remove nat_cmp_total w.connections n c
    ∙ ap (λ t. cond t None (connection c w)) (unsigned_tied c n))
    ∙ either (c == n) (is_among c ns) (connection c w)

pub given_after : (w : World) (ns : List ℕ) → (dropped_all w ns).given ≡ w.given
given_after w [] = refl
given_after w (n ∷ ns) = given_after (disconnected w n).0 ns

pub rest_after : (w : World) (ns : List ℕ) → dropped_all w ns ≡ record w { connections = (dropped_all w ns).connections }
rest_after w [] = refl
rest_after w (n ∷ ns) = rest_after (disconnected w n).0 ns

-- ---- the run of it

abbrev drop_of : World → ℕ → Happened
drop_of w n = record {
  world = w;
  event = disconnect_on (record { 0 = n });
  outcome = outcomes.Disconnected (disconnected w n).1;
}

abbrev pub drops_of : World → List ℕ → List Happened
drops_of w [] = []
drops_of w (n ∷ ns) = drop_of w n ∷ drops_of (disconnected w n).0 ns

pub drops_run : (render : Renders) (w : World) (ns : List ℕ) → Runs render w (drops_of w ns) (dropped_all w ns)
drops_run render w [] = nothing w
drops_run render w (n ∷ ns) =
    let v = (disconnected w n).0 in
    first w v (dropped_all v ns) (disconnect_on (record { 0 = n })) (outcomes.Disconnected (disconnected w n).1) (drops_of v ns)
    ((disconnected w n).1, refl, refl) (drops_run render v ns)

drops_own_in : (ids : List ℕ) (w : World) (ns : List ℕ) → ((n : ℕ) → Contains ns n → Contains ids n) → All (IsOwn ids) (drops_of w ns)
drops_own_in ids w [] within = All-nil (IsOwn ids)
drops_own_in ids w (n ∷ ns) within =
    All-cons (IsOwn ids) (drop_of w n) (drops_of (disconnected w n).0 ns) (inr (n, refl, within n (0, omega arith, refl)))
    (drops_own_in ids (disconnected w n).0 ns (λ m e. within m (suc e.0, omega (arith, e.1), e.2)))

pub drops_own : (w : World) (ns : List ℕ) → All (IsOwn ns) (drops_of w ns)
drops_own w ns = drops_own_in ns w ns (λ n e. e)
