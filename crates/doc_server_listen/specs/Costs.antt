-- What steps cost of a turn, and how a turn is shared by its connections.
use Rattle.std.specs.Prelude.{◌≡◌, ◌≤◌, ℕ, ◌+◌, ◌==◌, List, [], ◌∷◌, Bool, ◌||◌, not, nat_eq, nat_le, codes, Option, Some, None, sum_by}
use Rattle.std.specs.Prelude.{if◌then◌else◌}
use Rattle.std.specs.List.{list_any, starts_with}
use Rattle.doc_hub.specs.Runs.{Happened}
use Rattle.doc_hub.specs.StepLaws.{connection}
use Rattle.doc_hub.specs.Worlds.{World}
use Rattle.doc_hub.specs.declared.connection.Connection.{Connection}
use Rattle.doc_hub_events.specs.declared.event.Event.{Event}
use Rattle.doc_hub_events.specs.declared.event.ConnectionEvent.TheVariants as calls
use Rattle.doc_hub_events.specs.declared.event.Event.TheVariants as events

-- ---- what a step costs; all of it is this project's choice

-- how requests begin for a page, for the style sheet and for the site's front, which is a redirection; and how edits do
abbrev pub page_fronts : List (List ℕ)
page_fronts = codes "GET /page/" ∷ codes "HEAD /page/" ∷ codes "GET /style.css" ∷ codes "GET / " ∷ []

abbrev pub edit_fronts : List (List ℕ)
edit_fronts = codes "PUT " ∷ codes "DELETE " ∷ codes "POST " ∷ []

abbrev pub begins_with_any : List ℕ → List (List ℕ) → Bool
begins_with_any bytes fronts = list_any (λ front. starts_with nat_eq bytes front) fronts

-- what one connection may take of a turn, and what all may take of it for more than pages
unfoldable pub most_cost : ℕ
most_cost = 64

-- what the next step costs, by the bytes that it meets: a page one, and so does a request whose first line isn't whole; an edit eight;
-- lists, searches and whatever else all that a connection has
unfoldable pub step_cost : List ℕ → ℕ
step_cost unread =
    if begins_with_any unread page_fronts || not (list_any (λ byte. byte == 10) unread) then 1
    else (if begins_with_any unread edit_fronts then 8 else most_cost)

abbrev pub cost_at : Option Connection → ℕ
cost_at None = 1
cost_at (Some k) = step_cost k.unread

abbrev pub next_cost : World → ℕ → ℕ
next_cost w c = cost_at (connection c w)

-- ---- what a run costs

abbrev pub cost_by : World → Event → ℕ
cost_by w (events.On id calls.Step) = next_cost w id.0
cost_by w event = 0

abbrev pub cost_in : List Happened → ℕ
cost_in run = sum_by (λ h. cost_by h.world h.event) run

-- what costs more than a page
abbrev pub dear : ℕ → ℕ
dear cost = if nat_le cost 1 then 0 else cost

abbrev pub dear_in : List Happened → ℕ
dear_in run = sum_by (λ h. dear (cost_by h.world h.event)) run

abbrev pub CostsAtMost : List Happened → ℕ → Type 0
CostsAtMost run cost = (cost_in run ≤ cost) × (dear_in run ≤ dear cost)

-- ---- how a turn is shared

-- what is left of it: to the connection that is served, and to all together for more than pages
pub record Left : Type 0 where
  pub own : ℕ
  pub dear : ℕ

-- what something of this cost leaves
abbrev pub Takes : Left → Left → ℕ → Type 0
Takes old new cost = (new.own + cost ≡ old.own) × (new.dear + dear cost ≡ old.dear)

-- a run takes no more than what was left
abbrev pub IsWithin : List Happened → Left → Left → Type 0
IsWithin run old new = (cost_in run + new.own ≤ old.own) × (dear_in run + new.dear ≤ old.dear)
