-- How a turn is shared by the connections that take part in it.
use Rattle.std.specs.Prelude.{◌≡◌, ◌≤◌, ◌<◌, ◌⊎◌, ℕ, ◌+◌, ◌*◌, Bool, true, false, List, [], length, count_by}
use Rattle.doc_hub.specs.Runs.{Happened, events_on, sent_by, sent_on}
use Rattle.doc_hub.specs.RunParts.{Gave}
use Rattle.doc_hub_events.specs.declared.event.ConnectionEvent.TheVariants as calls
use Rattle.doc_hub_events.specs.declared.event.Event.{Event}
use Rattle.doc_hub_events.specs.declared.event.Event.TheVariants as events
use Rattle.doc_server_listen.specs.Costs.{Left, cost_in, dear_in, most_cost}
use Rattle.doc_server_turns.specs.Parts.{times_among}
use Rattle.doc_server_turns.specs.Replies.{most_pending}

-- No connection takes more than its part, for each time that it is served, and all together no more than what was left for more than pages.
pub record SharesTurn (ready : List ℕ) (run : List Happened) (old new : Left) : Type 0 where
  pub each : (c : ℕ) → cost_in (events_on c run) ≤ most_cost * times_among ready c
  pub all : dear_in run + new.dear ≤ old.dear

-- how many steps are made on a connection
abbrev pub is_step : Event → Bool
is_step (events.On id calls.Step) = true
is_step event = false

abbrev pub steps_on : ℕ → List Happened → ℕ
steps_on c run = count_by (λ h. is_step h.event) (events_on c run)

-- what is sent to a connection has fewer bytes than the bound and one of these replies
abbrev pub SendsFew : ℕ → List Happened → Type 0
SendsFew c run = (sent_on c run ≡ []) ⊎ Gave (λ o. length (sent_on c run) < most_pending + length (sent_by o)) c run

-- No connection makes more than 64 steps, for each time that it is served, and each is sent few bytes.
pub record IsModest (ready : List ℕ) (run : List Happened) : Type 0 where
  pub steps : (c : ℕ) → steps_on c run ≤ most_cost * times_among ready c
  pub bytes : (c : ℕ) → SendsFew c run
