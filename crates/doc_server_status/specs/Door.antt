-- What is replied at the door. Its arguments are the law: a request line and counters, and no page, no reader, no token.
use Rattle.std.specs.Prelude.{ℕ, ◌&&◌, ◌||◌, not, Bool, false, true, List, ◌++◌, Option, Some, None, bytes_eq, codes, decimal, if◌then◌else◌}
use Rattle.std.specs.Option.{option_map}
use Rattle.doc_server_status.specs.declared.counters.Counters.{Counters}
use Rattle.doc_server_status.specs.declared.head.Shown.{Shown}
use Rattle.doc_server_status.specs.declared.wanted.Wanted.{Wanted}
use Rattle.doc_server_status.specs.Metrics.{metrics_text}
use Rattle.doc_server_status.specs.Records.{record_said}
use Rattle.doc_server_status.specs.Replies.{reason_of, written}
use Rattle.doc_server_status.specs.RequestLines.{Asked, asked_in}
use Rattle.doc_server_status.specs.Targets.{is_health, is_metrics, is_place, wanted_at}

abbrev pub content_said : List ℕ → Shown
content_said content = record { code = 200; metrics = false; content = content }

abbrev pub metrics_said : Counters → Shown
metrics_said counters = record { code = 200; metrics = true; content = metrics_text counters }

-- a status, as a line of its own (this project's choice)
abbrev pub status_of : ℕ → Shown
status_of code = record { code = code; metrics = false; content = decimal code ++ codes " " ++ reason_of code ++ codes "\n" }

abbrev pub said_of : Option Wanted → Counters → Shown
said_of None counters = status_of 404
said_of (Some wanted) counters = record_said wanted counters.standing.journal

-- what is said at a target: health, metrics, the journal's records, or that there is nothing
unfoldable pub said_at : List ℕ → Counters → Shown
said_at target counters =
    if is_health target then content_said (codes "ok\n")
    else (if is_metrics target then metrics_said counters else said_of (wanted_at target) counters)

abbrev pub is_read : List ℕ → Bool
is_read method = bytes_eq method (codes "GET") || bytes_eq method (codes "HEAD")

-- whether the metrics are looked at
abbrev pub is_look : Option Asked → Bool
is_look None = false
is_look (Some asked) = is_read asked.method && is_metrics asked.target

-- where there is something, other methods than GET and HEAD are refused
unfoldable pub said_to : Asked → Counters → Shown
said_to asked counters =
    if is_read asked.method || not (is_place asked.target) then said_at asked.target counters else status_of 405

unfoldable pub replied_to : Asked → Counters → List ℕ
replied_to asked counters = written (said_to asked counters) (bytes_eq asked.method (codes "HEAD"))

-- the reply to a request line, or none where it is no such line
unfoldable pub status_reply : List ℕ → Counters → Option (List ℕ)
status_reply line counters = option_map (λ asked. replied_to asked counters) (asked_in line)
