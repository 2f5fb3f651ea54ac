-- Connections by number, and what pushes and replies do to one.
use Rattle.std.specs.Prelude.{◌≡◌, ◌≤◌, ℕ, List, [], ◌++◌, ◌+◌, length, drop, Bool, false, nat_lt, Option, Some, None, Result, Ok, Err}
use Rattle.std.specs.Prelude.{if◌then◌else◌}
use Rattle.std.specs.FinMap as map
use Rattle.std.specs.Ordering.{nat_cmp}
use Rattle.doc_hub.specs.declared.connection.Connection.{Connection}
use Rattle.doc_hub_events.specs.declared.refusal.PushError.{PushError}
use Rattle.doc_hub_events.specs.declared.refusal.PushError.TheVariants as push_errors

abbrev pub Connections : Type 0
Connections = map.FinMap nat_cmp Connection

-- each connection has a number that was given: one of the first so many, which begin at 1
abbrev pub HaveGivenNumbers : ℕ → Connections → Type 0
HaveGivenNumbers given cs = (id : ℕ) (c : Connection) → map.get cs id ≡ Some c → (1 ≤ id) × (id ≤ given)

-- an open connection without unread bytes
abbrev pub new_connection : Connection
new_connection = record { unread = []; closed = false }

-- how many unread bytes a connection may have; this project's choice
unfoldable pub backlog_limit : ℕ
backlog_limit = 4194304

-- more unread bytes; the refusals in their order
abbrev pub pushed_onto : Connection → List ℕ → Connection × Result (Unit {0}) PushError
pushed_onto c bytes =
    if c.closed then (c, Err push_errors.Closed)
    else (if nat_lt backlog_limit (length c.unread + length bytes) then (c, Err push_errors.Backlog)
    else (record { unread = c.unread ++ bytes; closed = false }, Ok tt))

-- the connections with what a push leaves of one; a refused push leaves them as they were
abbrev pub with_pushed : Connections → ℕ → Connection → Result (Unit {0}) PushError → Connections × Result (Unit {0}) PushError
with_pushed cs id c (Ok done) = (map.insert cs id c, Ok done)
with_pushed cs id c (Err e) = (cs, Err e)

-- by the connection that stands under the number
abbrev pub pushed_at : Connections → ℕ → List ℕ → Option Connection → Connections × Result (Unit {0}) PushError
pushed_at cs id bytes None = (cs, Err push_errors.NoConnection)
pushed_at cs id bytes (Some c) = let r = pushed_onto c bytes in with_pushed cs id r.0 r.1

abbrev pub pushed : Connections → ℕ → List ℕ → Connections × Result (Unit {0}) PushError
pushed cs id bytes = pushed_at cs id bytes (map.get cs id)

-- a connection whose front was answered: what follows stays, or it closes and nothing does
abbrev pub finished : Connection → ℕ → Bool → Connection
finished c used last = record { unread = if last then [] else drop used c.unread; closed = last }
