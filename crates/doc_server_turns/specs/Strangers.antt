-- How long a peer may be a stranger, and send a request, in sweeps. All of this is this project's choice.
use Rattle.std.specs.Prelude.{ℕ, ◌==◌, ◌+◌, ◌-◌, ◌*◌, ◌^◌, List, length, Bool, false, not, ◌&&◌, ◌||◌, nat_le, min, codes}
use Rattle.std.specs.Prelude.{Option, Some, None, if◌then◌else◌}
use Rattle.std.specs.List.{starts_with}
use Rattle.doc_hub.specs.StepLaws.{connection}
use Rattle.doc_hub.specs.Worlds.{World}
use Rattle.doc_hub.specs.declared.connection.Connection.{Connection}
use Rattle.doc_server_turns.specs.declared.stranger.Stranger.{Stranger}
use Rattle.doc_server_turns.specs.declared.unfinished.Unfinished.{Unfinished}

-- a reply to what can't be read, isn't signed in, is too large or isn't done: its status line begins so (RFC 9112, section 4)
abbrev pub begins_with : List ℕ → List ℕ → Bool
begins_with front reply = starts_with (λ a b. a == b) reply front

abbrev pub is_refusal : List ℕ → Bool
is_refusal reply =
    begins_with (codes "HTTP/1.1 400 ") reply || begins_with (codes "HTTP/1.1 401 ") reply || begins_with (codes "HTTP/1.1 413 ") reply
    || begins_with (codes "HTTP/1.1 431 ") reply || begins_with (codes "HTTP/1.1 501 ") reply

-- whoever asks is given such a reply, or the style sheet
abbrev pub is_for_whoever : List ℕ → Bool
is_for_whoever reply = is_refusal reply || begins_with (codes "HTTP/1.1 200 OK\r\nContent-Type: text/css;") reply

-- whether bytes of a connection aren't answered yet
abbrev pub has_unread_at : Option Connection → Bool
has_unread_at None = false
has_unread_at (Some k) = not (length k.unread == 0)

abbrev pub has_unread : World → ℕ → Bool
has_unread w id = has_unread_at (connection id w)

-- one sweep more, up to the largest count
abbrev pub one_more : ℕ → ℕ
one_more sweeps = min (sweeps + 1) (2 ^ 64 - 1)

-- A stranger is let go behind four sweeps for each second that it may be one; where there is a crowd behind one second at most.
abbrev pub is_over : ℕ → Bool → Stranger → Bool
is_over seconds is_crowded s = not s.is_known && nat_le (4 * (if is_crowded then min seconds 1 else seconds)) s.sweeps

-- a sweep is counted where a request has begun
abbrev pub later : Unfinished → Unfinished
later u = if u.has_begun then record u { sweeps = one_more u.sweeps } else u

-- who has begun one is let go behind four sweeps for each second that it may take
abbrev pub is_late : ℕ → Unfinished → Bool
is_late seconds u = u.has_begun && nat_le (4 * seconds) u.sweeps
