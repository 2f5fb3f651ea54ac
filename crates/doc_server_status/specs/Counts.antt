-- What the server counts.
use Rattle.std.specs.Prelude.{ℕ, ◌+◌, ◌/◌, ◌==◌, ◌||◌, None, if◌then◌else◌, max, min}
use Rattle.doc_server_status.specs.declared.counters.Counters.{Counters}
use Rattle.doc_server_status.specs.declared.replies.Replies.{Replies}
use Rattle.doc_server_status.specs.declared.standing.Standing.{Standing}

-- a count, and so many more; it stands still where 64 bits are full
abbrev pub plus : ℕ → ℕ → ℕ
plus count more = min (count + more) 18446744073709551615

abbrev pub no_replies : Replies
no_replies = record { successful = 0; redirected = 0; refused = 0; failed = 0 }

abbrev pub no_standing : Standing
no_standing = record {
  pages = 0;
  journal_bytes = 0;
  journal = None;
  reloads_done = 0;
  reloads_refused = 0;
  reload_seconds = 0;
}

abbrev pub nothing_counted : Counters
nothing_counted = record {
  replies = no_replies;
  unauthorized = 0;
  edits = 0;
  bytes = 0;
  connections = 0;
  connections_most = 0;
  turn_micros_most = 0;
  standing = no_standing;
}

-- replies, and one with this code, by its class (RFC 9110, section 15)
abbrev pub replies_with : ℕ → Replies → Replies
replies_with code replies =
    if code / 100 == 2 then record replies { successful = plus replies.successful 1 }
    else (if code / 100 == 3 then record replies { redirected = plus replies.redirected 1 }
    else (if code / 100 == 4 then record replies { refused = plus replies.refused 1 }
    else (if code / 100 == 5 then record replies { failed = plus replies.failed 1 } else replies)))

-- a reply of this code and so many bytes was handed over
abbrev pub after_reply : ℕ → ℕ → Counters → Counters
after_reply code bytes counters = record counters {
  replies = replies_with code counters.replies;
  unauthorized = plus counters.unauthorized (if code == 401 then 1 else 0);
  edits = plus counters.edits (if (code == 201) || (code == 204) then 1 else 0);
  bytes = plus counters.bytes bytes;
}

-- a connection came
abbrev pub after_join : Counters → Counters
after_join counters = record counters {
  connections = plus counters.connections 1;
  connections_most = max counters.connections_most (plus counters.connections 1);
}
