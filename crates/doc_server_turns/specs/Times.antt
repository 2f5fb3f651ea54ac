-- For how long a client may still stay, counted in sweeps. All of this is this project's choice.
use Rattle.std.specs.Prelude.{Bool, false, ◌||◌}
use Rattle.doc_server_turns.specs.Silences as silences
use Rattle.doc_server_turns.specs.Strangers as strangers
use Rattle.doc_server_turns.specs.declared.limits.Limits.{Limits}
use Rattle.doc_server_turns.specs.declared.silence.Silence.{Silence}
use Rattle.doc_server_turns.specs.declared.stranger.Stranger.{Stranger}
use Rattle.doc_server_turns.specs.declared.unfinished.Unfinished.{Unfinished}

-- for how long it is silent, has been a stranger, and has sent a request that isn't whole
pub record Times : Type 0 where
  pub silence : Silence
  pub stranger : Stranger
  pub unfinished : Unfinished

-- those of a client whose connection was just made
abbrev pub new_times : Times
new_times = record {
  silence = record { sweeps = 0; lingers = false };
  stranger = record { is_known = false; sweeps = 0 };
  unfinished = record { has_begun = false; sweeps = 0 };
}

-- one sweep later
abbrev pub later : Times → Times
later t = record {
  silence = silences.swept t.silence;
  stranger = record t.stranger { sweeps = strangers.one_more t.stranger.sweeps };
  unfinished = strangers.later t.unfinished;
}

-- whether one of them is over; a stranger's is sooner where there is a crowd
abbrev pub is_over : Limits → Bool → Times → Bool
is_over limits is_crowded t =
    silences.is_over limits.idle_seconds t.silence || strangers.is_over limits.stranger_seconds is_crowded t.stranger
    || strangers.is_late limits.request_seconds t.unfinished
