-- How long a peer is silent, in sweeps. All of this is this project's choice.
use Rattle.std.specs.Prelude.{ℕ, ◌+◌, ◌-◌, ◌*◌, ◌^◌, Bool, true, false, min, nat_le, if◌then◌else◌}
use Rattle.doc_server_turns.specs.declared.silence.Silence.{Silence}

-- a peer that is heard; one that was sent its last reply isn't, whatever it sends
abbrev pub heard : Silence → Silence
heard silence = record { sweeps = if silence.lingers then silence.sweeps else 0; lingers = silence.lingers }

-- a sweep more; the count ends at the last value of a u64
abbrev pub swept : Silence → Silence
swept silence = record { sweeps = min (silence.sweeps + 1) (2 ^ 64 - 1); lingers = silence.lingers }

-- after how many sweeps it is let go: four for each second that it may be silent, and 8 behind its last reply
abbrev pub sweeps_until : ℕ → Bool → ℕ
sweeps_until idle_seconds true = 8
sweeps_until idle_seconds false = 4 * idle_seconds

abbrev pub is_over : ℕ → Silence → Bool
is_over idle_seconds silence = nat_le (sweeps_until idle_seconds silence.lingers) silence.sweeps
