-- What stops the reading of an input or the writing of an output, and how many calls of it failed then.
use Rattle.std.specs.Prelude.{◌≡◌, ◌<◌, ◌≤◌, ◌^◌, ⊤, ◌⊎◌, ℕ, List, length, string_bytes, Option, IfSome, Result, Err}
use Rattle.std.specs.Str.{IsUtf8}
use Rattle.doc_server_streams.specs.Streams.{one_more}
use Rattle.doc_server_streams.specs.declared.fault.Fault.{Fault}
use Rattle.doc_server_streams.specs.declared.fault.Fault.TheVariants as faults

-- an input is read so often at most
abbrev pub most_reads : ℕ
most_reads = 2 ^ 32

-- The input has as many bytes as there are reads, and the limit allows them: it may be given up, since each read may give one byte.
abbrev pub IsTooLong : ℕ → Option (List ℕ) → Type 0
IsTooLong limit input = (most_reads ≤ limit) × IfSome input (λ left. most_reads ≤ length left)

-- The input is no text in UTF-8, or it may be given up.
abbrev pub IsNoText : Option (List ℕ) → Type 0
IsNoText input = IfSome input (λ left. (¬ IsUtf8 left) ⊎ (most_reads ≤ length left))

-- The input of this name can't be read, or it has more bytes than the limit, or memory ran out.
abbrev pub IsUnread : List ℕ → ℕ → Option (List ℕ) → Fault → Type 0
IsUnread name limit input (faults.CannotRead called) = string_bytes called ≡ name
IsUnread name limit input faults.Refused = IfSome input (λ left. limit < length left)
IsUnread name limit input faults.Memory = ⊤
IsUnread name limit input other = ⊥

-- How many reads of an input have failed, before and behind a call that reads it and ended so. It answers that the input can't be
-- read only where a read failed, or for this reason. Where memory ran out, that may have been for the name of an input that can't be
-- read.
abbrev pub ReadsFailed : {X : Type 0} → Type 0 → ℕ → ℕ → Result X Fault → Type 0
ReadsFailed Reason before after (Err (faults.CannotRead called)) = (after ≡ one_more before) ⊎ ((after ≡ before) × Reason)
ReadsFailed Reason before after (Err faults.Memory) = (after ≡ one_more before) ⊎ (after ≡ before)
ReadsFailed Reason before after result = after ≡ before

-- how many writes and flushes of an output have failed behind a call that writes to it and ended so: one more exactly where it
-- answers that the output can't be written
abbrev pub failed_writes_after : {X : Type 0} → ℕ → Result X Fault → ℕ
failed_writes_after before (Err faults.CannotWrite) = one_more before
failed_writes_after before result = before
