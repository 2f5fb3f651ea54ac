-- What contracts see of streams besides their bytes: how many calls failed, and what was flushed.
use Rattle.std.specs.Prelude.{ℕ, ◌+◌, ◌-◌, ◌^◌, min, List, take, Bool, Option, Result, Ok, Err}
use Rattle.std.specs.Io.KnownBytes.{Appends}
use Rattle.doc_server_streams.specs.declared.read_from.ReadFrom.{ReadFrom}
use Rattle.doc_server_streams.specs.declared.write_to.WriteTo.{WriteTo}

-- a count of one failure more; it ends at the last value of a u64
abbrev pub one_more : ℕ → ℕ
one_more n = min (n + 1) (2 ^ 64 - 1)

-- the count of failed calls after one that was answered so
abbrev pub failures_after : {X E : Type 0} → ℕ → Result X E → ℕ
failures_after n (Ok x) = n
failures_after n (Err e) = one_more n

-- known bytes grow by a prefix of these
abbrev pub AppendsPrefix : Option (List ℕ) → Option (List ℕ) → List ℕ → Type 0
AppendsPrefix old new bytes = (n : ℕ) × Appends old new (take n bytes)

-- the reader of an input, and how many reads of it failed
abbrev pub reader_of : {R : Type 0} → ReadFrom R → R
reader_of input = input.reader

abbrev pub failed_reads : {R : Type 0} → ReadFrom R → ℕ
failed_reads input = input.failures

-- the writer of an output, how many writes and flushes of it failed, and whether it was flushed behind the last write
abbrev pub writer_of : {W : Type 0} → WriteTo W → W
writer_of output = output.writer

abbrev pub failed_writes : {W : Type 0} → WriteTo W → ℕ
failed_writes output = output.failures

abbrev pub is_flushed : {W : Type 0} → WriteTo W → Bool
is_flushed output = output.is_flushed
