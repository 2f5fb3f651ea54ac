-- How many reads failed behind the command `demo`.
use Rattle.std.proofs.Common.{◌≡◌, inl, inr, ℕ, ◌≤◌, List, arith}
use Rattle.std.specs.Prelude.{Option, Result, Ok, Err, IfErr}
use Rattle.doc_hub.specs.Replies.{Renders}
use Rattle.doc_hub.specs.Worlds.{World}
use Rattle.doc_server_streams.specs.declared.fault.Fault.{Fault}
use Rattle.doc_server_streams.specs.declared.fault.Fault.TheVariants as faults
use Rattle.doc_server_streams.specs.Faults.{most_reads, IsTooLong, ReadsFailed}
use Rattle.doc_server_streams.specs.InputSteps.{IsRead}
use Rattle.doc_server.specs.DemoSteps.{StopsCall, StopsReplies}

too_few : most_reads ≤ 4194304 → ⊥
too_few le = omega (arith, le)

-- an input of at most 4,194,304 bytes isn't given up
pub never_given_up : (input : Option (List ℕ)) (before after : ℕ) (fault : Fault)
    → ReadsFailed {X = Unit {0}} (IsTooLong 4194304 input) before after (Err fault) → ReadsFailed {X = Unit {0}} ⊥ before after (Err fault)
never_given_up input before after faults.Usage reads = reads
never_given_up input before after faults.Config reads = reads
never_given_up input before after faults.BadTable reads = reads
never_given_up input before after faults.UnknownToken reads = reads
never_given_up input before after faults.Socket reads = reads
never_given_up input before after (faults.BadScriptLine line) reads = reads
never_given_up input before after (faults.CannotRead name) (inl one) = inl one
never_given_up input before after (faults.CannotRead name) (inr (same, long)) = absurd (too_few long.0)
never_given_up input before after faults.CannotWrite reads = reads
never_given_up input before after faults.Refused reads = reads
never_given_up input before after faults.Memory reads = reads

-- the input was read before
pub read_before : {X : Type 0} (r : Result X Fault) (before after : ℕ) → after ≡ before → IfErr r IsRead → ReadsFailed ⊥ before after r
read_before (Ok x) before after same read = same
read_before (Err faults.Usage) before after same read = same
read_before (Err faults.Config) before after same read = same
read_before (Err faults.BadTable) before after same read = same
read_before (Err faults.UnknownToken) before after same read = same
read_before (Err faults.Socket) before after same read = same
read_before (Err (faults.BadScriptLine line)) before after same read = same
read_before (Err (faults.CannotRead name)) before after same read = absurd read
read_before (Err faults.CannotWrite) before after same read = same
read_before (Err faults.Refused) before after same read = same
read_before (Err faults.Memory) before after same read = inr same

-- a call that stops, and replies that stop, don't read
pub call_reads : {X E : Type 0} (r : Result X E) (fault : Fault) → StopsCall r fault → IsRead fault
call_reads r faults.Usage stops = tt
call_reads r faults.Config stops = tt
call_reads r faults.BadTable stops = tt
call_reads r faults.UnknownToken stops = tt
call_reads r faults.Socket stops = tt
call_reads r (faults.BadScriptLine line) stops = tt
call_reads r (faults.CannotRead name) stops = absurd stops
call_reads r faults.CannotWrite stops = tt
call_reads r faults.Refused stops = tt
call_reads r faults.Memory stops = tt

pub replies_read : (render : Renders) (w : World) (id : ℕ) (old new : Option (List ℕ)) (fault : Fault)
    → StopsReplies render w id old new fault → IsRead fault
replies_read render w id old new faults.Usage stops = tt
replies_read render w id old new faults.Config stops = tt
replies_read render w id old new faults.BadTable stops = tt
replies_read render w id old new faults.UnknownToken stops = tt
replies_read render w id old new faults.Socket stops = tt
replies_read render w id old new (faults.BadScriptLine line) stops = tt
replies_read render w id old new (faults.CannotRead name) stops = stops
replies_read render w id old new faults.CannotWrite stops = tt
replies_read render w id old new faults.Refused stops = tt
replies_read render w id old new faults.Memory stops = tt
