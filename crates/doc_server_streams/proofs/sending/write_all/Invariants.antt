use Rattle.std.proofs.Common.{◌≡◌, ◌≤◌, ◌-◌, length, take}
use Rattle.std.specs.Io.KnownBytes.{Appends}
use Rattle.doc_server_streams.proofs.sending.write_all.Given as goal

abbrev pub invariant-writes : goal.invariant-writes
invariant-writes g l = record {
  within : l.sent ≤ length l.bytes;
  sent : Appends (g.O.Output.written l.fn.output) (g.O.Output.written l.output) (take l.sent l.bytes);
  count : g.O.Output.failed l.output ≡ g.O.Output.failed l.fn.output;
}

abbrev pub decreases-writes : goal.decreases-writes
decreases-writes g l = length l.bytes - l.sent
