use Rattle.std.proofs.Common.{◌≡◌, ◌≤◌, vec_len}
use Rattle.std.specs.Io.KnownBytes.{Consumes}
use Rattle.doc_server_streams.proofs.whole_input.read_pieces.Given as goal

abbrev pub invariant-reads : goal.invariant-reads
invariant-reads g l = record {
  read : Consumes (g.I.Input.unread l.fn.input) (g.I.Input.unread l.input) l.bytes.items;
  within : vec_len l.bytes ≤ l.limit;
  some : l.counter ≤ vec_len l.bytes;
  count : g.I.Input.failed l.input ≡ g.I.Input.failed l.fn.input;
}
