use Rattle.std.proofs.Common.{◌≡◌, ◌≤◌, true, vec_len}
use Rattle.std.specs.Io.KnownBytes.{Consumes}
use Rattle.doc_server_token.proofs.Reading.{is_open}
use Rattle.doc_server_token.proofs.line.read_line.Given as goal

-- what was read is the front of the line
abbrev pub invariant-bytes : goal.invariant-bytes
invariant-bytes g l = record {
  read : Consumes (g.I.Input.unread l.fn.input) (g.I.Input.unread l.input) l.line.items;
  front : is_open l.line.items ≡ true;
  some : l.counter ≤ vec_len l.line;
  count : g.I.Input.failed l.input ≡ g.I.Input.failed l.fn.input;
}
