use Rattle.std.proofs.Common.{◌≡◌, ◌≤◌, ◌+◌, length}
use Rattle.doc_server_script.specs.Scripts.{events_from, events_of, lines}
use denote.Shadow.{shadow}
use denote.Text.{Utf8}
use Rattle.doc_server_script.proofs.script.events_of.Given as goal

abbrev pub invariant-lines : goal.invariant-lines
invariant-lines l = record {
  events : events_of l.script ≡ events_from l.events.items l.number (lines l.left);
  text : shadow (Utf8 l.left);
  room : l.number + length l.left ≤ length l.script + 1;
}

abbrev pub decreases-lines : goal.decreases-lines
decreases-lines l = length l.left
