use Rattle.std.proofs.Common.{◌≡◌, ◌≤◌, ◌++◌, drop, string_bytes}
use Rattle.std.specs.Prelude.{slice_range}
use Rattle.std.specs.Str.{IsCharBoundary}
use Rattle.doc_people.specs.Inert.{disarmed}
use Rattle.doc_people_pages.proofs.inert.push_disarmed.Given as goal

-- what stands before the run is written, and the run stands from `start` to `i`
abbrev pub invariant-loop-i : goal.invariant-loop-i
invariant-loop-i l = record {
  before : l.start ≤ l.i;
  boundary : IsCharBoundary l.html l.start;
  written : (string_bytes l.out ++ slice_range l.html l.start l.i) ++ disarmed (drop l.i l.html) ≡ string_bytes l.fn.out ++ disarmed l.html;
}
