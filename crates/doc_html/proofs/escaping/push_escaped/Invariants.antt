use Rattle.std.proofs.Common.{◌≡◌, ◌≤◌, ◌++◌, take, string_bytes}
use Rattle.std.specs.Prelude.{slice_range}
use Rattle.std.specs.Str.{IsCharBoundary}
use Rattle.doc_page_parts.specs.Escaping.{escaped}
use Rattle.doc_html.proofs.escaping.push_escaped.Given as goal

-- what stands before the run is written, and the run stands from `start` to `i`
abbrev pub invariant-loop-i : goal.invariant-loop-i
invariant-loop-i l = record {
  before : l.start ≤ l.i;
  boundary : IsCharBoundary l.text l.start;
  written : string_bytes l.out ++ slice_range l.text l.start l.i ≡ string_bytes l.fn.out ++ escaped (take l.i l.text);
}
