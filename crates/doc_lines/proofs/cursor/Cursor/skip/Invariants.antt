use Rattle.std.proofs.Common.{◌≡◌, ◌+◌, ◌≤◌}
use Rattle.doc_lines.specs.Cursors.{skipped}
use Rattle.doc_lines.proofs.cursor.Cursor.skip.Given as goal

abbrev pub invariant-loop-left : goal.invariant-loop-left
invariant-loop-left l = (l.left ≤ l.columns) × (skipped l.left l.self ≡ skipped l.columns l.fn.self)
    × (l.self.column + l.left ≡ l.fn.self.column + l.columns)

abbrev pub decreases-loop-left : goal.decreases-loop-left
decreases-loop-left l = l.left
