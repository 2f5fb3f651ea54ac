use Rattle.std.proofs.Common.{◌≡◌, ◌+◌, ◌*◌, ◌≤◌, ℕ, false, length}
use denote.Text.{Utf8}
use denote.Shadow.{shadow}
use Rattle.doc_lines.specs.Cursors.{passed, position_at}
use Rattle.doc_lines.proofs.cursor.behind_gap.Given as goal

abbrev pub invariant-characters : goal.invariant-characters
invariant-characters l = record {
  is_text : shadow (Utf8 l.rest);
  within : length l.rest ≤ length l.text;
  small : l.at + 4 * length l.rest ≤ l.column + 4 * length l.text;
  same : (line_length : ℕ) → length l.text ≤ line_length
      → passed (position_at line_length l.rest l.at false) ≡ passed (position_at line_length l.text l.column false);
}

abbrev pub decreases-characters : goal.decreases-characters
decreases-characters l = length l.rest
