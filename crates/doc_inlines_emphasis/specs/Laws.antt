-- Emphasis in one pass is the emphasis of the rules, and the lower bounds pass over no opener.
use Rattle.std.specs.Prelude.{◌≡◌, ℕ, ◌≤◌, List, length, slice_index}
use Rattle.doc_rules.specs.Inlines.{Inline, Run}
use Rattle.doc_rules.specs.Emphasis.{emphasis_of}
use Rattle.doc_inlines_emphasis.specs.OnePass.{passed_once, plain_brackets, without_idle_runs}
use Rattle.doc_inlines_emphasis.specs.Openers.{closer_kind, IsCloser, nearest, nearest_above, AreBounds, Ascend}

abbrev pub OnePassSuffices : Type 0
OnePassSuffices = (inlines : List Inline) → passed_once inlines ≡ emphasis_of inlines

-- a search that ends at the bound of the closer's kind finds the nearest opener
abbrev pub BoundsSuffice : Type 0
BoundsSuffice = (bounds : List ℕ) (runs : ℕ → Run) (openers : List ℕ) (closer : Run) (n : ℕ) → AreBounds bounds runs openers
    → Ascend openers → IsCloser closer → n ≤ length openers →
    nearest_above (slice_index bounds (closer_kind closer)) runs openers closer n ≡ nearest runs openers closer n

-- to emphasis a bracket is no more than its text
abbrev pub BracketsAreText : Type 0
BracketsAreText = (inlines : List Inline) → emphasis_of (plain_brackets inlines) ≡ emphasis_of inlines

-- nor is a run that may neither open nor close
abbrev pub IdleRunsAreText : Type 0
IdleRunsAreText = (inlines : List Inline) → emphasis_of (without_idle_runs inlines) ≡ emphasis_of inlines
