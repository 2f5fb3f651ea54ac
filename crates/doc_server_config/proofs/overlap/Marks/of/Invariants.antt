use Rattle.std.proofs.Common.{take}
use Rattle.doc_server_config.specs.Overlaps.{paths_of}
use Rattle.doc_server_config.specs.OverlapSteps.{AreMarks}
use Rattle.doc_server_config.proofs.overlap.Marks.of.Given as goal

-- the marks of the pages so far
abbrev pub invariant-loop-page : goal.invariant-loop-page
invariant-loop-page l = AreMarks (paths_of (take l.page-index l.pages)) l.marks
