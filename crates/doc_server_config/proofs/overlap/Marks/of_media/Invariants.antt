use Rattle.std.proofs.Common.{take}
use Rattle.doc_server_config.specs.Overlaps.{media_paths}
use Rattle.doc_server_config.specs.OverlapSteps.{AreMarks}
use Rattle.doc_server_config.proofs.overlap.Marks.of_media.Given as goal

-- the marks of the pages so far
abbrev pub invariant-loop-medium : goal.invariant-loop-medium
invariant-loop-medium l = AreMarks (media_paths (take l.medium-index l.media)) l.marks
