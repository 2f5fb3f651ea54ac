use Rattle.std.proofs.Common.{◌==◌}
use Rattle.doc_lines.proofs.Slices.{rest_is_no_longer}
use Rattle.doc_inlines_marks.proofs.Sizes.{size_of}
use Rattle.doc_inlines_marks.proofs.RunCounts.{behind_all, bytes_taken}
use Rattle.doc_inlines_marks.proofs.runs.run.Goals as goal

pub overflow_sub-result : goal.overflow_sub-result
overflow_sub-result c = rest_is_no_longer _ _ c.many-behind.ensures.end c.utf8.text c.many-behind.utf8

pub returns-clause-length : goal.returns-clause-length
returns-clause-length c = bytes_taken _ _ (c.many-behind.ensures.value (λ d. 96 == d) (λ d b h. h)) c.utf8.text c.many-behind.utf8

pub returns-clause-behind : goal.returns-clause-behind
returns-clause-behind c = behind_all _ _ (c.many-behind.ensures.value (λ d. 96 == d) (λ d b h. h))

pub returns-clause-size : goal.returns-clause-size
returns-clause-size c = size_of _ c.many-behind.utf8
