use Rattle.std.proofs.Common.{arith}
use Rattle.std.proofs.lemmas.List.Sums.{suffix_len-le-length}
use Rattle.doc_people_lines.proofs.TextSteps.{goes_on}
use Rattle.doc_people_lines.proofs.texts.folder_len.Goals as goal

pub overflow_sub-result : goal.overflow_sub-result
overflow_sub-result c = omega (arith, suffix_len-le-length goes_on c.args.place.now)
