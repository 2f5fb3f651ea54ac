use Rattle.std.proofs.Common.{arith}
use Rattle.std.proofs.lemmas.List.Sums.{suffix_len-le-length}
use Rattle.doc_page_parts.specs.Lines.{is_ending}
use Rattle.doc_page_parts.proofs.StrippingSteps.{endings_are_ascii, cut_end, without_ending_is}
use Rattle.doc_page_parts.proofs.trimming.without_ending.Goals as goal

pub overflow_sub-line : goal.overflow_sub-line
overflow_sub-line c = omega (arith, suffix_len-le-length is_ending c.args.line.now)

pub range-requires-clause-end_boundary : goal.range-requires-clause-end_boundary
range-requires-clause-end_boundary c = cut_end endings_are_ascii c.args.line.now c.ending_len.result c.ending_len.ensures

pub returns : goal.returns
returns c = without_ending_is c.args.line.now _ _ c.ending_len.ensures c.range.ensures.value
