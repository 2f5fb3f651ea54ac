use Rattle.std.proofs.Common.{arith}
use Rattle.std.proofs.lemmas.List.Sums.{suffix_len-le-length}
use Rattle.doc_page_parts.specs.Lines.{is_space_or_tab}
use Rattle.doc_page_parts.proofs.StrippingSteps.{blanks_are_ascii, cut_start, cut_end, stripped_is}
use Rattle.doc_page_parts.proofs.trimming.stripped.Goals as goal

pub range_from-rest-requires : goal.range_from-rest-requires
range_from-rest-requires c = λ _. cut_start blanks_are_ascii c.args.text.now c.blanks_at_start.result c.utf8.text c.blanks_at_start.ensures

pub overflow_sub-rest : goal.overflow_sub-rest
overflow_sub-rest c = omega (arith, suffix_len-le-length is_space_or_tab c.range_from-rest.result.now)

pub range-requires-clause-end_boundary : goal.range-requires-clause-end_boundary
range-requires-clause-end_boundary c = cut_end blanks_are_ascii c.range_from-rest.result.now c.blanks_at_end.result c.blanks_at_end.ensures

pub returns : goal.returns
returns c = stripped_is c.args.text.now c.range_from-rest.result.now _ _ _ c.blanks_at_start.ensures c.range_from-rest.ensures.value
    c.blanks_at_end.ensures c.range.ensures.value
