use Rattle.std.proofs.Common.{◌≡◌, ◌-◌, take, length, chars, arith}
use Rattle.doc_lines.proofs.Slices.{rest_is_no_longer, seam_is_boundary, front_joins, front_is_before}
use Rattle.doc_lines.proofs.scan.front.front.Goals as goal

pub overflow_sub-text : goal.overflow_sub-text
overflow_sub-text c = rest_is_no_longer c.args.text.now c.args.rest.now c.requires c.utf8.text c.utf8.rest

pub range-requires-clause-end_boundary : goal.range-requires-clause-end_boundary
range-requires-clause-end_boundary c = seam_is_boundary c.args.text.now c.args.rest.now c.requires c.utf8.text c.utf8.rest

pub returns-clause-joins : goal.returns-clause-joins
returns-clause-joins c =
    let value : c.range.result.now ≡ take (length c.args.text.now - length c.args.rest.now) c.args.text.now = grind
    (arith, c.range.ensures.value) in
    front_joins c.args.text.now c.args.rest.now c.range.result.now c.requires c.utf8.text c.utf8.rest c.range.utf8 value

pub returns-clause-value : goal.returns-clause-value
returns-clause-value c =
    let value : c.range.result.now ≡ take (length c.args.text.now - length c.args.rest.now) c.args.text.now = grind
    (arith, c.range.ensures.value) in
    front_is_before (chars c.args.text.now) (chars c.args.rest.now) (chars c.range.result.now) c.requires
    (front_joins c.args.text.now c.args.rest.now c.range.result.now c.requires c.utf8.text c.utf8.rest c.range.utf8 value)
