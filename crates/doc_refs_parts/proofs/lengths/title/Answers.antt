use Rattle.std.proofs.Common.{rules, ap, ◌∙◌, chars}
use Rattle.std.specs.Prelude.{Some}
use Rattle.doc_lines.proofs.Slices.{rest_is_no_longer, seam_is_boundary, rest_is_behind}
use Rattle.doc_refs_parts.proofs.Rests.{title_rest}
use Rattle.doc_refs_parts.proofs.lengths.title.Goals as goal

pub overflow_sub-result : goal.overflow_sub-result
overflow_sub-result c = rest_is_no_longer c.args.text.now c.in_ok-rest.rest.now (title_rest _ _ c.in_ok-rest.ensures) c.utf8.text
    (search rules)

pub returns-clause-behind : goal.returns-clause-behind
returns-clause-behind c = ap (λ more. Some (chars more)) (rest_is_behind c.args.text.now c.in_ok-rest.rest.now
    (title_rest _ _ c.in_ok-rest.ensures) c.utf8.text (search rules)) ∙ c.in_ok-rest.ensures

pub returns-clause-boundary : goal.returns-clause-boundary
returns-clause-boundary c = seam_is_boundary c.args.text.now c.in_ok-rest.rest.now (title_rest _ _ c.in_ok-rest.ensures) c.utf8.text
    (search rules)
