use Rattle.std.proofs.Common.{false, rules, ◌∙◌}
use Rattle.doc_inlines_addresses.proofs.HostLaws.{low_found, dot_found, other_passed, part_ended}
use Rattle.doc_inlines_addresses.proofs.hosts.last_part.Goals as goal

pub returns-then-c-eq95 : goal.returns-then-c-eq95
returns-then-c-eq95 c = λ n. c.part.invariant.same n ∙ low_found n c.in-Some.c _ _ false c.in-Some.ensures c.if-c-eq95.true

pub returns-then-c-eq46 : goal.returns-then-c-eq46
returns-then-c-eq46 c = λ n. c.part.invariant.same n ∙ dot_found n c.in-Some.c _ _ c.in-Some.ensures c.if-c-eq46.true

pub part-preserved : goal.part-preserved
part-preserved c = record {
  is_text = search rules;
  same = λ n. c.part.invariant.same n ∙ other_passed n c.in-Some.c _ _ c.in-Some.ensures c.if-c-eq95.false c.if-c-eq46.false;
}

pub returns : goal.returns
returns c = λ n. c.part.invariant.same n ∙ part_ended n _ c.in_default.ensures
