use Rattle.std.proofs.Common.{rules, ◌≡◌, ◌≤◌, suc, chars, length, arith}
use Rattle.doc_blocks_starts.proofs.RunLaws.{fewer_characters, one_shorter, one_more_passed, run_ends}
use Rattle.doc_blocks_starts.proofs.run.run_of.Goals as goal

pub overflow_add-count : goal.overflow_add-count
overflow_add-count c =
    let fit : length (chars c.args.text.now) ≤ length c.args.text.now = fewer_characters c.args.text.now c.utf8.text in
    let shorter : length (chars c.characters.rest.now) ≡ suc (length (chars c.in-Some.behind.now))
    = one_shorter c.args.c (chars c.characters.rest.now) (chars c.in-Some.behind.now) c.in-Some.ensures in
    let bound = c.type_inv.text in
    omega (arith, c.characters.invariant.passed.size)

pub characters-preserved : goal.characters-preserved
characters-preserved c = record {
  is_text = search rules;
  passed = one_more_passed _ _ _ _ _ c.characters.invariant.passed c.in-Some.ensures;
}

pub returns-clause-behind : goal.returns-clause-behind
returns-clause-behind c = run_ends _ _ _ _ c.characters.invariant.passed c.in_default.ensures c.if-count-eq0.false
