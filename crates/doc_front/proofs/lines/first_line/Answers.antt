use Rattle.std.proofs.Common.{rules}
use Rattle.doc_rules.specs.Characters.{is_ending}
use Rattle.doc_blocks.proofs.ContentLaws.{line_cut, endings_are_ascii}
use Rattle.doc_front.proofs.LineSteps.{none_in, some_in}
use Rattle.doc_front.proofs.lines.first_line.Goals as goal

pub returns-then-is_empty-clause-line : goal.returns-then-is_empty-clause-line
returns-then-is_empty-clause-line c = none_in c.args.text.now c.is_empty.result c.is_empty.ensures (search rules)

pub returns-clause-line : goal.returns-clause-line
returns-clause-line c = (line_cut _ _ _ _ (c.until-stop.ensures.cut is_ending (λ b t h. h) endings_are_ascii) c.front.ensures.joins
    c.behind_ending.ensures (some_in c.args.text.now c.is_empty.result c.utf8.text c.is_empty.ensures (search rules))).first

pub returns-clause-shorter : goal.returns-clause-shorter
returns-clause-shorter c = (line_cut _ _ _ _ (c.until-stop.ensures.cut is_ending (λ b t h. h) endings_are_ascii) c.front.ensures.joins
    c.behind_ending.ensures (some_in c.args.text.now c.is_empty.result c.utf8.text c.is_empty.ensures (search rules))).shorter
