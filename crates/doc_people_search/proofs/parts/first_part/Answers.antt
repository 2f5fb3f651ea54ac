use Rattle.std.proofs.Common.{chars, length, rules, ◌<◌}
use Rattle.doc_words_search.proofs.RunSteps.{no_chars}
use Rattle.doc_people_search.proofs.PartSteps.{part_is, part_stands, some_chars}
use Rattle.doc_people_search.proofs.parts.first_part.Goals as goal

pub returns-then-is_empty-clause-none : goal.returns-then-is_empty-clause-none
returns-then-is_empty-clause-none c = no_chars c.args.text.now _ (search rules) c.if-is_empty.true

pub returns-then-is_empty-clause-whole : goal.returns-then-is_empty-clause-whole
returns-then-is_empty-clause-whole c = no_chars c.args.text.now _ (search rules) c.if-is_empty.true

pub returns-then-is_empty-clause-part : goal.returns-then-is_empty-clause-part
returns-then-is_empty-clause-part c = no_chars c.args.text.now _ (search rules) c.if-is_empty.true

pub returns-clause-none : goal.returns-clause-none
returns-clause-none c =
    let some : 0 < length (chars c.args.text.now) = some_chars c.args.text.now _ (search rules) (search rules) c.if-is_empty.false in
    part_stands (chars c.args.text.now) _ _ some (search rules) c.split_at.ensures.front

pub returns-clause-part : goal.returns-clause-part
returns-clause-part c =
    let some : 0 < length (chars c.args.text.now) = some_chars c.args.text.now _ (search rules) (search rules) c.if-is_empty.false in
    part_is (chars c.args.text.now) _ _ _ some (search rules) c.split_at.ensures.front c.split_at.ensures.behind
