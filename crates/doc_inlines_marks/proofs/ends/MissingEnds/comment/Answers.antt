use Rattle.std.proofs.Common.{ap, ◌∙◌, None, codes}
use Rattle.std.specs.Prelude.{option_and_then}
use Rattle.doc_rules.specs.Parsers.{word, through}
use Rattle.doc_rules.specs.Tags.{comment}
use Rattle.doc_rules.proofs.GrammarLaws.{comment_leaves}
use Rattle.doc_lines.specs.RestSteps.{rest_of}
use Rattle.doc_inlines_marks.proofs.EndLaws.{reads_same, comment_empty, comment_short, comment_long, read_comment}
use Rattle.doc_inlines_marks.proofs.ends.MissingEnds.comment.Goals as goal

pub returns-in-Some : goal.returns-in-Some
returns-in-Some c = reads_same comment c.args.self.now _ _ comment_leaves (comment_empty _ _ c.in-Some.ensures)

pub returns-in-Some-word : goal.returns-in-Some-word
returns-in-Some-word c = reads_same comment c.args.self.now _ _ comment_leaves
    (comment_short _ _ c.in_default.ensures c.in-Some-word.ensures)

pub returns-in_err-inside : goal.returns-in_err-inside
returns-in_err-inside c =
    reads_same comment c.args.self.now _ _ comment_leaves
    (ap rest_of c.from_residual.ensures
    ∙ comment_long _ None c.in_default.ensures c.in_default-word.ensures
    (ap (option_and_then (through (word (codes "-->")))) c.in_err-inside.ensures))

pub returns : goal.returns
returns c = read_comment c.args.self.now _ _ _ _ c.in_default.ensures c.in_default-word.ensures c.in_ok-inside.ensures c.seek.ensures
