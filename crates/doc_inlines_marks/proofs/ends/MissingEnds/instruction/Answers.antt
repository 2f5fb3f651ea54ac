use Rattle.std.proofs.Common.{ap, ◌∙◌}
use Rattle.doc_rules.specs.Tags.{instruction}
use Rattle.doc_rules.proofs.GrammarLaws.{instruction_leaves}
use Rattle.doc_lines.specs.RestSteps.{rest_of}
use Rattle.doc_inlines_marks.proofs.EndLaws.{reads_same, instruction_nothing, read_instruction}
use Rattle.doc_inlines_marks.proofs.ends.MissingEnds.instruction.Goals as goal

pub returns-in_err-inside : goal.returns-in_err-inside
returns-in_err-inside c = reads_same instruction c.args.self.now _ _ instruction_leaves (ap rest_of c.from_residual.ensures
    ∙ instruction_nothing _ c.in_err-inside.ensures)

pub returns : goal.returns
returns c = read_instruction c.args.self.now _ _ _ _ c.in_ok-inside.ensures c.seek.ensures
