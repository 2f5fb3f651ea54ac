use Rattle.std.proofs.Common.{ap, ◌∙◌}
use Rattle.doc_rules.specs.Tags.{cdata}
use Rattle.doc_rules.proofs.GrammarLaws.{cdata_leaves}
use Rattle.doc_lines.specs.RestSteps.{rest_of}
use Rattle.doc_inlines_marks.proofs.EndLaws.{reads_same, cdata_nothing, read_cdata}
use Rattle.doc_inlines_marks.proofs.ends.MissingEnds.cdata.Goals as goal

pub returns-in_err-inside : goal.returns-in_err-inside
returns-in_err-inside c = reads_same cdata c.args.self.now _ _ cdata_leaves (ap rest_of c.from_residual.ensures
    ∙ cdata_nothing _ c.in_err-inside.ensures)

pub returns : goal.returns
returns c = read_cdata c.args.self.now _ _ _ _ c.in_ok-inside.ensures c.seek.ensures
