use Rattle.std.proofs.Common.{ap, ◌∙◌}
use Rattle.doc_rules.specs.Tags.{declaration}
use Rattle.doc_rules.proofs.GrammarLaws.{declaration_leaves}
use Rattle.doc_lines.specs.RestSteps.{rest_of}
use Rattle.doc_inlines_marks.proofs.EndLaws.{reads_same, declaration_nothing, read_declaration}
use Rattle.doc_inlines_marks.proofs.ends.MissingEnds.declaration.Goals as goal

pub returns-in_err-inside : goal.returns-in_err-inside
returns-in_err-inside c = reads_same declaration c.args.self.now _ _ declaration_leaves (ap rest_of c.from_residual.ensures
    ∙ declaration_nothing _ c.in_err-inside.ensures)

pub returns : goal.returns
returns c = read_declaration c.args.self.now _ _ _ _ c.in_ok-inside.ensures c.seek_close.ensures
