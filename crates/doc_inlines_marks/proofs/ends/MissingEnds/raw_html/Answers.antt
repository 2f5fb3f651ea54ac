use Rattle.std.proofs.Common.{ap, ◌∙◌}
use Rattle.doc_rules.specs.Parsers.{◌or◌}
use Rattle.doc_rules.specs.Tags.{comment, instruction, declaration, cdata, raw_html}
use Rattle.doc_rules.proofs.GrammarLaws.{raw_html_leaves}
use Rattle.doc_lines.specs.RestSteps.{rest_of}
use Rattle.doc_inlines_marks.proofs.EndLaws.{reads_same, reads_as, raw_nothing, raw_bang, raw_question, raw_slash, raw_other}
use Rattle.doc_inlines_marks.proofs.ends.MissingEnds.raw_html.Goals as goal

pub returns-in_err-c : goal.returns-in_err-c
returns-in_err-c c = reads_same raw_html c.args.self.now _ _ raw_html_leaves (ap rest_of c.from_residual.ensures
    ∙ raw_nothing _ _ c.requires c.in_err-c.ensures.characters)

pub returns-then-c-eq33 : goal.returns-then-c-eq33
returns-then-c-eq33 c =
    reads_as (comment or declaration or cdata) raw_html c.args.self.now c.marked.new.self _ _ c.marked.ensures
    (raw_bang _ _ _ _ c.requires c.in_ok-c.ensures.characters c.if-c-eq33.true)

pub returns-then-c-eq63 : goal.returns-then-c-eq63
returns-then-c-eq63 c =
    reads_as instruction raw_html c.args.self.now c.instruction.new.self _ _ c.instruction.ensures
    (raw_question _ _ _ _ c.requires c.in_ok-c.ensures.characters c.if-c-eq63.true)

pub returns-then-c-eq47 : goal.returns-then-c-eq47
returns-then-c-eq47 c =
    reads_same raw_html c.args.self.now _ _ raw_html_leaves (c.closing_tag.ensures
    ∙ raw_slash _ _ _ _ c.requires c.in_ok-c.ensures.characters c.if-c-eq47.true)

pub returns : goal.returns
returns c =
    reads_same raw_html c.args.self.now _ _ raw_html_leaves
    (c.open_tag.ensures ∙ raw_other _ _ _ _ c.requires c.in_ok-c.ensures.characters c.if-c-eq33.false c.if-c-eq63.false c.if-c-eq47.false)
