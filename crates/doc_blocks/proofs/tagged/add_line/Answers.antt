use Rattle.std.proofs.Common.{◌∙◌, ap, sym}
use Rattle.doc_rules.specs.Characters.{Text}
use Rattle.doc_rules.specs.Columns.{cells_of}
use Rattle.doc_lines.specs.Cursors.{Position, left_of}
use Rattle.doc_blocks.specs.StateSteps.{after_line}
use Rattle.doc_blocks.specs.BuilderSteps.{state_of}
use Rattle.doc_blocks.proofs.tagged.add_line.Goals as goal

pub returns-then-not-first-clause-line : goal.returns-then-not-first-clause-line
returns-then-not-first-clause-line c =
    let s = state_of c.args.builder.now in
    let rules = c.args.entities.now in
    ap (λ (t : Text). after_line rules s (cells_of t)) (c.requires.plain c.if-not-first.true)
    ∙ (ap (λ (p : Position). after_line rules s (left_of p)) (sym c.new.ensures) ∙ c.in_ok-add.ensures.line)
