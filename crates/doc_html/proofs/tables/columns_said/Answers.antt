use Rattle.std.proofs.Common.{◌∙◌, sym, chars}
use Rattle.doc_tables.proofs.AlignmentLaws.{same_alignment}
use Rattle.doc_html.proofs.TableSteps.{nothing_said, more_said, none_said, all_said}
use Rattle.doc_html.proofs.tables.columns_said.Goals as goal

pub cells-init : goal.cells-init
cells-init c = nothing_said _ _ _ c.new-columns.ensures.items c.of-cells.ensures

pub returns-in_default-alignment_of : goal.returns-in_default-alignment_of
returns-in_default-alignment_of c =
    c.new.ensures.items
    ∙ sym (none_said (chars c.args.delimiters.now) _ _ _ _ c.cells.invariant c.in-Some.ensures.value
    (same_alignment (chars c.in-Some.cell.source.now) ∙ sym c.in_default-alignment_of.ensures))

pub cells-preserved : goal.cells-preserved
cells-preserved c =
    more_said _ _ _ _ _ _ _ c.cells.invariant c.in-Some.ensures.value
    (sym (c.in-Some-alignment_of.ensures ∙ sym (same_alignment (chars c.in-Some.cell.source.now)))) c.in_ok-push.ensures.items

pub returns : goal.returns
returns c = all_said (chars c.args.delimiters.now) _ _ c.cells.invariant c.in_default.ensures.value
