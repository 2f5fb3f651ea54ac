use Rattle.std.proofs.Common.{ap, sym, string_bytes, ◌∙◌}
use Rattle.std.specs.Prelude.{option_copied}
use Rattle.doc_rows.specs.Looks.{last_before}
use Rattle.doc_rows.proofs.RowsSteps.{no_keys}
use Rattle.doc_rows.proofs.SeenLaws.{last_of_next}
use Rattle.doc_rows.proofs.rows.Rows.last_among.Goals as goal

pub loop-row-init : goal.loop-row-init
loop-row-init c = ap (last_before (string_bytes c.args.before.now)) (sym no_keys)

pub loop-row-preserved : goal.loop-row-preserved
loop-row-preserved c =
    c.greater-best.ensures
    ∙ last_of_next c.args.self.now c.args.rows.now c.loop-row.row-index c.row-item.result c.get.result.now c.loop-row-test.true
    c.row-item.is c.get.ensures (string_bytes c.args.before.now) (option_copied c.loop-row.best) (option_copied c.last.result)
    c.loop-row.invariant c.last.ensures
