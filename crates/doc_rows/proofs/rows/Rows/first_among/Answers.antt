use Rattle.std.proofs.Common.{ap, sym, string_bytes, ◌∙◌}
use Rattle.std.specs.Prelude.{option_copied}
use Rattle.doc_rows.specs.Looks.{first_from}
use Rattle.doc_rows.proofs.RowsSteps.{no_keys}
use Rattle.doc_rows.proofs.SeenLaws.{first_of_next}
use Rattle.doc_rows.proofs.rows.Rows.first_among.Goals as goal

pub loop-row-init : goal.loop-row-init
loop-row-init c = ap (first_from (string_bytes c.args.from.now)) (sym no_keys)

pub loop-row-preserved : goal.loop-row-preserved
loop-row-preserved c =
    c.lesser-best.ensures
    ∙ first_of_next c.args.self.now c.args.rows.now c.loop-row.row-index c.row-item.result c.get.result.now c.loop-row-test.true
    c.row-item.is c.get.ensures (string_bytes c.args.from.now) (option_copied c.loop-row.best) (option_copied c.first.result)
    c.loop-row.invariant c.first.ensures
