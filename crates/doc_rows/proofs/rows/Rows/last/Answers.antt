use Rattle.std.proofs.Common.{◌∙◌, ap, sym, string_bytes}
use Rattle.std.specs.Prelude.{option_copied}
use Rattle.std.specs.FinMap as map
use Rattle.doc_rows.specs.Looks.{last_before}
use Rattle.doc_rows.specs.Rows.{set_or_empty}
use Rattle.doc_rows.proofs.RowsSteps.{no_keys}
use Rattle.doc_rows.proofs.rows.Rows.last.Goals as goal

pub returns-in_err-row : goal.returns-in_err-row
returns-in_err-row c =
    ap option_copied c.from_residual.ensures ∙ ap (last_before (string_bytes c.args.before.now)) (sym no_keys)
    ∙ ap (λ o. last_before (string_bytes c.args.before.now) (map.keys (set_or_empty o))) c.in_err-row.ensures

pub returns : goal.returns
returns c =
    c.last.ensures ∙ ap (λ o. last_before (string_bytes c.args.before.now) (map.keys (set_or_empty o))) c.in_ok-row.ensures
