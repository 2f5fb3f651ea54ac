use Rattle.std.proofs.Common.{◌∙◌, ap, string_bytes}
use Rattle.std.specs.Prelude.{Some, option_copied}
use Rattle.std.specs.FinMap as map
use Rattle.doc_rows.specs.Looks.{first_from}
use Rattle.doc_rows.proofs.RowSteps.{first_is, no_first}
use Rattle.doc_rows.proofs.row.Row.first.Goals as goal

pub returns-in_err-path : goal.returns-in_err-path
returns-in_err-path c =
    ap option_copied c.from_residual.ensures
    ∙ no_first c.self.inside.paths c.range.ensures.ordered c.args.from.now c.range.result (c.range.ensures.between tt)
    c.in_err-path.ensures.steps.0
    ∙ ap (λ m. first_from (string_bytes c.args.from.now) (map.keys m)) c.self.view_is

pub returns : goal.returns
returns c =
    ap Some c.as_str.ensures.value
    ∙ first_is c.self.inside.paths c.range.ensures.ordered c.args.from.now _ c.next.new.self c.range.result (c.range.ensures.between tt)
    c.in_ok-path.ensures.steps
    ∙ ap (λ m. first_from (string_bytes c.args.from.now) (map.keys m)) c.self.view_is
