use Rattle.std.proofs.Common.{◌∙◌, ap, string_bytes}
use Rattle.std.specs.Prelude.{Some, option_copied}
use Rattle.std.specs.FinMap as map
use Rattle.doc_rows.specs.Looks.{last_before}
use Rattle.doc_rows.proofs.RowSteps.{last_is, no_last}
use Rattle.doc_rows.proofs.row.Row.last.Goals as goal

pub returns-in_err-path : goal.returns-in_err-path
returns-in_err-path c =
    ap option_copied c.from_residual.ensures
    ∙ no_last c.self.inside.paths c.range.ensures.ordered c.args.before.now c.range.result (c.range.ensures.between tt)
    c.in_err-path.ensures.steps.0
    ∙ ap (λ m. last_before (string_bytes c.args.before.now) (map.keys m)) c.self.view_is

pub returns : goal.returns
returns c =
    ap Some c.as_str.ensures.value
    ∙ last_is c.self.inside.paths c.range.ensures.ordered c.args.before.now _ c.next_back.new.self c.range.result
    (c.range.ensures.between tt)
    c.in_ok-path.ensures.steps
    ∙ ap (λ m. last_before (string_bytes c.args.before.now) (map.keys m)) c.self.view_is
