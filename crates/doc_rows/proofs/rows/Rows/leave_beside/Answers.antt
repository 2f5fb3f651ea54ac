use Rattle.std.proofs.Common.{ap, subst, sym, ◌∙◌}
use Rattle.std.specs.Prelude.{Some, option_copied}
use Rattle.doc_rows.specs.Rows.{HasLess, rows_beside, rows_of, rows_of_some}
use Rattle.doc_rows.proofs.PlaceLaws.{all_beside, less_by, no_less}
use Rattle.doc_rows.proofs.rows.Rows.leave_beside.Goals as goal

pub returns-in_default : goal.returns-in_default
returns-in_default c =
    let rows = c.args.self.now in
    let path = c.args.path.now in
    subst (λ g. HasLess rows path (rows_beside (rows_of_some g) (rows_of_some (option_copied c.args.others))) rows)
    (sym (ap option_copied c.in_default.is)) (no_less rows path)

pub returns-in_default-others : goal.returns-in_default-others
returns-in_default-others c =
    less_by c.args.self.now c.leave_all.new.self c.args.path.now (rows_of c.names.result.now)
    (rows_beside (rows_of_some (option_copied c.args.groups)) (rows_of_some (option_copied c.args.others)))
    (sym (all_beside (rows_of c.names.result.now))
    ∙ (λ i. rows_beside (rows_of_some ((ap Some c.names.ensures.same ∙ sym (ap option_copied c.in-Some.is)) i))
    (rows_of_some (sym (ap option_copied c.in_default-others.is) i)))) c.leave_all.ensures

pub returns : goal.returns
returns c =
    less_by c.args.self.now c.leave.new.self c.args.path.now (rows_beside (rows_of c.names-2.result.now) (rows_of c.names-3.result.now))
    (rows_beside (rows_of_some (option_copied c.args.groups)) (rows_of_some (option_copied c.args.others)))
    (λ i. rows_beside (rows_of_some ((ap Some c.names-2.ensures.same ∙ sym (ap option_copied c.in-Some.is)) i))
    (rows_of_some ((ap Some c.names-3.ensures.same ∙ sym (ap option_copied c.in-Some-others.is)) i))) c.leave.ensures
