use Rattle.std.proofs.Common.{inl, inr, refl}
use Rattle.std.specs.Prelude.{option_copied}
use Rattle.doc_rows.proofs.PlaceLaws.{on_any_err}
use Rattle.std.proofs.lemmas.Result.{on_ok_weaker, on_err_weaker}
use Rattle.doc_store_readers.specs.Groups.{texts_of}
use Rattle.doc_rows.specs.Rows.{rows_beside, rows_of, rows_of_some}
use Rattle.doc_rows.proofs.PlaceLaws.{beside_are, less_by, more_by}
use Rattle.doc_rows.proofs.rows.Rows.add_beside.Goals as goal

pub returns-clause-err : goal.returns-clause-err
returns-clause-err c =
    on_err_weaker c.add_to_each.result (λ less. inr
    (less_by c.args.self.now c.add_to_each.new.self c.args.path.now (texts_of c.as_slice-3.result.now)
    (rows_beside (rows_of c.args.groups.now) (rows_of_some (option_copied c.args.others)))
    (beside_are _ c.in_ok-added.added.items c.as_slice.result.now c.in_ok-new_rows.new_rows.items c.as_slice-2.result.now
    c.in_ok-old_rows.old_rows.items _ _ c.as_slice-3.ensures.value c.in_ok-added.ensures c.as_slice.ensures.value c.in_ok-new_rows.ensures
    c.as_slice-2.ensures.value c.in_ok-old_rows.ensures) less)) c.add_to_each.ensures.err

pub returns-clause-ok : goal.returns-clause-ok
returns-clause-ok c =
    on_ok_weaker c.add_to_each.result
    (more_by c.args.self.now c.add_to_each.new.self c.args.path.now (texts_of c.as_slice-3.result.now)
    (rows_beside (rows_of c.args.groups.now) (rows_of_some (option_copied c.args.others)))
    (beside_are _ c.in_ok-added.added.items c.as_slice.result.now c.in_ok-new_rows.new_rows.items c.as_slice-2.result.now
    c.in_ok-old_rows.old_rows.items _ _ c.as_slice-3.ensures.value c.in_ok-added.ensures c.as_slice.ensures.value c.in_ok-new_rows.ensures
    c.as_slice-2.ensures.value c.in_ok-old_rows.ensures)) c.add_to_each.ensures.ok

pub returns-in_err-old_rows-clause-err : goal.returns-in_err-old_rows-clause-err
returns-in_err-old_rows-clause-err c = on_any_err c.from_residual.result (inl refl)

pub returns-in_err-new_rows-clause-err : goal.returns-in_err-new_rows-clause-err
returns-in_err-new_rows-clause-err c = on_any_err c.from_residual-in_err-new_rows.result (inl refl)

pub returns-in_err-added-clause-err : goal.returns-in_err-added-clause-err
returns-in_err-added-clause-err c = on_any_err c.from_residual-in_err-added.result (inl refl)
