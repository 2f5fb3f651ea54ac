use Rattle.std.specs.Prelude.{option_copied}
use Rattle.std.proofs.lemmas.Result.{on_ok_weaker, on_err_weaker}
use Rattle.doc_rows.proofs.PlaceLaws.{not_wider, wider}
use Rattle.doc_rows.proofs.rows.Rows.widen.Goals as goal

pub returns-clause-err : goal.returns-clause-err
returns-clause-err c =
    on_err_weaker c.add_beside.result (λ less pages stood are.
    not_wider pages c.args.path.now (option_copied c.args.before) c.args.self.now stood are c.args.groups.now c.add_beside.new.self less)
    c.add_beside.ensures.err

pub returns-clause-ok : goal.returns-clause-ok
returns-clause-ok c =
    on_ok_weaker c.add_beside.result (λ more pages stood are.
    wider pages c.args.path.now (option_copied c.args.before) c.args.groups.now c.args.self.now c.add_beside.new.self stood are more)
    c.add_beside.ensures.ok
