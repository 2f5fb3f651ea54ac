use Rattle.std.specs.Prelude.{option_copied}
use Rattle.std.proofs.lemmas.Result.{on_ok_weaker, on_err_weaker}
use Rattle.doc_rows_links.proofs.LinkLaws.{not_widened, widened}
use Rattle.doc_rows_links.proofs.link_rows.LinkRows.widen.Goals as goal

pub returns-clause-ok : goal.returns-clause-ok
returns-clause-ok c =
    on_ok_weaker c.add_new.result (λ more linking pages stood wrote are.
    widened linking pages c.args.path.now (option_copied c.args.change.before) c.args.change.old.now stood wrote c.args.change.groups.now
    c.args.change.new.now c.args.self.now are c.add_new.new.self more) c.add_new.ensures.ok

pub returns-clause-err : goal.returns-clause-err
returns-clause-err c =
    on_err_weaker c.add_new.result (λ less linking pages stood wrote are.
    not_widened linking pages c.args.path.now
    (option_copied c.args.change.before) c.args.change.old.now stood wrote c.args.change.groups.now
    c.args.change.new.now c.args.self.now are c.add_new.new.self less) c.add_new.ensures.err
