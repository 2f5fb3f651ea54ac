use Rattle.std.proofs.Common.{ap, ◌∙◌}
use Rattle.std.specs.Prelude.{option_copied}
use Rattle.std.specs.FinMap as map
use Rattle.std.proofs.lemmas.Result.{on_ok_weaker}
use Rattle.doc_rows.specs.Rows.{rows_beside, rows_of, rows_of_some}
use Rattle.doc_rows_links.proofs.PlaceSteps.{set_first}
use Rattle.doc_rows_links.proofs.link_rows.LinkRows.add_first.Goals as goal

pub returns-clause-ok : goal.returns-clause-ok
returns-clause-ok c =
    on_ok_weaker c.insert.result (λ is.
    set_first c.args.self.now c.args.target.now c.args.path.now
    (rows_beside (rows_of c.args.groups.now) (rows_of_some (option_copied c.args.others))) c.new-rows.result c.add_beside.new.self
    c.insert.new.self c.requires c.new-rows.ensures
    (is ∙ ap (λ t. map.insert c.args.self.now t c.add_beside.new.self) c.in_ok-from_str.ensures.ok) c.in_ok-add_beside.ensures.ok)
    c.insert.ensures.ok
