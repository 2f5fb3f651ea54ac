use Rattle.std.proofs.Common.{subst, sym}
use Rattle.doc_index_tables.proofs.TableSteps.{on_ok}
use Rattle.doc_links.specs.IndexSteps.{IsTally}
use Rattle.doc_links.proofs.TallySteps.{none_written, row_written}
use Rattle.doc_links.proofs.tally.add_named.Goals as goal

pub returns-in_default : goal.returns-in_default
returns-in_default g c number is =
    none_written c.args.pages.now (g.S.Sight.goals c.args.sight.now) number c.args.tally.now c.args.name.now c.text.result.now
    c.text.ensures c.in_default.ensures is

pub returns : goal.returns
returns g c =
    on_ok c.add_row.result (λ made number is.
    subst (IsTally c.args.pages.now (g.S.Sight.goals c.args.sight.now) _) (sym made)
    (row_written c.args.pages.now (g.S.Sight.goals c.args.sight.now) c.requires number c.args.tally.now c.in-Some.row.now c.args.name.now
    c.text.result.now c.text.ensures c.in-Some.ensures is)) c.add_row.ensures
