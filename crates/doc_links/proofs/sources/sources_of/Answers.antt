use Rattle.std.proofs.Common.{arith, ◌∙◌}
use Rattle.doc_links.proofs.SourceSteps.{all_sources}
use Rattle.doc_links.proofs.sources.sources_of.Goals as goal

pub returns : goal.returns
returns g c =
    c.new.ensures
    ∙ all_sources (g.S.Sight.goals c.args.sight.now) c.args.pages.now c.loop-page.page-index (omega (arith, c.loop-page-test.false))
    c.args.target.now c.loop-page.all.items c.loop-page.invariant
