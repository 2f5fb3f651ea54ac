use Rattle.std.proofs.Common.{arith, subst, sym, ◌∙◌}
use Rattle.doc_links_seen.specs.Numbered.{AreNamed}
use Rattle.doc_links_seen.specs.declared.named.Named.{Named}
use Rattle.doc_links_seen.proofs.AnswerSteps.{all_broken}
use Rattle.doc_links_seen.proofs.report.broken_in.Goals as goal

pub push_broken-requires-clause-named : goal.push_broken-requires-clause-named
push_broken-requires-clause-named g c =
    subst (λ (named : Named). AreNamed c.none-stands.result.numbers.now named.slots.items) (sym c.none-stands.ensures.named)
    (c.new-named.ensures c.none-stands.result.numbers.now)

pub returns : goal.returns
returns g c = λ sorted.
    c.new.ensures
    ∙ all_broken (g.S.Sight.goals c.args.sight.now) c.args.pages.now c.loop-page.page-index (omega (arith, c.loop-page-test.false))
    c.loop-page.all.items (c.loop-page.invariant.1 sorted)
