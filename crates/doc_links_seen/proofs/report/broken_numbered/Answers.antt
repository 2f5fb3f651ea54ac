use Rattle.std.proofs.Common.{arith, ap, subst, sym, ◌∙◌}
use Rattle.doc_links_seen.specs.Numbered.{AreAllWhole, AreNamed}
use Rattle.doc_links_seen.specs.declared.named.Named.{Named}
use Rattle.doc_links_seen.specs.SeenPages.{seen_pages}
use Rattle.doc_links_seen.specs.SeenSteps.{IsInOrder, pages_at}
use Rattle.doc_links_seen.proofs.AnswerSteps.{all_told}
use Rattle.doc_links_seen.proofs.WholeSteps.{all_whole}
use Rattle.doc_links_seen.proofs.report.broken_numbered.Goals as goal

pub push_slot-requires-clause-named : goal.push_slot-requires-clause-named
push_slot-requires-clause-named g c =
    subst (λ numbers. AreNamed numbers c.in_ok-stands.stands.named.now.slots.items) (sym c.in_ok-stands.ensures.numbers)
    (subst (λ (named : Named). AreNamed c.args.numbers.now named.slots.items) (sym c.in_ok-stands.ensures.named) c.requires.named)

pub push_slot-requires-clause-whole : goal.push_slot-requires-clause-whole
push_slot-requires-clause-whole g c =
    let goals = g.S.Sight.goals c.args.sight.now in
    let index = c.args.index.now in
    let stands = c.in_ok-stands.stands.slots.items in
    subst (λ pages. AreAllWhole goals pages index stands c.in_ok-stands.stands.numbers.now)
    (sym (ap seen_pages c.deref.ensures.value ∙ c.in_ok-pages.ensures))
    (subst (AreAllWhole goals (pages_at index c.args.slots.now) index stands) (sym c.in_ok-stands.ensures.numbers)
    (all_whole goals index c.args.names.now c.args.numbers.now c.args.slots.now stands c.bound.ensures.apart c.requires.numbered
    c.requires.order c.requires.seen c.in_ok-stands.ensures.stands))

pub returns : goal.returns
returns g c = λ behind are.
    c.new.ensures
    ∙ all_told behind (g.S.Sight.goals c.args.sight.now) c.args.index.now c.args.slots.now (seen_pages c.in_ok-pages.pages.items)
    c.loop-slot.all.items c.loop-slot.slot-index (omega (arith, c.loop-slot-test.false)) c.in_ok-pages.ensures
    (c.loop-slot.invariant.1 behind are (subst IsInOrder (sym c.in_ok-pages.ensures) c.requires.order))
