use Rattle.std.proofs.Common.{arith, subst, sym, ◌∙◌}
use Rattle.std.proofs.lemmas.Bool.{true≢false}
use Rattle.doc_links_seen.specs.Numbered.{AreNamed, numbers_at}
use Rattle.doc_links_seen.specs.SeenPages.{seen_pages}
use Rattle.doc_links_seen.specs.SeenSteps.{IsInOrder}
use Rattle.doc_links_seen.specs.declared.named.Named.{Named}
use Rattle.doc_links_seen.proofs.AnswerSteps.{all_told}
use Rattle.doc_links_seen.proofs.report.broken_told.Goals as goal

pub push_slot-requires-clause-named : goal.push_slot-requires-clause-named
push_slot-requires-clause-named g c =
    subst (λ (named : Named). AreNamed c.none-stands.result.numbers.now named.slots.items) (sym c.none-stands.ensures.named)
    (c.new-named.ensures c.none-stands.result.numbers.now)

pub push_slot-requires-clause-whole : goal.push_slot-requires-clause-whole
push_slot-requires-clause-whole g c slot page at i link there whole =
    absurd (true≢false (sym whole ∙ c.none-stands.ensures.none (numbers_at c.none-stands.result.numbers.now slot) i))

pub returns : goal.returns
returns g c behind told in_order =
    c.new.ensures
    ∙ all_told behind (g.S.Sight.goals c.args.sight.now) c.args.index.now c.args.slots.now (seen_pages c.in_ok-pages.pages.items)
    c.loop-slot.all.items c.loop-slot.slot-index (omega (arith, c.loop-slot-test.false)) c.in_ok-pages.ensures
    (c.loop-slot.invariant.1 behind told (subst IsInOrder (sym c.in_ok-pages.ensures) in_order))
