use Rattle.std.proofs.Common.{arith, subst, sum_by, sym}
use Rattle.std.specs.Prelude.{map as mapped}
use Rattle.std.proofs.lemmas.List.{take_all}
use Rattle.doc_links.specs.IndexSteps.{IsTally, written_at}
use Rattle.doc_links.proofs.TallySteps.{name_tallied, none_tallied, single_slots}
use Rattle.doc_links.proofs.tally.tally_of.Goals as goal

pub loop-name-init : goal.loop-name-init
loop-name-init g c =
    subst (IsTally c.args.pages.now (g.S.Sight.goals c.args.sight.now) _) (sym c.new-tally.ensures)
    (none_tallied c.args.pages.now (g.S.Sight.goals c.args.sight.now))

pub add_named-requires : goal.add_named-requires
add_named-requires g c = single_slots c.args.pages.now c.len-apart.ensures.apart c.requires

pub loop-name-preserved : goal.loop-name-preserved
loop-name-preserved g c =
    name_tallied c.args.pages.now (g.S.Sight.goals c.args.sight.now) (λ name. name.now) c.args.names.now c.loop-name.name-index
    c.name-item.result c.add_named.new.tally c.loop-name-test.true c.name-item.is (c.in_ok-add_named.ensures _ c.loop-name.invariant)

pub returns : goal.returns
returns g c =
    subst (λ names. IsTally c.args.pages.now (g.S.Sight.goals c.args.sight.now)
    (λ slot. sum_by (λ name. written_at c.args.pages.now name slot) (mapped (λ name. name.now) names)) c.loop-name.tally)
    (take_all c.loop-name.name-index c.args.names.now (omega (arith, c.loop-name-test.false))) c.loop-name.invariant
