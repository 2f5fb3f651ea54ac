use Rattle.std.proofs.Common.{ap, ◌++◌, ◌∷◌, [], ◌∙◌}
use Rattle.doc_shelf_hits.proofs.ScoreSteps.{rarities_next}
use Rattle.doc_shelf_hits.proofs.scoring.rarities.Goals as goal

pub loop-at-preserved : goal.loop-at-preserved
loop-at-preserved c pages are =
    c.in_ok-push.ensures.items ∙ ap (λ r. c.loop-at.rarities.items ++ r ∷ []) c.rarity_at.ensures
    ∙ rarities_next pages c.args.terms.now c.args.candidates.now are c.loop-at.at c.loop-at-test.true c.loop-at.rarities.items
    (c.loop-at.invariant pages are)
