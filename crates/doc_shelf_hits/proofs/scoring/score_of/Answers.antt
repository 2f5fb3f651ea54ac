use Rattle.std.proofs.Common.{ap, arith, ◌+◌, ◌∙◌}
use Rattle.doc_words_search.specs.Words.{capped}
use Rattle.doc_shelf_hits.proofs.ScoreSteps.{score_next, weighted_all, weighted_short}
use Rattle.doc_shelf_hits.proofs.scoring.score_of.Goals as goal

pub returns-then-at-rarities : goal.returns-then-at-rarities
returns-then-at-rarities c =
    c.loop-at.invariant ∙ ap capped (weighted_short c.args.counts.now c.args.rarities.now c.loop-at.at (omega arith))

pub loop-at-preserved : goal.loop-at-preserved
loop-at-preserved c =
    score_next c.args.counts.now c.args.rarities.now c.loop-at.at c.loop-at.score c.saturating_add-score.result (omega arith) (omega arith)
    c.loop-at.invariant (c.saturating_add-score.ensures ∙ ap (λ n. capped (c.loop-at.score + n)) c.saturating_mul.ensures)

pub returns : goal.returns
returns c = c.loop-at.invariant ∙ ap capped (weighted_all c.args.counts.now c.args.rarities.now c.loop-at.at (omega arith))
