use Rattle.std.proofs.Common.{ap, ◌++◌, ◌∙◌}
use Rattle.doc_words_search.specs.SearchSteps.{scored}
use Rattle.doc_words_search.proofs.ScoredSteps.{found_next}
use Rattle.doc_words_search.proofs.ranking.scored_among.Goals as goal

pub loop-place-preserved : goal.loop-place-preserved
loop-place-preserved c =
    found_next c.args.words.now c.args.seen.now c.loop-place.place c.loop-place.found.items c.push_scored.new.found.items
    c.loop-place-test.true c.loop-place.invariant
    (c.in_ok-push_scored.ensures ∙ ap (λ score. c.loop-place.found.items ++ scored c.loop-place.place score) c.score_of.ensures)
