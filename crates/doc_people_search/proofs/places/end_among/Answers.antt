use Rattle.doc_people_search.proofs.PlaceSteps.{ends_at_limit, ends_at_space}
use Rattle.doc_people_search.proofs.places.end_among.Goals as goal

pub returns-then-has_white : goal.returns-then-has_white
returns-then-has_white c =
    ends_at_space c.args.start _ _ _ _ c.has_white.ensures c.if-has_white.true c.last_word_len.ensures c.saturating_sub.ensures

pub returns : goal.returns
returns c = ends_at_limit c.args.start _ _ c.has_white.ensures c.if-has_white.false
