use Rattle.std.proofs.Common.{arith, ◌-◌, ◌<◌, ◌≤◌}
use Rattle.doc_people_search.proofs.PlaceSteps.{ends_before, ends_with_text}
use Rattle.doc_people_search.proofs.places.end_after.Goals as goal

pub returns-then-saturating_sub-le-SNIPPET_LIMIT : goal.returns-then-saturating_sub-le-SNIPPET_LIMIT
returns-then-saturating_sub-le-SNIPPET_LIMIT c =
    let near : c.character_count-count.result - c.args.start ≤ 200 = omega arith in
    ends_with_text c.args.start _ _ c.character_count-count.ensures near

pub returns : goal.returns
returns c =
    let far : 200 < c.character_count-count.result - c.args.start = omega arith in
    ends_before c.args.start c.character_count-count.result _ _ _ _ c.character_count-count.ensures far c.split_at.ensures.behind
    c.split_at-2.ensures.front c.end_among.ensures
