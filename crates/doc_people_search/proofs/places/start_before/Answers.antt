use Rattle.std.proofs.Common.{arith, ◌≤◌}
use Rattle.doc_people_search.proofs.PlaceSteps.{lead_is_short, starts_later}
use Rattle.doc_people_search.proofs.places.start_before.Goals as goal

pub overflow_add-result : goal.overflow_add-result
overflow_add-result c =
    let few : c.white_at.result ≤ 60 = lead_is_short _ _ _ c.white_at.ensures c.split_at-2.ensures.front in omega arith

pub returns : goal.returns
returns c =
    starts_later c.args.at _ _ _ _ c.if-at-le-LEAD_LIMIT.false c.split_at.ensures.behind c.split_at-2.ensures.front c.white_at.ensures
