use Rattle.std.proofs.Common.{◌≡◌, Some, take}
use Rattle.doc_media.specs.Media.{beside_of, goal_beside}
use Rattle.doc_media_links.proofs.goals.goals_beside.Given as goal
use Rattle.doc_resolve.specs.Decisions.{goals_of}

-- the links so far
abbrev pub invariant-loop-link : goal.invariant-loop-link
invariant-loop-link g l = l.all.items
    ≡ goals_of (goal_beside (g.S.Sight.goals l.sight) (beside_of l.media (Some l.reader))) (take l.link-index l.links)
