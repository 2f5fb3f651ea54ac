use Rattle.doc_server_follow.specs.Sights.{IsSight, Stands}
use Rattle.doc_server_follow.proofs.LookLemmas.{if_ok, is_sight}
use Rattle.doc_server_follow.proofs.sight.sight_of.Goals as goal

pub returns-in-Some : goal.returns-in-Some
returns-in-Some c =
    if_ok c.sight_behind.result (λ sight. Stands c.args.followed.now c.in-Some.bytes.now sight)
    (λ sight. IsSight c.args.followed.now c.args.piece.now sight)
    (λ sight stands. is_sight c.args.followed.now c.args.piece.now c.in-Some.bytes.now sight c.in-Some.ensures.found stands)
    c.sight_behind.ensures
