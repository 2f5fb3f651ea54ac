use Rattle.std.proofs.Common.{arith}
use Rattle.doc_server_follow.proofs.LookLemmas.{seen_at}
use Rattle.doc_server_follow.proofs.sight.look_at.Goals as goal

pub returns-clause-sees : goal.returns-clause-sees
returns-clause-sees g c =
    seen_at (g.F.Growing.seen c.args.file.now) c.sight_of.result c.args.followed.now c.args.most c.mark_len-len.result c.in-Some.at
    c.in_ok-piece.piece c.get.result.now c.requires.some c.mark_len-len.ensures.value c.mark_len-len.ensures.some
    (omega (arith, c.in-Some.ensures.0, c.in-Some.ensures.1, c.end.ensures)) c.get.ensures c.in_ok-piece.ensures.bytes c.sight_of.ensures
