use Rattle.std.proofs.Common.{IfSome, subst}
use Rattle.doc_server_follow.specs.Sights.{Sees, longest}
use Rattle.doc_server_follow.proofs.LookLemmas.{more, short}
use Rattle.doc_server_follow.proofs.followed.Followed.look.Goals as goal

pub returns-in-Short-clause-looked : goal.returns-in-Short-clause-looked
returns-in-Short-clause-looked g c =
    short (g.F.Growing.seen c.args.file.now) c.args.self.now
    (subst (λ s. IfSome (g.F.Growing.seen c.args.file.now) (λ bytes. Sees bytes longest c.args.self.now s)) c.in-Short.is
    c.in_ok-look_behind.ensures.sees)

pub returns-in-More-clause-looked : goal.returns-in-More-clause-looked
returns-in-More-clause-looked g c =
    more (g.F.Growing.seen c.args.file.now) c.args.self.now c.in-More.followed c.in-More.texts
    (subst (λ s. IfSome (g.F.Growing.seen c.args.file.now) (λ bytes. Sees bytes longest c.args.self.now s)) c.in-More.is
    c.in_ok-look_behind.ensures.sees)
