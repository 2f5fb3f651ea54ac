use Rattle.std.proofs.Common.{◌≡◌, ℕ, List, subst, sym}
use Rattle.std.specs.Prelude.{Ok}
use Rattle.doc_server_follow.specs.Follows.{GoesOn}
use Rattle.doc_server_restore.specs.Restores.{restored, unstamped}
use Rattle.docs_server.specs.Following.{AreConfiguredTo}
use Rattle.docs_server.proofs.CatchingSteps.{more_made}
use Rattle.docs_server.proofs.catching_up.CatchingUp.part.Goals as goal

pub invariant_of-self-in-Ok-More : goal.invariant_of-self-in-Ok-More
invariant_of-self-in-Ok-More c =
    more_made c.self.inside.journal.followed c.look.new.self c.self.inside.media c.in-Some.pages c.in-Ok.pages c.in-Ok-More.texts
    (subst (λ pages. AreConfiguredTo c.self.inside.journal.followed c.self.inside.media pages) (sym c.in-Some.ensures.value)
    c.self.invariant)
    (subst (λ looked. GoesOn c.self.inside.journal.followed c.look.new.self looked) c.in-Ok-More.field-0-is c.in-Ok-More.ensures.goes_on)
    (subst (λ (texts : List (List ℕ)). restored c.self.inside.media (unstamped c.in-Some.pages) texts ≡ Ok (unstamped c.in-Ok.pages))
    c.get.ensures c.in-Ok.ensures.restored)
