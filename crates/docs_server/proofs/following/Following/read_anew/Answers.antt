use Rattle.std.proofs.Common.{◌≡◌, ℕ, List, subst}
use Rattle.std.specs.Prelude.{Ok}
use Rattle.doc_server_restore.specs.Restores.{restored, unstamped}
use Rattle.docs_server.proofs.following.Following.read_anew.Goals as goal

pub returns-in-Ok-clause-given : goal.returns-in-Ok-clause-given
returns-in-Ok-clause-given g c = (
  c.in_ok-journal.journal.followed,
  record {
    config = c.in_ok-given.given.pages;
    texts = c.in_ok-journal.texts;
    configured = c.in_ok-given.ensures.given;
    taken = c.in_ok-journal.ensures;
    made = subst (λ (texts : List (List ℕ)). restored c.in_ok-given.given.media (unstamped c.in_ok-given.given.pages) texts
        ≡ Ok (unstamped c.in-Ok.pages)) c.get.ensures c.in-Ok.ensures.restored;
  },
)
