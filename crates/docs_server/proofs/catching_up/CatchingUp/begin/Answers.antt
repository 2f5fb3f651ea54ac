use Rattle.std.proofs.Common.{◌≡◌, ℕ, List, subst}
use Rattle.std.specs.Prelude.{Ok}
use Rattle.doc_server_restore.specs.Restores.{restored, unstamped}
use Rattle.docs_server.proofs.catching_up.CatchingUp.begin.Goals as goal

pub invariant_of-result : goal.invariant_of-result
invariant_of-result g c = record {
  config = c.end-pending.result.1.pages;
  texts = c.in_ok-journal.texts;
  configured = c.end-pending.ensures.given;
  taken = c.in_ok-journal.ensures;
  made = subst (λ (texts : List (List ℕ)). restored c.end-pending.result.1.media (unstamped c.end-pending.result.1.pages) texts
      ≡ Ok (unstamped c.in_ok-pages.pages)) c.get.ensures c.in_ok-pages.ensures.restored;
}
