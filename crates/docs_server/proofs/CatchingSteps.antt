-- The pages of a configuration behind the records of a journal, and behind more of them.
use Rattle.std.proofs.Common.{◌≡◌, ℕ, List, ◌++◌}
use Rattle.std.specs.Prelude.{Ok}
use Rattle.doc_media.specs.Media.{Media}
use Rattle.doc_store.specs.Store.{StoreState}
use Rattle.doc_server_follow.specs.Follows.{GoesOn}
use Rattle.doc_server_follow.specs.declared.followed.Followed.{Followed}
use Rattle.doc_server_follow.specs.declared.looked.Looked.TheVariants as looks
use Rattle.doc_server_restore.specs.Restores.{restored, unstamped}
use Rattle.docs_server.specs.Following.{IsConfiguredTo}
use Rattle.docs_server.proofs.RestoredSteps.{restored_behind}
use Rattle.docs_server.proofs.TakenSteps.{taken_behind}

-- once more records are taken and made
pub more_made : (old new : Followed) (media : Media) (pages next : StoreState) (more : List (List ℕ)) → IsConfiguredTo old media pages
    → GoesOn old new (looks.More more) → restored media (unstamped pages) more ≡ Ok (unstamped next) → IsConfiguredTo new media next
more_made old new media pages next more is goes made = record {
  config = is.config;
  texts = is.texts ++ more;
  configured = is.configured;
  taken = taken_behind old new is.texts more goes.0 is.taken goes.1;
  made = restored_behind media is.texts more 1 (unstamped is.config) (unstamped pages) (unstamped next) is.made made;
}
