use Rattle.std.proofs.Common.{◌≡◌, subst}
use Rattle.std.specs.Prelude.{Ok}
use Rattle.doc_hub.specs.Worlds.{store_of}
use Rattle.doc_server_restore.specs.Restores.{restored}
use Rattle.doc_server_serving.proofs.hosting.journaled.restored_journal.Goals as goal

pub returns-in_ok-restore-in-Ok-clause-restored : goal.returns-in_ok-restore-in-Ok-clause-restored
returns-in_ok-restore-in-Ok-clause-restored g c = (
  record {
    texts = c.in-Ok.field-0.texts;
    reads = c.in-Ok.ensures.texts;
    gives =
        subst (λ t. restored c.args.hub.now.1.media (store_of c.args.hub.now.1) t ≡ Ok (store_of c.restore.new.site.1)) c.get.ensures
        c.in_ok-restore-in-Ok.ensures.restored;
    others = c.in_ok-restore-in-Ok.ensures.alike.others;
  },
  c.in-Ok.ensures.opened (λ i stale. absurd (c.requires.fresh i stale)),
)
