use Rattle.std.proofs.Common.{◌≡◌, ℕ, List, subst}
use Rattle.std.specs.Prelude.{Ok, Some}
use Rattle.doc_hub.specs.Worlds.{store_of}
use Rattle.doc_server.specs.Sites.{site_world_taking}
use Rattle.doc_server_config.specs.declared.readme.Move.{Move}
use Rattle.doc_server_restore.specs.Restores.{all_made}
use Rattle.doc_server_files.specs.Moving.{edits_of_moves}
use Rattle.docs_server.proofs.listening.hub_of.Goals as goal

pub returns-clause-ready : goal.returns-clause-ready
returns-clause-ready g c = record {
  first = c.in_ok-hub.hub.1;
  stands = subst (λ (texts : List (List ℕ)). site_world_taking c.args.takes_edits c.args.ready.pages.config texts c.args.ready.media
      ≡ Ok c.in_ok-hub.hub.1) c.get.ensures c.in_ok-hub.ensures.world;
  moved = subst (λ (moves : List Move). all_made c.in_ok-hub.hub.1.media (store_of c.in_ok-hub.hub.1) (edits_of_moves moves)
      ≡ Some (store_of c.make_moves.new.site.1)) c.get-2.ensures c.in_ok-make_moves.ensures.made;
  others = c.in_ok-make_moves.ensures.alike.others;
}
