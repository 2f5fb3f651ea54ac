use Rattle.std.proofs.Common.{subst}
use Rattle.doc_store.specs.Store.{IsStore}
use Rattle.doc_hub_editing.proofs.MakingSteps.{can_move_is_fine}
use Rattle.doc_hub_editing.proofs.making.move_page.Goals as goal

pub move_fitting-requires : goal.move_fitting-requires
move_fitting-requires g c =
    can_move_is_fine c.args.shelf.now.1 c.args.from.now c.args.to.now
    (subst IsStore c.store.ensures c.get.ensures.store).site c.requires
