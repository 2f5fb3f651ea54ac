use Rattle.doc_hub.proofs.StoreSteps.{move_so}
use Rattle.doc_hub.proofs.hub.Hub.move_page.Goals as goal

pub returns-clause-world : goal.returns-clause-world
returns-clause-world g c =
    let hub = c.self.inside in
    move_so hub.media hub.takes_puts hub.readers hub.settings hub.given hub.connections hub.shelf.1 c.move_page.new.self.1 c.args.self.now.1
    (λ i. (c.self.view_is i).1)
    c.args.from.now c.args.to.now c.move_page.result c.moves_onto_medium.result c.moves_onto_medium.ensures c.if-moves_onto_medium.false
    c.move_page.ensures.store
