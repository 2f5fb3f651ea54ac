use Rattle.doc_hub.proofs.StoreSteps.{remove_so}
use Rattle.doc_hub.proofs.hub.Hub.remove_page.Goals as goal

pub returns-clause-world : goal.returns-clause-world
returns-clause-world g c =
    let hub = c.self.inside in
    remove_so hub.media hub.takes_puts hub.readers hub.settings hub.given hub.connections hub.shelf.1 c.remove.new.self.1 c.args.self.now.1
    (λ i. (c.self.view_is i).1)
    c.args.path.now c.remove.result c.remove.ensures.answer c.remove.ensures.store
