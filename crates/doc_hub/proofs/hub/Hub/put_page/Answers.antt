use Rattle.doc_hub.proofs.StoreSteps.{put_so}
use Rattle.doc_hub.proofs.hub.Hub.put_page.Goals as goal

pub returns-clause-world : goal.returns-clause-world
returns-clause-world g c =
    let hub = c.self.inside in
    put_so hub.media hub.takes_puts hub.readers hub.settings hub.given hub.connections hub.shelf.1 c.put.new.self.1 c.args.self.now.1
    (λ i. (c.self.view_is i).1)
    c.args.path.now c.args.groups.now c.args.text.now c.put.result c.has_medium.result c.has_medium.ensures c.if-has_medium.false
    c.put.ensures.store
