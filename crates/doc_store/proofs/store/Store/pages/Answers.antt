use Rattle.doc_store.proofs.StateSteps.{pages_listed}
use Rattle.doc_store.proofs.store.Store.pages.Goals as goal

pub returns : goal.returns
returns c =
    pages_listed c.self.inside.pages c.self.inside.aliases c.self.inside.puts c.args.self.now c.iter.result c.self.view_is
    c.iter.ensures
