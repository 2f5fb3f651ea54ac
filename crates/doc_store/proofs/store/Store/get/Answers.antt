use Rattle.doc_store.proofs.StateSteps.{page_got, stamp_got}
use Rattle.doc_store.proofs.store.Store.get.Goals as goal

pub returns-clause-page : goal.returns-clause-page
returns-clause-page c =
    page_got c.self.inside.pages c.self.inside.aliases c.self.inside.puts c.args.self.now c.args.path.now (λ page. page.now) c.get.result
    c.self.view_is c.get.ensures

pub returns-clause-stamp : goal.returns-clause-stamp
returns-clause-stamp c =
    stamp_got c.self.inside.pages c.self.inside.aliases c.self.inside.puts c.args.self.now c.args.path.now (λ page. page.now) c.get.result
    c.self.view_is c.get.ensures
