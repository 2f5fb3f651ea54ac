use Rattle.std.proofs.Common.{subst, sym}
use Rattle.doc_shelf_pages.specs.ViewLaws.{seen_in}
use Rattle.doc_shelf_pages.specs.Views.{rendered_pages}
use Rattle.doc_shelf_hits.specs.Candidates.{AreKnown}
use Rattle.doc_shelf_hits.proofs.hits.hits.Goals as goal

pub returns-clause-count : goal.returns-clause-count
returns-clause-count c render k are =
    let pages = rendered_pages render (seen_in c.args.store.now c.args.reader.now) in
    c.found_among.ensures.count pages
    (subst (AreKnown c.args.terms.now pages) (sym c.deref.ensures.value) (c.in_ok-candidates.ensures render k are))

pub returns-clause-best : goal.returns-clause-best
returns-clause-best c render k are =
    let pages = rendered_pages render (seen_in c.args.store.now c.args.reader.now) in
    c.found_among.ensures.best pages
    (subst (AreKnown c.args.terms.now pages) (sym c.deref.ensures.value) (c.in_ok-candidates.ensures render k are))
