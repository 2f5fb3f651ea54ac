use Rattle.doc_shelf_pages.proofs.ViewSteps.{no_page, hidden_page, seen_page}
use Rattle.doc_shelf_pages.proofs.visible.visible_page.Goals as goal

pub returns-in_default-clause-page : goal.returns-in_default-clause-page
returns-in_default-clause-page c = no_page c.args.store.now.site c.args.reader.now c.args.path.now c.in_default.ensures.page

pub returns-then-not-may_see-clause-page : goal.returns-then-not-may_see-clause-page
returns-then-not-may_see-clause-page c = hidden_page c.args.store.now.site c.args.reader.now c.args.path.now c.in-Some.page.now.page _
    c.in-Some.ensures.page c.may_see.ensures c.if-not-may_see.true

pub returns-clause-page : goal.returns-clause-page
returns-clause-page c = seen_page c.args.store.now.site c.args.reader.now c.args.path.now c.in-Some.page.now.page _ c.in-Some.ensures.page
    c.may_see.ensures c.if-not-may_see.false
