use Rattle.std.proofs.Common.{rules}
use Rattle.std.proofs.lemmas.Fn.{always_returns_same}
use Rattle.doc_links_seen.specs.SeenPages.{seen_page}
use Rattle.doc_links_seen.proofs.SearchSteps.{path_cmp, searched_absent, searched_found}
use Rattle.doc_links_seen.proofs.seen.page_at.Goals as goal

pub returns-in_default : goal.returns-in_default
returns-in_default c = λ sorted.
    searched_absent seen_page c.args.path.now c.args.pages.now sorted c.in_default.field-0
    (c.in_default.ensures.position (λ page. path_cmp page.path.now c.args.path.now)
    (always_returns_same _ _ _ (λ a r f' called. search rules)))

pub returns : goal.returns
returns c = λ sorted.
    searched_found seen_page c.args.path.now c.args.pages.now sorted c.in-Ok.at c.index-pages-at.result c.index-pages-at.is
    c.in-Ok.ensures.bound
    (c.in-Ok.ensures.position (λ page. path_cmp page.path.now c.args.path.now)
    (always_returns_same _ _ _ (λ a r f' called. search rules)))
