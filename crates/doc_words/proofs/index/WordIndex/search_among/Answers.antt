use Rattle.std.proofs.Common.{ap, subst, ◌∙◌}
use Rattle.doc_page_parts.specs.Sights.{seen}
use Rattle.doc_words_search.specs.Searches.{pages_of}
use Rattle.doc_words_search.specs.SearchSteps.{AgreeFor, pages_at, search_by}
use Rattle.doc_words_search.proofs.AgreeSteps.{agree_for_seen, same_search}
use Rattle.doc_words_search.proofs.SearchSteps.{seen_pages, told}
use Rattle.doc_words.proofs.index.WordIndex.search_among.Goals as goal

pub returns : goal.returns
returns g c =
    let slots = c.self.inside.pages in
    let goals = g.S.Sight.goals c.args.sight.now in
    let words = c.args.words.now in
    let all = pages_of c.args.self.now in
    let marked = c.in_ok-marked.marked.items in
    told c.search_in.result (λ hits is. is
    ∙ ap (λ pages. search_by c.args.count pages words)
    (ap (pages_at slots) (c.deref-2.ensures.value ∙ c.in_ok-seen.ensures) ∙ seen_pages slots goals c.deref.result.now
    ∙ ap (λ ns. seen goals (pages_at slots ns)) c.deref.ensures.value)
    ∙ same_search c.args.count (seen goals (pages_at slots marked)) (seen goals all) words c.requires.count
    (agree_for_seen goals words (pages_at slots marked) all
    (subst (λ m. AgreeFor words (pages_at slots marked) (pages_of m)) c.self.view_is c.in_ok-marked.ensures))) c.search_in.ensures
