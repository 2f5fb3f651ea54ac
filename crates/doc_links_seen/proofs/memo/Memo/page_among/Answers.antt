use Rattle.std.proofs.Common.{ap, sym, ◌∙◌}
use Rattle.std.specs.Prelude.{option_and_then}
use Rattle.doc_links_pages.specs.Links.{page_among, page_at}
use Rattle.doc_links_seen.specs.SeenPages.{seen_pages}
use Rattle.doc_links_seen.proofs.MemoSteps.{known, learned}
use Rattle.doc_links_seen.proofs.memo.Memo.page_among.Goals as goal

pub returns-in-Some-clause-page : goal.returns-in-Some-clause-page
returns-in-Some-clause-page g c = λ sorted.
    known (g.S.Sight.goals c.args.sight.now) (seen_pages c.args.pages.now) c.args.self.now c.args.path.now c.text.result.now
    c.in-Some.page.now c.requires sorted c.text.ensures c.in-Some.ensures.value

pub returns-clause-memo : goal.returns-clause-memo
returns-clause-memo g c =
    learned (g.S.Sight.goals c.args.sight.now) (seen_pages c.args.pages.now) c.args.self.now
    (record { known = c.insert.new.self }) c.requires c.text-2.result c.page_among-page.result
    (λ sorted. c.page_among-page.ensures sorted
    ∙ ap (option_and_then (page_at (seen_pages c.args.pages.now))) c.goal.ensures
    ∙ ap (page_among (g.S.Sight.goals c.args.sight.now) (seen_pages c.args.pages.now)) (sym c.text-2.ensures))
    c.insert.result c.insert.ensures.updates c.insert.ensures.err
