use Rattle.std.proofs.Common.{ap, ◌∙◌}
use Rattle.doc_links.proofs.HeldSteps.{told}
use Rattle.doc_links_pages.specs.Links.{broken}
use Rattle.doc_links_seen.specs.SeenPages.{seen_pages}
use Rattle.doc_links.proofs.OrderSteps.{seen_in_order}
use Rattle.doc_links.proofs.link_index.LinkIndex.broken.Goals as goal

pub returns : goal.returns
returns g c =
    let goals = g.S.Sight.goals c.args.sight.now in
    let them = ap seen_pages c.deref.ensures.value ∙ c.in_ok-pages.ensures in
    told c.broken_in.result (λ all is. is ∙ ap (broken goals) them)
    (c.broken_in.ensures (seen_in_order goals c.args.self.now (seen_pages c.deref.result.now) c.requires.once them))
