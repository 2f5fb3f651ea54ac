use Rattle.std.proofs.Common.{ap, subst, sym, ◌∙◌}
use Rattle.std.specs.Prelude.{IsTrue, is_some, map as mapped}
use Rattle.doc_links.proofs.HeldSteps.{told}
use Rattle.doc_page_parts.specs.Sights.{seen}
use Rattle.doc_links_pages.specs.Links.{backlinks, page_at}
use Rattle.doc_links_pages.specs.Names.{AreNames}
use Rattle.doc_links_pages.specs.PageLinks.{IsOnce, pages_of}
use Rattle.doc_links.proofs.NamedSteps.{answered}
use Rattle.doc_links.proofs.link_index.LinkIndex.backlinks_under.Goals as goal

pub tally_of-requires : goal.tally_of-requires
tally_of-requires g c = subst IsOnce (sym c.self.view_is) c.requires.once

pub returns : goal.returns
returns g c =
    let goals = g.S.Sight.goals c.args.sight.now in
    let slots = c.self.inside.pages in
    let target = c.args.target.now in
    told c.list.result (λ all is.
    is
    ∙ answered goals target slots (mapped (λ name. name.now) c.args.names.now) c.in_ok-tally.tally
    (subst IsOnce (sym c.self.view_is) c.requires.once) c.self.invariant.0
    (subst (λ m. AreNames (mapped (λ name. name.now) c.args.names.now) goals (seen goals (pages_of m)) target)
    (sym c.self.view_is) c.requires.names) c.in_ok-tally.ensures
    (subst (λ m. IsTrue (is_some (page_at (seen goals (pages_of m)) target))) (sym c.self.view_is) c.requires.target)
    ∙ ap (λ m. backlinks goals (seen goals (pages_of m)) target) c.self.view_is) c.list.ensures
