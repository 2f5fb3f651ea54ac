use Rattle.std.proofs.Common.{◌≡◌, ℕ, List, Bool, ap, subst, sym, ◌∙◌}
use Rattle.std.specs.Prelude.{IsTrue, is_some, map as mapped}
use Rattle.doc_page_parts.specs.Sights.{leads_to_itself, seen}
use Rattle.doc_links_pages.specs.Links.{backlinks, page_at}
use Rattle.doc_links_pages.specs.Names.{AreNames}
use Rattle.doc_links_pages.specs.PageLinks.{pages_of}
use Rattle.doc_links_pages.specs.declared.page_links.PageLinks.{PageLinks}
use Rattle.doc_links_seen.specs.SeenSteps.{pages_at}
use Rattle.doc_links.specs.IndexSteps.{without_counts}
use Rattle.doc_links.specs.WrittenSteps.{count_of}
use Rattle.doc_links.proofs.FlaggedSteps.{answered_flagged}
use Rattle.doc_links.proofs.HeldSteps.{told}
use Rattle.doc_links.proofs.link_index.LinkIndex.backlinks_flagged.Goals as goal

pub returns : goal.returns
returns g c =
    let goals = g.S.Sight.goals c.args.sight.now in
    let slots = c.self.inside.pages in
    let target = c.args.target.now in
    let sees : List ℕ × PageLinks → Bool = λ page. leads_to_itself (goals page.0) page.0 in
    let them : pages_at slots c.deref.result.now ≡ seen goals (pages_of (without_counts slots)) =
    ap (pages_at slots) c.deref.ensures.value
    ∙ c.in_ok-slots.ensures sees (c.requires.seen ∙ ap (λ m. mapped sees (pages_of m)) (sym c.self.view_is)) in
    told c.sources_at.result (λ all is.
    is
    ∙ answered_flagged goals target slots (mapped (λ name. name.now) c.args.names.now) c.deref-2.result.now c.written_in.ensures.apart
    c.self.invariant.0
    (λ slot page at. ap (λ counts. count_of counts slot) c.deref-2.ensures.value ∙ c.in_ok-counts.ensures.counts slot page at)
    c.deref.result.now them
    (subst (λ m. AreNames (mapped (λ name. name.now) c.args.names.now) goals (seen goals (pages_of m)) target)
    (sym c.self.view_is) c.requires.names)
    (subst (λ m. IsTrue (is_some (page_at (seen goals (pages_of m)) target))) (sym c.self.view_is) c.requires.target)
    ∙ ap (λ m. backlinks goals (seen goals (pages_of m)) target) c.self.view_is) c.sources_at.ensures
