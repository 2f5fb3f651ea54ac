use Rattle.std.proofs.Common.{ap, ◌∙◌}
use Rattle.doc_page_parts.specs.Sights.{seen}
use Rattle.doc_links_pages.specs.PageLinks.{pages_of}
use Rattle.doc_links.proofs.HeldSteps.{seen_of_slots, told}
use Rattle.doc_links.proofs.link_index.LinkIndex.pages_seen.Goals as goal

pub returns : goal.returns
returns g c =
    let goals = g.S.Sight.goals c.args.sight.now in
    told c.seen_in.result (λ all is.
    is
    ∙ seen_of_slots goals c.self.inside.pages c.in_ok-slots.slots.items c.deref.result.now c.deref.ensures.value c.in_ok-slots.ensures.entries
    ∙ ap (λ m. seen goals (pages_of m)) c.self.view_is) c.seen_in.ensures
