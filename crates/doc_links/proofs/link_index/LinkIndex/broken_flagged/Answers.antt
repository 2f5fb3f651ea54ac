use Rattle.std.proofs.Common.{◌≡◌, ℕ, List, Bool, ap, subst, sym, ◌∙◌}
use Rattle.std.specs.Prelude.{map as mapped}
use Rattle.std.specs.FinMap as map
use Rattle.doc_page_parts.specs.Sights.{leads_to_itself, seen}
use Rattle.doc_links_pages.specs.PageLinks.{pages_of}
use Rattle.doc_links_pages.specs.declared.page_links.PageLinks.{PageLinks}
use Rattle.doc_links_seen.specs.Numbered.{AreNumbered}
use Rattle.doc_links_seen.specs.SeenSteps.{pages_at}
use Rattle.doc_links_pages.specs.Links.{broken_with}
use Rattle.doc_links.proofs.HeldSteps.{has_key, told}
use Rattle.doc_links.proofs.NamingSteps.{of_slice}
use Rattle.doc_links.proofs.OrderSteps.{seen_in_order, they_are_seen}
use Rattle.doc_links.proofs.link_index.LinkIndex.broken_flagged.Goals as goal

pub broken_numbered-requires-clause-numbered : goal.broken_numbered-requires-clause-numbered
broken_numbered-requires-clause-numbered g c =
    subst (AreNumbered c.self.inside.pages c.self.inside.numbering.names) (sym c.deref-2.ensures.value) c.self.invariant.1

pub broken_numbered-requires-clause-named : goal.broken_numbered-requires-clause-named
broken_numbered-requires-clause-named g c =
    of_slice c.self.inside.numbering.numbers.items c.deref-2.result.now c.self.inside.numbering.named.slots.items c.deref-2.ensures.value
    c.self.invariant.2

pub broken_numbered-requires-clause-order : goal.broken_numbered-requires-clause-order
broken_numbered-requires-clause-order g c =
    let goals = g.S.Sight.goals c.args.sight.now in
    let sees : List ℕ × PageLinks → Bool = λ page. leads_to_itself (goals page.0) page.0 in
    let them : pages_at c.self.inside.pages c.deref.result.now ≡ seen goals (pages_of c.args.self.now) =
    ap (pages_at c.self.inside.pages) c.deref.ensures.value
    ∙ c.in_ok-slots.ensures sees (c.requires.seen ∙ ap (λ m. mapped sees (pages_of m)) (sym c.self.view_is))
    ∙ ap (λ m. seen goals (pages_of m)) c.self.view_is in
    seen_in_order goals c.args.self.now (pages_at c.self.inside.pages c.deref.result.now) c.requires.once them

pub broken_numbered-requires-clause-seen : goal.broken_numbered-requires-clause-seen
broken_numbered-requires-clause-seen g c =
    let goals = g.S.Sight.goals c.args.sight.now in
    let sees : List ℕ × PageLinks → Bool = λ page. leads_to_itself (goals page.0) page.0 in
    let them : pages_at c.self.inside.pages c.deref.result.now ≡ seen goals (pages_of c.args.self.now) =
    ap (pages_at c.self.inside.pages) c.deref.ensures.value
    ∙ c.in_ok-slots.ensures sees (c.requires.seen ∙ ap (λ m. mapped sees (pages_of m)) (sym c.self.view_is))
    ∙ ap (λ m. seen goals (pages_of m)) c.self.view_is in
    they_are_seen goals c.args.self.now (pages_at c.self.inside.pages c.deref.result.now) them

pub returns : goal.returns
returns g c = λ behind are.
    let goals = g.S.Sight.goals c.args.sight.now in
    let slots = c.self.inside.pages in
    let sees : List ℕ × PageLinks → Bool = λ page. leads_to_itself (goals page.0) page.0 in
    let them : pages_at slots c.deref.result.now ≡ seen goals (pages_of c.args.self.now) =
    ap (pages_at slots) c.deref.ensures.value
    ∙ c.in_ok-slots.ensures sees (c.requires.seen ∙ ap (λ m. mapped sees (pages_of m)) (sym c.self.view_is))
    ∙ ap (λ m. seen goals (pages_of m)) c.self.view_is in
    told c.broken_numbered.result (λ all is. is ∙ ap (broken_with behind goals) them)
    (c.broken_numbered.ensures behind (λ path stamp there.
    are path stamp
    (ap (λ m. map.contains_key m (path, stamp)) (sym c.self.view_is) ∙ sym (has_key slots (path, stamp)) ∙ there)))
