use Rattle.std.proofs.Common.{◌≡◌, ap, sym, subst, ◌∙◌}
use Rattle.std.specs.Prelude.{IfOk}
use Rattle.std.specs.List.{flat_map}
use Rattle.doc_links_pages.specs.Links.{broken_with}
use Rattle.doc_links_seen.specs.SeenSteps.{IsInOrder, pages_at}
use Rattle.doc_links.specs.IndexSteps.{linked_at}
use Rattle.doc_links.proofs.PlaceSteps.{told_of_held}
use Rattle.doc_links.proofs.link_index.LinkIndex.broken_at.Goals as goal

pub returns : goal.returns
returns g c behind told in_order =
    let goals = g.S.Sight.goals c.args.sight.now in
    let slots = c.self.inside.pages in
    let them : pages_at slots c.deref.result.now ≡ flat_map (linked_at c.args.self.now) c.args.places.now =
    ap (pages_at slots) c.deref.ensures.value ∙ c.in_ok-slots.ensures ∙ ap (λ m. flat_map (linked_at m) c.args.places.now) c.self.view_is in
    subst (λ pages. IfOk c.broken_told.result (λ all. all ≡ broken_with behind goals pages)) them
    (c.broken_told.ensures behind
    (told_of_held slots c.args.self.now c.self.view_is (g.T.Teller.told c.args.teller.now) behind told)
    (subst IsInOrder (sym them) in_order))
