use Rattle.std.proofs.Common.{ℕ, List, Some, ap, sym, ◌∙◌}
use Rattle.std.specs.Prelude.{option_map}
use Rattle.std.specs.FinMap as map
use Rattle.doc_links_pages.specs.declared.page_links.PageLinks.{PageLinks}
use Rattle.doc_links.proofs.HeldSteps.{got}
use Rattle.doc_links.proofs.link_index.LinkIndex.page.Goals as goal

pub returns-in_default : goal.returns-in_default
returns-in_default c =
    let k : List ℕ × ℕ = (c.args.path.now, c.args.stamp) in
    ap (option_map (λ (page : PageLinks). (c.args.path.now, page)))
    (c.in_default.ensures ∙ sym (got c.self.inside.pages k) ∙ ap (λ m. map.get m k) c.self.view_is)

pub returns : goal.returns
returns c =
    let k : List ℕ × ℕ = (c.args.path.now, c.args.stamp) in
    ap Some c.new.ensures
    ∙ ap (option_map (λ (page : PageLinks). (c.args.path.now, page)))
    (c.in-Some.ensures ∙ sym (got c.self.inside.pages k) ∙ ap (λ m. map.get m k) c.self.view_is)
