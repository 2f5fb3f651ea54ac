use Rattle.std.proofs.Common.{sym, ◌∙◌}
use Rattle.doc_links.proofs.HeldSteps.{told}
use Rattle.doc_links_seen.specs.SeenPages.{seen_pages}
use Rattle.doc_links.proofs.SourceSteps.{no_page, some_page, with_target, without_target}
use Rattle.doc_links.proofs.sources.sources_in.Goals as goal

pub returns-then-is_none : goal.returns-then-is_none
returns-then-is_none g c =
    c.new-then-is_none.ensures ∙ c.new.ensures.items
    ∙ without_target (g.S.Sight.goals c.args.sight.now) (seen_pages c.args.pages.now) c.args.target.now
    (sym (c.page_at.ensures c.requires) ∙ no_page c.page_at.result c.is_none.result c.is_none.ensures c.if-is_none.true)

pub returns : goal.returns
returns g c =
    told c.sources_of.result (λ all is.
    is
    ∙ with_target (g.S.Sight.goals c.args.sight.now) (seen_pages c.args.pages.now) c.args.target.now
    (some_page c.page_at.result c.is_none.result c.is_none.ensures c.if-is_none.false (c.page_at.ensures c.requires))) c.sources_of.ensures
