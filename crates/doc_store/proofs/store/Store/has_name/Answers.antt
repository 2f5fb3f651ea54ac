use Rattle.std.proofs.Common.{ap, sym, ◌∙◌}
use Rattle.std.specs.Prelude.{◌||◌}
use Rattle.std.specs.FinMap as map
use Rattle.doc_store.proofs.StateSteps.{stands_in}
use Rattle.doc_store.proofs.store.Store.has_name.Goals as goal

pub returns-then-contains : goal.returns-then-contains
returns-then-contains c =
    let i = c.self.inside in
    c.if-contains.true
    ∙ ap (λ stands. stands || map.contains_key c.args.self.now.site.aliases c.args.path.now)
    (sym c.if-contains.true ∙ c.contains.ensures ∙ stands_in i.pages i.aliases i.puts c.args.self.now c.args.path.now c.self.view_is)

pub returns-else-contains : goal.returns-else-contains
returns-else-contains c =
    let i = c.self.inside in
    c.contains-else-contains.ensures ∙ ap (λ state. map.contains_key state.site.aliases c.args.path.now) c.self.view_is
    ∙ ap (λ stands. stands || map.contains_key c.args.self.now.site.aliases c.args.path.now)
    (sym c.if-contains.false ∙ c.contains.ensures ∙ stands_in i.pages i.aliases i.puts c.args.self.now c.args.path.now c.self.view_is)
