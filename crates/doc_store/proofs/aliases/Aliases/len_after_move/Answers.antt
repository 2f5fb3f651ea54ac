use Rattle.std.proofs.Common.{◌+◌, sym, ◌∙◌, ap}
use Rattle.std.specs.FinMap as map
use Rattle.doc_store.proofs.AliasSteps.{len_where_alias, len_where_none}
use Rattle.doc_store.proofs.aliases.Aliases.len_after_move.Goals as goal

pub returns-then-contains : goal.returns-then-contains
returns-then-contains c =
    c.len.ensures.len ∙ len_where_alias c.self.inside.goals c.args.to.now (sym c.contains.ensures ∙ c.if-contains.true)
    ∙ ap (λ m. map.len (map.remove m c.args.to.now) + 1) c.self.view_is

pub returns : goal.returns
returns c =
    ap (λ n. n + 1) c.len-2.ensures.len ∙ len_where_none c.self.inside.goals c.args.to.now (sym c.contains.ensures ∙ c.if-contains.false)
    ∙ ap (λ m. map.len (map.remove m c.args.to.now) + 1) c.self.view_is
