use Rattle.std.proofs.Common.{◌≡◌, ◌∙◌, ap, sym, length, get_or, arith}
use Rattle.std.specs.FinMap as map
use Rattle.doc_index_tables.proofs.PlaceSteps.{entries_are}
use Rattle.doc_index_tables.proofs.block.Block.at.Goals as goal

pub at-requires : goal.at-requires
at-requires c =
    let same : map.len c.args.self.now ≡ length c.self.inside.entries =
    map.len-entries c.args.self.now
    ∙ ap length (entries_are c.self.inside.entries c.self.invariant c.args.self.now c.self.view_is) in omega (arith, same, c.requires)

pub returns : goal.returns
returns c =
    c.at.ensures
    ∙ ap (λ es. get_or es c.args.at c.at.result)
    (sym (entries_are c.self.inside.entries c.self.invariant c.args.self.now c.self.view_is))
