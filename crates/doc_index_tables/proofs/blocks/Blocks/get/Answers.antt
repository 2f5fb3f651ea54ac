use Rattle.std.proofs.Common.{◌∙◌}
use Rattle.doc_index_tables.proofs.CutSteps.{got_at_place, got_no_place}
use Rattle.doc_index_tables.proofs.blocks.Blocks.get.Goals as goal

pub returns-in_err-get : goal.returns-in_err-get
returns-in_err-get c =
    c.from_residual.ensures
    ∙ got_no_place c.self.inside.blocks.items c.self.inside.count c.args.self.now c.self.invariant c.self.view_is c.args.number
    c.place_of.result c.deref-2.result.now c.deref.result.now c.deref-2.ensures.value c.deref.ensures.value c.place_of.ensures
    c.in_err-get.ensures.lookup.3

pub returns : goal.returns
returns c =
    c.get-2.ensures
    ∙ got_at_place c.self.inside.blocks.items c.self.inside.count c.args.self.now c.self.invariant c.self.view_is c.args.number
    c.place_of.result c.deref-2.result.now c.deref.result.now c.deref-2.ensures.value c.deref.ensures.value c.place_of.ensures
    c.in_ok-get.ensures.lookup.3.0 c.in_ok-get.field-0.now c.in_ok-get.ensures.lookup.1
