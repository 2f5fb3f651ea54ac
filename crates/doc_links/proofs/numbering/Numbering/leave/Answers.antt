use Rattle.doc_links.proofs.NamingSteps.{forgotten}
use Rattle.doc_links.proofs.NumberingSteps.{cleared, kept_others}
use Rattle.doc_links.proofs.numbering.Numbering.leave.Goals as goal

pub returns-clause-numbered : goal.returns-clause-numbered
returns-clause-numbered c slots are =
    let old = c.args.self.now in
    let numbers = c.clear.new.numbers.items in
    kept_others slots old.names numbers
    (cleared slots old.names old.numbers.items are numbers c.args.slot c.clear.ensures.gone c.clear.ensures.others)
    c.leave.new.names c.args.slot c.clear.ensures.gone c.leave.ensures.kept

pub returns-clause-named : goal.returns-clause-named
returns-clause-named c has =
    forgotten c.args.self.now.numbers.items c.deref.result.now c.clear.new.numbers.items c.args.self.now.named.slots.items
    c.forget_anchors.new.named.slots.items c.args.slot c.deref.ensures.value c.forget_anchors.ensures.named c.forget_anchors.ensures.gone
    c.clear.ensures.others has
