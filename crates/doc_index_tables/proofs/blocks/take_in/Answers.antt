use Rattle.std.proofs.Common.{◌∙◌, ap, length, sym}
use Rattle.doc_index_tables.proofs.CutSteps.{gone_at_place, taken_at_place}
use Rattle.doc_index_tables.proofs.blocks.take_in.Goals as goal

pub returns-then-len-ne0-clause-blocks : goal.returns-then-len-ne0-clause-blocks
returns-then-len-ne0-clause-blocks c =
    (taken_at_place c.args.number c.args.blocks.now.items c.deref.result.now c.place_of-at.result c.len.result c.len-2.result
    c.index.result.now c.index_mut.result.now c.take.new.self c.requires c.deref.ensures.value c.place_of-at.ensures
    (c.len.ensures ∙ sym c.deref.ensures.len ∙ ap length c.deref.ensures.value) c.if-at-len.false c.len-2.ensures
    c.index_mut.ensures.value c.index.ensures c.take.ensures c.if-len-ne0.true).0

pub returns-then-len-ne0-clause-rest : goal.returns-then-len-ne0-clause-rest
returns-then-len-ne0-clause-rest c =
    (taken_at_place c.args.number c.args.blocks.now.items c.deref.result.now c.place_of-at.result c.len.result c.len-2.result
    c.index.result.now c.index_mut.result.now c.take.new.self c.requires c.deref.ensures.value c.place_of-at.ensures
    (c.len.ensures ∙ sym c.deref.ensures.len ∙ ap length c.deref.ensures.value) c.if-at-len.false c.len-2.ensures
    c.index_mut.ensures.value c.index.ensures c.take.ensures c.if-len-ne0.true).1

pub returns-clause-blocks : goal.returns-clause-blocks
returns-clause-blocks c =
    (gone_at_place c.args.number c.args.blocks.now.items c.deref.result.now c.place_of-at.result c.len.result c.len-2.result
    c.index.result.now c.index_mut.result.now c.take.new.self c.requires c.deref.ensures.value c.place_of-at.ensures
    (c.len.ensures ∙ sym c.deref.ensures.len ∙ ap length c.deref.ensures.value) c.if-at-len.false c.len-2.ensures
    c.index_mut.ensures.value c.index.ensures c.take.ensures c.remove.new.self.items c.if-len-ne0.false c.remove.ensures.items).0

pub returns-clause-rest : goal.returns-clause-rest
returns-clause-rest c =
    (gone_at_place c.args.number c.args.blocks.now.items c.deref.result.now c.place_of-at.result c.len.result c.len-2.result
    c.index.result.now c.index_mut.result.now c.take.new.self c.requires c.deref.ensures.value c.place_of-at.ensures
    (c.len.ensures ∙ sym c.deref.ensures.len ∙ ap length c.deref.ensures.value) c.if-at-len.false c.len-2.ensures
    c.index_mut.ensures.value c.index.ensures c.take.ensures c.remove.new.self.items c.if-len-ne0.false c.remove.ensures.items).1
