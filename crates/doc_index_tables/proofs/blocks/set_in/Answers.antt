use Rattle.std.proofs.Common.{◌∙◌, ap, length, sym}
use Rattle.doc_index_tables.proofs.CutSteps.{set_at_place}
use Rattle.doc_index_tables.proofs.TableSteps.{on_ok}
use Rattle.doc_index_tables.proofs.blocks.set_in.Goals as goal

pub returns-clause-blocks : goal.returns-clause-blocks
returns-clause-blocks c =
    on_ok c.set.result (λ is.
    (set_at_place c.args.number c.args.blocks.now.items c.deref.result.now c.place_of-at.result c.len.result c.len-2.result
    c.index.result.now c.index_mut.result.now c.set.new.self c.requires c.deref.ensures.value c.place_of-at.ensures
    (c.len.ensures ∙ sym c.deref.ensures.len ∙ ap length c.deref.ensures.value) c.if-at-len.false c.len-2.ensures
    c.index_mut.ensures.value c.args.value c.if-len-ge-BLOCK_LIMIT.false c.index.ensures is).0) c.set.ensures.ok

pub returns-clause-ok : goal.returns-clause-ok
returns-clause-ok c =
    on_ok c.set.result (λ is.
    (set_at_place c.args.number c.args.blocks.now.items c.deref.result.now c.place_of-at.result c.len.result c.len-2.result
    c.index.result.now c.index_mut.result.now c.set.new.self c.requires c.deref.ensures.value c.place_of-at.ensures
    (c.len.ensures ∙ sym c.deref.ensures.len ∙ ap length c.deref.ensures.value) c.if-at-len.false c.len-2.ensures
    c.index_mut.ensures.value c.args.value c.if-len-ge-BLOCK_LIMIT.false c.index.ensures is).1) c.set.ensures.ok
