use Rattle.std.proofs.Common.{sym, ◌∙◌}
use Rattle.std.specs.Vec.Iter.{into_iter_items}
use Rattle.doc_store_readers.proofs.ReaderSteps.{one_added, refused}
use Rattle.doc_store_readers.proofs.listing.readers_of_entries.Goals as goal

pub returns-then-has-clause-refused : goal.returns-then-has-clause-refused
returns-then-has-clause-refused c =
    λ _. refused c.args.entries (into_iter_items c.loop-key.key-iterator) (into_iter_items c.next.new.self) c.loop-key.invariant.0
    c.loop-key.number c.in-Some.field-0 c.loop-key.invariant.2 c.in-Some.ensures.steps.0
    (sym (c.has.ensures c.loop-key.invariant.0 c.loop-key.invariant.1) ∙ c.if-has.true)

pub loop-key-preserved : goal.loop-key-preserved
loop-key-preserved c =
    let before = c.loop-key.invariant.0 in
    let is = c.loop-key.invariant.1 in
    let fresh = sym (c.has.ensures before is) ∙ c.if-has.false in
    one_added c.args.entries (into_iter_items c.loop-key.key-iterator) (into_iter_items c.next.new.self) before
    c.loop-key.number c.in-Some.field-0 c.loop-key.invariant.2 c.in-Some.ensures.steps.0 c.loop-key.listing c.add.new.self is fresh
    (c.in_ok-add.ensures before is fresh) c.loop-key.invariant.3
