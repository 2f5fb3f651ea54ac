use Rattle.std.proofs.Common.{[], ◌++◌, ap, sym, ◌∙◌}
use Rattle.std.proofs.lemmas.List.{append-nil}
use Rattle.doc_store_readers.specs.Readers.{by_keys}
use Rattle.doc_store_readers.proofs.EntryCopies.{key_copied}
use Rattle.doc_store_readers.proofs.copies.copy_of_digests.Goals as goal

pub loop-digest-init : goal.loop-digest-init
loop-digest-init c = (
  [],
  ap by_keys c.new-copies.ensures.empty,
  c.into_iter-digest-iterator.ensures.into_iter_gives ∙ c.iter-digest-items.ensures.rest,
  c.iter-digest-items.ensures.ordered,
)

pub loop-digest-preserved : goal.loop-digest-preserved
loop-digest-preserved c =
    let so_far = c.loop-digest.invariant in
    let next = key_copied c.loop-digest.copies c.insert.new.self c.in-Some.digest.now c.in_ok-copy.copy
    c.in-Some.reader.now so_far.0 c.loop-digest.digest-iterator c.next.new.self c.args.readers.now.entries
    c.in_ok-copy.ensures c.in_ok-insert.ensures.updates so_far.1 so_far.2 c.in-Some.ensures.steps so_far.3 in
    (next.0, next.1, next.2, so_far.3)

pub loop-digest-preserved-in_ok-insert : goal.loop-digest-preserved-in_ok-insert
loop-digest-preserved-in_ok-insert c =
    let so_far = c.loop-digest.invariant in
    let next = key_copied c.loop-digest.copies c.insert.new.self c.in-Some.digest.now c.in_ok-copy.copy
    c.in-Some.reader.now so_far.0 c.loop-digest.digest-iterator c.next.new.self c.args.readers.now.entries
    c.in_ok-copy.ensures c.in_ok-insert.ensures.updates so_far.1 so_far.2 c.in-Some.ensures.steps so_far.3 in
    (next.0, next.1, next.2, so_far.3)

pub returns : goal.returns
returns c =
    let so_far = c.loop-digest.invariant in
    so_far.1 ∙ ap by_keys (sym (append-nil so_far.0) ∙ ap (λ left. so_far.0 ++ left) (sym c.in-None.ensures.steps.0) ∙ so_far.2)
