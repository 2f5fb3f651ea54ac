use Rattle.std.proofs.Common.{[], ◌∷◌, ◌++◌, ap, sym, ◌∙◌}
use Rattle.std.proofs.lemmas.List.{append-nil}
use Rattle.doc_store_readers.proofs.EntryCopies.{key_copied}
use Rattle.doc_media.specs.Held.{held_by}
use Rattle.doc_media.proofs.held.copy_of.Goals as goal

pub loop-path-init : goal.loop-path-init
loop-path-init c = (
  [],
  ap held_by c.new-copies.ensures.empty,
  c.into_iter-path-iterator.ensures.into_iter_gives ∙ c.iter-path-items.ensures.rest,
  c.iter-path-items.ensures.ordered,
)

pub loop-path-preserved : goal.loop-path-preserved
loop-path-preserved c =
    let so_far = c.loop-path.invariant in
    let step = c.in-Some.ensures.steps ∙ ap (λ path. (path, c.in-Some.medium.now) ∷ c.next.new.self) (sym c.in_ok-key.ensures) in
    let next = key_copied c.loop-path.copies c.insert.new.self c.in_ok-key.key c.in_ok-copy.copy c.in-Some.medium.now so_far.0
    c.loop-path.path-iterator c.next.new.self c.args.media.now.entries c.in_ok-copy.ensures c.in_ok-insert.ensures.updates so_far.1 so_far.2
    step so_far.3 in
    (next.0, next.1, next.2, so_far.3)

pub loop-path-preserved-in_ok-insert : goal.loop-path-preserved-in_ok-insert
loop-path-preserved-in_ok-insert c =
    let so_far = c.loop-path.invariant in
    let step = c.in-Some.ensures.steps ∙ ap (λ path. (path, c.in-Some.medium.now) ∷ c.next.new.self) (sym c.in_ok-key.ensures) in
    let next = key_copied c.loop-path.copies c.insert.new.self c.in_ok-key.key c.in_ok-copy.copy c.in-Some.medium.now so_far.0
    c.loop-path.path-iterator c.next.new.self c.args.media.now.entries c.in_ok-copy.ensures c.in_ok-insert.ensures.updates so_far.1 so_far.2
    step so_far.3 in
    (next.0, next.1, next.2, so_far.3)

pub returns : goal.returns
returns c =
    let so_far = c.loop-path.invariant in
    so_far.1 ∙ ap held_by (sym (append-nil so_far.0) ∙ ap (λ left. so_far.0 ++ left) (sym c.in-None.ensures.steps.0) ∙ so_far.2)
