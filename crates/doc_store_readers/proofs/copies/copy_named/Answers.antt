use Rattle.std.proofs.Common.{[], ◌++◌, ap, sym, ◌∙◌}
use Rattle.std.proofs.lemmas.List.{append-nil}
use Rattle.doc_store_readers.specs.Readers.{by_keys, by_tokens, entries_shown}
use Rattle.doc_store_readers.proofs.CopySteps.{sorted_shown, token_copied}
use Rattle.doc_store_readers.proofs.copies.copy_named.Goals as goal

pub loop-token-init : goal.loop-token-init
loop-token-init c = (
  [],
  ap by_tokens c.new-copies.ensures.empty,
  ap entries_shown (c.into_iter-token-iterator.ensures.into_iter_gives ∙ c.iter-token-items.ensures.rest),
  c.iter-token-items.ensures.ordered,
)

pub loop-token-preserved : goal.loop-token-preserved
loop-token-preserved c =
    let so_far = c.loop-token.invariant in
    let next = token_copied c.loop-token.copies c.insert.new.self c.in_ok-written.written c.in-Some.token.now c.in_ok-copy.copy
    c.in-Some.reader.now so_far.0 c.loop-token.token-iterator c.next.new.self c.args.readers.now.entries
    (c.in_ok-written.ensures.ok ∙ c.as_str.ensures.value) c.in_ok-copy.ensures c.in_ok-insert.ensures.updates so_far.1 so_far.2
    c.in-Some.ensures.steps (sorted_shown c.args.readers.now.entries so_far.3) in
    (next.0, next.1, next.2, so_far.3)

pub loop-token-preserved-in_ok-insert : goal.loop-token-preserved-in_ok-insert
loop-token-preserved-in_ok-insert c =
    let so_far = c.loop-token.invariant in
    let next = token_copied c.loop-token.copies c.insert.new.self c.in_ok-written.written c.in-Some.token.now c.in_ok-copy.copy
    c.in-Some.reader.now so_far.0 c.loop-token.token-iterator c.next.new.self c.args.readers.now.entries
    (c.in_ok-written.ensures.ok ∙ c.as_str.ensures.value) c.in_ok-copy.ensures c.in_ok-insert.ensures.updates so_far.1 so_far.2
    c.in-Some.ensures.steps (sorted_shown c.args.readers.now.entries so_far.3) in
    (next.0, next.1, next.2, so_far.3)

pub returns : goal.returns
returns c =
    let so_far = c.loop-token.invariant in
    so_far.1 ∙ ap by_keys (sym (append-nil so_far.0) ∙ ap (λ left. so_far.0 ++ entries_shown left) (sym c.in-None.ensures.steps.0) ∙ so_far.2)
