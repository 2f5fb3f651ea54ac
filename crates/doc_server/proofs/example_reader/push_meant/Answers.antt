use Rattle.std.proofs.Common.{◌∙◌, refl, ap, ◌++◌}
use Rattle.std.specs.Prelude.{chars, encode_utf8, string_bytes}
use Rattle.std.proofs.lemmas.Iterator.{YieldsList-from_chars}
use Rattle.doc_server.proofs.ExampleSteps.{next_item, no_item, char_pushed, line_pushed}
use Rattle.doc_server.proofs.example_reader.push_meant.Goals as goal

pub loop-c-init : goal.loop-c-init
loop-c-init c = (
  chars c.args.line.now,
  rw c.into_iter-c-iterator.ensures.into_iter_gives (YieldsList-from_chars c.args.line.now c.utf8.line c.chars-c-items.ensures.rest),
  refl,
)

pub loop-c-preserved : goal.loop-c-preserved
loop-c-preserved c =
    let next = next_item _ _ c.loop-c.c-iterator c.next.new.self c.in-Some.c c.loop-c.invariant.0 c.loop-c.invariant.1
    c.in-Some.ensures.steps in (
      next.0,
      next.2,
      char_pushed _ (string_bytes c.loop-c.out) (string_bytes c.push.new.self) c.in-Some.c c.loop-c.invariant.0 next.0 c.loop-c.invariant.2
          next.1
          (c.in_ok-push.ensures.bytes ∙ ap (λ d. string_bytes c.loop-c.out ++ encode_utf8 d) c.tab_or.ensures),
    )

pub returns : goal.returns
unfolding lib.Utf8.encode
returns c =
    let ended = no_item _ _ c.loop-c.c-iterator c.next.new.self c.loop-c.invariant.0 c.loop-c.invariant.1 c.in-None.ensures.steps in
    line_pushed (string_bytes c.args.out.now) (string_bytes c.loop-c.out) (string_bytes c.push-2.new.self) c.args.line.now
    c.loop-c.invariant.0 c.loop-c.invariant.2 ended c.in_ok-push-2.ensures.bytes
