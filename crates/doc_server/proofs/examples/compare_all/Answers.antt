use Rattle.std.proofs.Common.{◌∙◌, refl, lit<, arith}
use Rattle.std.proofs.lemmas.Iterator.Splits.{YieldsList-from_str_split}
use Rattle.std.proofs.lemmas.Result.{err_from_is_err_and}
use Rattle.doc_server.specs.Examples.{lines}
use Rattle.doc_server.specs.ExampleSteps.{place_of}
use Rattle.doc_server.proofs.ExampleSteps.{next_item, no_item, at_first, at_next, room_at, stops_at, all_sent, all_counted}
use Rattle.doc_server.proofs.examples.compare_all.Goals as goal

pub loop-line-init : goal.loop-line-init
loop-line-init g c = (
  lines c.args.text.now,
  rw c.into_iter-line-iterator.ensures.into_iter_gives
      (YieldsList-from_str_split 10 c.args.text.now (lit< tt) c.split-line-items.ensures.text c.split-line-items.ensures.has_more
      c.split-line-items.ensures.pattern),
  at_first c.args.text.now (g.O.Output.written c.args.output.now) (place_of c.new-reader.result) c.new-reader.ensures,
  refl,
)

pub loop-line-preserved : goal.loop-line-preserved
loop-line-preserved g c =
    let next = next_item _ _ c.loop-line.line-iterator c.next.new.self c.in-Some.line c.loop-line.invariant.0 c.loop-line.invariant.1
    c.in-Some.ensures.steps in (
      next.0,
      next.2,
      at_next c.args.text.now (g.O.Output.written c.args.output.now) _ (g.O.Output.written c.read_line.new.output)
          (place_of c.loop-line.reader) (place_of c.read_line.new.reader) c.loop-line.count c.read_line.new.count
          c.in-Some.line.now c.loop-line.invariant.0 next.0 c.loop-line.invariant.2 next.1 c.in_ok-read_line.ensures.sent
          c.in_ok-read_line.ensures.count c.in_ok-read_line.ensures.place,
      ◌∙◌ {b = g.O.Output.failed c.loop-line.output} c.in_ok-read_line.ensures.writes c.loop-line.invariant.3,
    )

pub read_line-requires : goal.read_line-requires
read_line-requires g c =
    let next = next_item _ _ c.loop-line.line-iterator c.next.new.self c.in-Some.line c.loop-line.invariant.0 c.loop-line.invariant.1
    c.in-Some.ensures.steps in
    record {
      room = room_at c.args.text.now _ _ (place_of c.loop-line.reader) c.loop-line.count c.in-Some.line.now c.loop-line.invariant.0
          next.0 (omega arith) c.loop-line.invariant.2 next.1;
    }

pub returns-in_err-read_line-clause-fault : goal.returns-in_err-read_line-clause-fault
returns-in_err-read_line-clause-fault g c =
    let next = next_item _ _ c.loop-line.line-iterator c.next.new.self c.in-Some.line c.loop-line.invariant.0 c.loop-line.invariant.1
    c.in-Some.ensures.steps in
    let p = err_from_is_err_and c.from_residual.result c.from_residual.ensures.1 in
    rw (p.1, p.2) (stops_at c.args.text.now _ _ (g.O.Output.written c.read_line.new.output) (place_of c.loop-line.reader)
    c.loop-line.count c.in-Some.line.now c.loop-line.invariant.0 next.0
    c.in_err-read_line.field-0.0 c.loop-line.invariant.2 next.1 c.in_err-read_line.ensures.fault)

pub returns-clause-sent : goal.returns-clause-sent
returns-clause-sent g c =
    let ended = no_item _ _ c.loop-line.line-iterator c.next.new.self c.loop-line.invariant.0 c.loop-line.invariant.1
    c.in-None.ensures.steps in
    all_sent c.args.text.now _ _ (place_of c.loop-line.reader) c.loop-line.count c.loop-line.invariant.0 c.loop-line.invariant.2 ended

pub returns-clause-count : goal.returns-clause-count
returns-clause-count g c =
    let ended = no_item _ _ c.loop-line.line-iterator c.next.new.self c.loop-line.invariant.0 c.loop-line.invariant.1
    c.in-None.ensures.steps in
    all_counted c.args.text.now _ _ (place_of c.loop-line.reader) c.loop-line.count c.loop-line.invariant.0 c.loop-line.invariant.2 ended
