use Rattle.std.proofs.lemmas.Result.{err_from_is_err_and}
use Rattle.std.specs.Prelude.{Some}
use Rattle.std.specs.Io.KnownBytes.{Appends}
use Rattle.doc_hub.specs.Worlds.{world_pushed}
use Rattle.doc_server.specs.Demo.{StepsToEnd, StopsDemo}
use Rattle.doc_server.specs.DemoSteps.{StopsReplies}
use Rattle.doc_server.proofs.Opening.{opened, stopped}
use Rattle.doc_server_streams.specs.InputSteps.{IsRead}
use Rattle.doc_server.proofs.ReadCounts.{call_reads, replies_read}
use Rattle.doc_server_streams.proofs.Results.{then_ok, then_err}
use Rattle.doc_server.proofs.Stops.{stop_connect, stop_push, made_after_push}
use Rattle.doc_server.proofs.demo.answer_all.Goals as goal

pub write_replies-requires : goal.write_replies-requires
write_replies-requires g c = record {
  made = made_after_push c.connect.new.hub.1 c.push.new.hub.1 c.in_ok-id.id.0 c.args.bytes.now
      c.in_ok-push.ensures.world;
}

pub returns-clause-sent : goal.returns-clause-sent
returns-clause-sent g c =
    then_ok c.write_replies.result
    (opened (g.R.Renderer.page c.args.hub.now.0) c.connect.new.hub.1 c.push.new.hub.1 c.args.bytes.now StepsToEnd
    (Appends (g.O.Output.written c.args.output.now) (g.O.Output.written c.write_replies.new.output))
    (g.R.Renderer.page c.connect.new.hub.0) (g.R.Renderer.page c.push.new.hub.0) c.args.hub.now.1 c.write_replies.new.hub.1 c.in_ok-id.id
    c.connect.ensures.same c.push.ensures.same c.requires.world c.in_ok-id.ensures.world c.in_ok-push.ensures.world)
    c.write_replies.ensures.sent

pub returns-clause-fault : goal.returns-clause-fault
returns-clause-fault g c =
    then_err
    (StopsReplies (g.R.Renderer.page c.push.new.hub.0) c.push.new.hub.1 c.in_ok-id.id.0 (g.O.Output.written c.args.output.now)
    (g.O.Output.written c.write_replies.new.output))
    (StopsDemo (g.R.Renderer.page c.args.hub.now.0) (Some c.args.bytes.now) (g.O.Output.written c.args.output.now)
    (g.O.Output.written c.write_replies.new.output))
    c.write_replies.result
    (λ fault. stopped (g.R.Renderer.page c.args.hub.now.0) (g.R.Renderer.page c.connect.new.hub.0) (g.R.Renderer.page c.push.new.hub.0)
    c.args.hub.now.1 c.connect.new.hub.1 c.push.new.hub.1 c.in_ok-id.id c.args.bytes.now
    (g.O.Output.written c.args.output.now) (g.O.Output.written c.write_replies.new.output) fault
    c.connect.ensures.same c.push.ensures.same c.requires.world c.in_ok-id.ensures.world c.in_ok-push.ensures.world)
    c.write_replies.ensures.fault

pub returns-in_err-id-clause-fault : goal.returns-in_err-id-clause-fault
returns-in_err-id-clause-fault g c =
    let p = err_from_is_err_and c.from_residual.result c.from_residual.ensures.1 in
    rw (p.1, p.2) (stop_connect (g.R.Renderer.page c.args.hub.now.0) c.args.hub.now.1 (Some c.args.bytes.now)
    (g.O.Output.written c.args.output.now) c.in_err-id.field-0.0 c.requires.world c.in_err-id.ensures.fault)

pub returns-in_err-push-clause-fault : goal.returns-in_err-push-clause-fault
returns-in_err-push-clause-fault g c =
    let p = err_from_is_err_and c.from_residual-in_err-push.result c.from_residual-in_err-push.ensures.1 in
    rw (p.1, p.2) (stop_push (g.R.Renderer.page c.args.hub.now.0) c.args.hub.now.1 c.connect.new.hub.1 c.in_ok-id.id c.args.bytes.now
    (g.O.Output.written c.args.output.now) c.in_err-push.field-0.0 c.requires.world c.in_ok-id.ensures.world
    c.in_err-push.ensures.fault)

pub returns-in_err-id-clause-read : goal.returns-in_err-id-clause-read
returns-in_err-id-clause-read g c =
    let p = err_from_is_err_and c.from_residual.result c.from_residual.ensures.1 in
    rw (p.1, p.2) (call_reads _ c.in_err-id.field-0.0 c.in_err-id.ensures.fault)

pub returns-in_err-push-clause-read : goal.returns-in_err-push-clause-read
returns-in_err-push-clause-read g c =
    let p = err_from_is_err_and c.from_residual-in_err-push.result c.from_residual-in_err-push.ensures.1 in
    rw (p.1, p.2) (call_reads (world_pushed c.connect.new.hub.1 c.in_ok-id.id.0 c.args.bytes.now).1 c.in_err-push.field-0.0
    c.in_err-push.ensures.fault)

pub returns-clause-read : goal.returns-clause-read
returns-clause-read g c =
    then_err
    (StopsReplies (g.R.Renderer.page c.push.new.hub.0) c.push.new.hub.1 c.in_ok-id.id.0 (g.O.Output.written c.args.output.now)
    (g.O.Output.written c.write_replies.new.output))
    IsRead c.write_replies.result
    (replies_read (g.R.Renderer.page c.push.new.hub.0) c.push.new.hub.1 c.in_ok-id.id.0 (g.O.Output.written c.args.output.now)
    (g.O.Output.written c.write_replies.new.output))
    c.write_replies.ensures.fault
