use Rattle.std.proofs.lemmas.Result.{err_from_is_err_and}
use Rattle.doc_server.proofs.StopSteps.{script_bad, bad_writes, told_in_part, told_whole, told_unflushed}
use Rattle.doc_server.proofs.replay.run_script.Goals as goal

pub returns-in_err-events-clause-fault : goal.returns-in_err-events-clause-fault
returns-in_err-events-clause-fault g c =
    let p = err_from_is_err_and c.from_residual.result c.from_residual.ensures.1 in
    rw (p.1, p.2) (script_bad (g.R.Renderer.page c.args.hub.now.0) c.args.hub.now.1 c.args.script.now
    (g.O.Output.written c.args.output.now) c.in_err-events.field-0.0 c.in_err-events.ensures.fault)

pub returns-in_err-events-clause-writes : goal.returns-in_err-events-clause-writes
returns-in_err-events-clause-writes g c =
    let p = err_from_is_err_and c.from_residual.result c.from_residual.ensures.1 in
    rw (p.1, p.2) (bad_writes (Unit {0}) c.args.script.now (g.O.Output.failed c.args.output.now) c.in_err-events.field-0.0
    c.in_err-events.ensures.fault)

pub returns-in_err-write_outcomes-clause-fault : goal.returns-in_err-write_outcomes-clause-fault
returns-in_err-write_outcomes-clause-fault g c =
    let p = err_from_is_err_and c.from_residual-in_err-write_outcomes.result c.from_residual-in_err-write_outcomes.ensures.1 in
    rw (p.1, p.2) (told_in_part (g.R.Renderer.page c.args.hub.now.0) c.args.hub.now.1 c.run.new.self.1 c.args.script.now
    c.in_ok-events.events c.get.result.now c.in_ok-outcomes.outcomes c.get-2.result.now (g.O.Output.written c.args.output.now)
    (g.O.Output.written c.write_outcomes.new.output) c.in_err-write_outcomes.field-0.0 c.in_ok-events.ensures.read c.get.ensures
    c.in_ok-outcomes.ensures.world c.get-2.ensures c.in_err-write_outcomes.ensures.fault)

pub returns-clause-sent : goal.returns-clause-sent
returns-clause-sent g c =
    told_whole (g.R.Renderer.page c.args.hub.now.0) c.args.hub.now.1 c.run.new.self.1 c.args.script.now c.in_ok-events.events
    c.get.result.now c.in_ok-outcomes.outcomes c.get-2.result.now (g.O.Output.written c.args.output.now)
    (g.O.Output.written c.write_outcomes.new.output) (g.O.Output.written c.flush.new.output) c.flush.result c.in_ok-events.ensures.read
    c.get.ensures c.in_ok-outcomes.ensures.world c.get-2.ensures c.in_ok-write_outcomes.ensures.sent c.flush.ensures.same

pub returns-clause-fault : goal.returns-clause-fault
returns-clause-fault g c =
    told_unflushed (g.R.Renderer.page c.args.hub.now.0) c.args.hub.now.1 c.run.new.self.1 c.args.script.now c.in_ok-events.events
    c.get.result.now c.in_ok-outcomes.outcomes c.get-2.result.now (g.O.Output.written c.args.output.now)
    (g.O.Output.written c.write_outcomes.new.output) (g.O.Output.written c.flush.new.output) c.flush.result c.in_ok-events.ensures.read
    c.get.ensures c.in_ok-outcomes.ensures.world c.get-2.ensures c.in_ok-write_outcomes.ensures.sent c.flush.ensures.same
    c.flush.ensures.fault
