use Rattle.std.proofs.Common.{◌≡◌, sym, subst}
use Rattle.std.specs.Prelude.{IfSome, Some}
use Rattle.std.specs.Io.KnownBytes.{Appends}
use Rattle.doc_server.specs.Demo.{StepsToEnd, StopsDemo}
use Rattle.std.proofs.lemmas.Result.{err_from_is_err_and}
use Rattle.doc_server.proofs.Opening.{of_all, stops_of_all}
use Rattle.doc_server.proofs.ReadCounts.{never_given_up, read_before}
use Rattle.doc_server_streams.proofs.Results.{then_ok, then_err}
use Rattle.doc_server.proofs.UnreadSteps.{unread_stops, unread_writes}
use Rattle.doc_server.proofs.demo.demo.Goals as goal

pub returns-clause-sent : goal.returns-clause-sent
returns-clause-sent g c =
    then_ok c.answer_all.result
    (of_all (g.R.Renderer.page c.args.renderer) (g.R.Renderer.page c.in_ok-hub.hub.0) c.deref.result.now
    (g.I.Input.unread c.args.input.now) (StepsToEnd 1)
    (Appends (g.O.Output.written c.args.output.now) (g.O.Output.written c.answer_all.new.output))
    c.in_ok-hub.ensures.same
    (subst (λ bytes. IfSome (g.I.Input.unread c.args.input.now) (λ left. bytes ≡ left)) (sym c.deref.ensures.value)
    c.in_ok-bytes.ensures.bytes))
    c.answer_all.ensures.sent

pub returns-clause-fault : goal.returns-clause-fault
returns-clause-fault g c =
    then_err
    (StopsDemo (g.R.Renderer.page c.in_ok-hub.hub.0) (Some c.deref.result.now) (g.O.Output.written c.args.output.now)
    (g.O.Output.written c.answer_all.new.output))
    (StopsDemo (g.R.Renderer.page c.args.renderer) (g.I.Input.unread c.args.input.now) (g.O.Output.written c.args.output.now)
    (g.O.Output.written c.answer_all.new.output))
    c.answer_all.result
    (λ fault. stops_of_all (g.R.Renderer.page c.args.renderer) (g.R.Renderer.page c.in_ok-hub.hub.0) c.deref.result.now
    (g.I.Input.unread c.args.input.now)
    (g.O.Output.written c.args.output.now) (g.O.Output.written c.answer_all.new.output) fault
    c.in_ok-hub.ensures.same
    (subst (λ bytes. IfSome (g.I.Input.unread c.args.input.now) (λ left. bytes ≡ left)) (sym c.deref.ensures.value)
    c.in_ok-bytes.ensures.bytes))
    c.answer_all.ensures.fault

pub returns-in_err-bytes-clause-reads : goal.returns-in_err-bytes-clause-reads
returns-in_err-bytes-clause-reads g c =
    let p = err_from_is_err_and c.from_residual-in_err-bytes.result c.from_residual-in_err-bytes.ensures.1 in
    rw (p.1, p.2) (never_given_up (g.I.Input.unread c.args.input.now) _ _ c.in_err-bytes.field-0.0 c.in_err-bytes.ensures.reads)

pub returns-clause-reads : goal.returns-clause-reads
returns-clause-reads g c = read_before c.answer_all.result _ _ c.in_ok-bytes.ensures.reads c.answer_all.ensures.read

pub returns-in_err-bytes-clause-fault : goal.returns-in_err-bytes-clause-fault
returns-in_err-bytes-clause-fault g c =
    let p = err_from_is_err_and c.from_residual-in_err-bytes.result c.from_residual-in_err-bytes.ensures.1 in
    rw (p.1, p.2) (unread_stops (g.R.Renderer.page c.args.renderer) (g.I.Input.unread c.args.input.now)
    (g.O.Output.written c.args.output.now) c.in_err-bytes.field-0.0 c.in_err-bytes.ensures.fault)

pub returns-in_err-bytes-clause-writes : goal.returns-in_err-bytes-clause-writes
returns-in_err-bytes-clause-writes g c =
    let p = err_from_is_err_and c.from_residual-in_err-bytes.result c.from_residual-in_err-bytes.ensures.1 in
    rw (p.1, p.2) (unread_writes (g.O.Output.failed c.args.output.now) _ _ (g.I.Input.unread c.args.input.now) c.in_err-bytes.field-0.0
    c.in_err-bytes.ensures.fault)
