use Rattle.std.proofs.Common.{ℕ}
use Rattle.std.proofs.lemmas.Result.{err_from_is_err_and}
use Rattle.std.proofs.lemmas.Str.{IsUtf8-string_bytes}
use Rattle.std.specs.Prelude.{string_bytes}
use Rattle.std.specs.Io.KnownBytes.{Appends}
use Rattle.doc_server_streams.specs.Faults.{IsNoText}
use Rattle.doc_server.proofs.ReplaySteps.{replayed}
use Rattle.doc_server.proofs.StopSteps.{site_stops, site_reads, site_writes, unread_stops, unread_writes, replay_stops, stop_reads}
use Rattle.doc_server.proofs.replay.replay.Goals as goal

pub returns-in_err-hub-clause-fault : goal.returns-in_err-hub-clause-fault
returns-in_err-hub-clause-fault g c =
    let p = err_from_is_err_and c.from_residual.result c.from_residual.ensures.1 in
    rw (p.1, p.2) (site_stops c.args.config c.args.texts.now c.in_err-hub.field-0.0 c.in_err-hub.ensures.fault
    (g.R.Renderer.page c.args.renderer) (g.I.Input.unread c.args.input.now) (g.O.Output.written c.args.output.now))

pub returns-in_err-hub-clause-reads : goal.returns-in_err-hub-clause-reads
returns-in_err-hub-clause-reads g c =
    let p = err_from_is_err_and c.from_residual.result c.from_residual.ensures.1 in
    rw (p.1, p.2) (site_reads c.args.config c.args.texts.now c.in_err-hub.field-0.0 c.in_err-hub.ensures.fault ℕ
    (IsNoText (g.I.Input.unread c.args.input.now)) (g.I.Input.failed c.args.input.now))

pub returns-in_err-hub-clause-writes : goal.returns-in_err-hub-clause-writes
returns-in_err-hub-clause-writes g c =
    let p = err_from_is_err_and c.from_residual.result c.from_residual.ensures.1 in
    rw (p.1, p.2) (site_writes c.args.config c.args.texts.now c.in_err-hub.field-0.0 c.in_err-hub.ensures.fault ℕ
    (g.O.Output.failed c.args.output.now))

pub returns-in_err-script-clause-fault : goal.returns-in_err-script-clause-fault
returns-in_err-script-clause-fault g c =
    let p = err_from_is_err_and c.from_residual-in_err-script.result c.from_residual-in_err-script.ensures.1 in
    rw (p.1, p.2) (unread_stops (g.R.Renderer.page c.args.renderer) c.args.config c.args.texts.now c.in_ok-hub.hub.1
    (g.I.Input.unread c.args.input.now) (g.O.Output.written c.args.output.now) c.in_err-script.field-0.0 c.in_ok-hub.ensures.world
    c.in_err-script.ensures.fault)

pub returns-in_err-script-clause-writes : goal.returns-in_err-script-clause-writes
returns-in_err-script-clause-writes g c =
    let p = err_from_is_err_and c.from_residual-in_err-script.result c.from_residual-in_err-script.ensures.1 in
    rw (p.1, p.2) (unread_writes ℕ (g.O.Output.failed c.args.output.now) _ c.in_err-script.field-0.0 c.in_err-script.ensures.fault)

pub returns-in_err-run_script-clause-fault : goal.returns-in_err-run_script-clause-fault
returns-in_err-run_script-clause-fault g c =
    let p = err_from_is_err_and c.from_residual-in_err-run_script.result c.from_residual-in_err-run_script.ensures.1 in
    rw (p.1, p.2) (replay_stops (g.R.Renderer.page c.args.renderer) (g.R.Renderer.page c.in_ok-hub.hub.0) c.args.config c.args.texts.now
    (g.I.Input.unread c.args.input.now) (string_bytes c.in_ok-script.script) c.deref.result.now c.in_ok-hub.hub.1
    (g.O.Output.written c.args.output.now) (g.O.Output.written c.run_script.new.output) c.in_ok-hub.ensures.same c.in_ok-hub.ensures.world
    c.in_ok-script.ensures.text (IsUtf8-string_bytes c.in_ok-script.script) c.deref.ensures c.in_err-run_script.field-0.0
    c.in_err-run_script.ensures.fault)

pub returns-in_err-run_script-clause-reads : goal.returns-in_err-run_script-clause-reads
returns-in_err-run_script-clause-reads g c =
    let p = err_from_is_err_and c.from_residual-in_err-run_script.result c.from_residual-in_err-run_script.ensures.1 in
    rw (p.1, p.2) (stop_reads ℕ (IsNoText (g.I.Input.unread c.args.input.now)) _ _ (g.R.Renderer.page c.in_ok-hub.hub.0)
    c.in_ok-hub.hub.1 c.deref.result.now (g.O.Output.written c.args.output.now) (g.O.Output.written c.run_script.new.output)
    c.in_err-run_script.field-0.0 c.in_ok-script.ensures.reads c.in_err-run_script.ensures.fault)

pub returns-in_err-run_script-clause-writes : goal.returns-in_err-run_script-clause-writes
returns-in_err-run_script-clause-writes g c =
    let p = err_from_is_err_and c.from_residual-in_err-run_script.result c.from_residual-in_err-run_script.ensures.1 in
    rw (p.1, p.2) c.in_err-run_script.ensures.writes

pub returns-clause-sent : goal.returns-clause-sent
returns-clause-sent g c =
    replayed (g.R.Renderer.page c.args.renderer) (g.R.Renderer.page c.in_ok-hub.hub.0) c.args.config c.args.texts.now
    (g.I.Input.unread c.args.input.now) (string_bytes c.in_ok-script.script) c.deref.result.now c.in_ok-hub.hub.1
    (Appends (g.O.Output.written c.args.output.now) (g.O.Output.written c.run_script.new.output)) c.in_ok-hub.ensures.same
    c.in_ok-hub.ensures.world c.in_ok-script.ensures.text (IsUtf8-string_bytes c.in_ok-script.script) c.deref.ensures
    c.in_ok-run_script.ensures.sent
