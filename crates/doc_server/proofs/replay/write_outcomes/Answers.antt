use Rattle.std.proofs.Common.{◌+◌, ◌∷◌, drop, arith, ap, sym, ◌∙◌}
use Rattle.std.proofs.lemmas.List.{drop_more}
use Rattle.std.proofs.lemmas.Result.{err_from_is_err_and}
use Rattle.doc_server.proofs.ReplaySteps.{line_sent, line_cut, line_unmade}
use Rattle.doc_server.proofs.replay.write_outcomes.Goals as goal

pub loop-outcome-preserved : goal.loop-outcome-preserved
loop-outcome-preserved g c =
    let i = c.loop-outcome.outcome-index in
    let all = c.args.outcomes.now in
    let outcome = c.outcome-item.result in
    let first = drop_more all i outcome (omega arith) ∙ ap (λ o. o ∷ drop (i + 1) all) (sym c.outcome-item.is) in
    record {
      sent = line_sent (g.O.Output.written c.args.output.now) (g.O.Output.written c.loop-outcome.output)
          (g.O.Output.written c.send.new.output) all (drop i all) (drop (i + 1) all) outcome c.as_bytes.result.now
          c.loop-outcome.invariant.sent first (c.as_bytes.ensures.value ∙ c.in_ok-line.ensures) c.in_ok-send.ensures.sent;
      writes = c.in_ok-send.ensures.writes ∙ c.loop-outcome.invariant.writes;
    }

pub returns-in_err-line-clause-fault : goal.returns-in_err-line-clause-fault
returns-in_err-line-clause-fault g c =
    let p = err_from_is_err_and c.from_residual.result c.from_residual.ensures.1 in
    rw (p.1) (line_unmade _ _ _ _ _ c.loop-outcome.invariant.sent p.2)

pub returns-in_err-send-clause-fault : goal.returns-in_err-send-clause-fault
returns-in_err-send-clause-fault g c =
    let i = c.loop-outcome.outcome-index in
    let all = c.args.outcomes.now in
    let outcome = c.outcome-item.result in
    let first = drop_more all i outcome (omega arith) ∙ ap (λ o. o ∷ drop (i + 1) all) (sym c.outcome-item.is) in
    let p = err_from_is_err_and c.from_residual-in_err-send.result c.from_residual-in_err-send.ensures.1 in
    rw (p.1, p.2) (line_cut _ _ _ all (drop i all) (drop (i + 1) all) outcome c.as_bytes.result.now c.in_err-send.field-0.0
    c.loop-outcome.invariant.sent first (c.as_bytes.ensures.value ∙ c.in_ok-line.ensures) c.in_err-send.ensures.fault
    c.in_err-send.ensures.cut)
