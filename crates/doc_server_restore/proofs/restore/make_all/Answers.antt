use Rattle.doc_server_restore.proofs.restore.make_all.Goals as goal

pub returns-in_err-make-clause-alike : goal.returns-in_err-make-clause-alike
returns-in_err-make-clause-alike g c =
    g.met.E.Edits.alike_behind _ _ _ c.loop-event.invariant.alike c.make.ensures.alike
