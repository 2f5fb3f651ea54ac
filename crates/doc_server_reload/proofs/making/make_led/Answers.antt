use Rattle.doc_server_reload.proofs.making.make_led.Goals as goal

pub returns-in_err-make_edit-clause-alike : goal.returns-in_err-make_edit-clause-alike
returns-in_err-make_edit-clause-alike g c =
    g.met.E.Edits.alike_behind _ _ _ c.loop-edit.invariant.alike c.make_edit.ensures.alike
