use Rattle.std.proofs.Common.{sym, subst}
use Rattle.std.specs.Prelude.{IfOk}
use Rattle.std.proofs.lemmas.Str.{is_utf8-from_IsUtf8}
use Rattle.doc_server_restore.specs.RestoreSteps.{Reads}
use Rattle.doc_server_restore.proofs.RecordSteps.{text_bad, text_read}
use Rattle.doc_server_restore.proofs.record.edits_of.Goals as goal

pub returns-in-Ok : goal.returns-in-Ok
returns-in-Ok c =
    subst (λ given. IfOk c.edits_in.result (λ events. Reads given events))
    (sym (text_read c.args.text.now c.in-Ok.script.now (is_utf8-from_IsUtf8 c.args.text.now c.in-Ok.ensures.cases.1)
    c.in-Ok.ensures.cases.0)) c.edits_in.ensures

pub returns-in-Err : goal.returns-in-Err
returns-in-Err c = text_bad c.args.text.now c.in-Err.ensures.cases.0
