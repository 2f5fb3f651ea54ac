use Rattle.std.proofs.Common.{ap, sym, ◌∙◌}
use Rattle.std.specs.List.{list_all}
use Rattle.doc_server_script.specs.Scripts.{events_of}
use Rattle.doc_server_restore.specs.RestoreSteps.{is_edit}
use Rattle.doc_server_restore.proofs.RecordSteps.{script_bad, script_read}
use Rattle.doc_server_restore.proofs.record.edits_in.Goals as goal

pub returns-then-not-are_edits : goal.returns-then-not-are_edits
returns-then-not-are_edits c =
    script_bad (events_of c.args.script.now) c.in-Ok.events c.in-Ok.ensures.read
    (ap (list_all is_edit) (sym c.get.ensures) ∙ sym c.are_edits.ensures ∙ c.if-not-are_edits.true)

pub returns : goal.returns
returns c =
    script_read (events_of c.args.script.now) c.in-Ok.events c.in-Ok.ensures.read
    (ap (list_all is_edit) (sym c.get.ensures) ∙ sym c.are_edits.ensures ∙ c.if-not-are_edits.false)
