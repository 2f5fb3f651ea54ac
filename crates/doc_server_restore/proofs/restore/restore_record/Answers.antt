use Rattle.std.proofs.Common.{subst}
use Rattle.doc_server_restore.specs.Restores.{edits_of}
use Rattle.doc_server_restore.specs.RestoreSteps.{Reads, line_refused, made_of}
use Rattle.doc_server_restore.proofs.RecordSteps.{record_made, record_refused, told_none, told_some}
use Rattle.doc_server_restore.proofs.restore.restore_record.Goals as goal

pub returns-in-Some-2-clause-fault : goal.returns-in-Some-2-clause-fault
returns-in-Some-2-clause-fault g c =
    let media = g.E.Edits.media c.args.site.now in
    let store = g.E.Edits.store c.args.site.now in
    let next = g.E.Edits.store c.make_all.new.site in
    let given = edits_of c.args.text.now in
    let events = c.get.result.now in
    let refused = told_none c.in_ok-line.field-0 c.in-Some-2.line (made_of media store events) (line_refused media 1 store events) next
    c.in_ok-line.ensures.made c.in-Some-2.is in
    λ _. record_refused media store c.args.number c.in-Some-2.line given c.in-Some.events events
    (subst (Reads given) c.in-Some.is c.in_ok-events.ensures) c.get.ensures refused.0 refused.1

pub returns-clause-restored : goal.returns-clause-restored
returns-clause-restored g c =
    let media = g.E.Edits.media c.args.site.now in
    let store = g.E.Edits.store c.args.site.now in
    let next = g.E.Edits.store c.make_all.new.site in
    let given = edits_of c.args.text.now in
    let events = c.get.result.now in
    record_made media store next c.args.number given c.in-Some.events events
    (subst (Reads given) c.in-Some.is c.in_ok-events.ensures) c.get.ensures
    (told_some c.in_ok-line.field-0 (made_of media store events) (line_refused media 1 store events) next c.in_ok-line.ensures.made
    c.in_default-2.is)
