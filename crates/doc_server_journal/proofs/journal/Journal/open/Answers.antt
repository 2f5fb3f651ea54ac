use Rattle.doc_server_journal.proofs.OpeningLemmas.{gate_is, its_texts, is_open}
use Rattle.doc_server_journal.proofs.journal.Journal.open.Goals as goal

pub returns-in-Ok-clause-opened : goal.returns-in-Ok-clause-opened
returns-in-Ok-clause-opened g c = λ behind.
    let found = c.in-Ok.field-0.found in
    let here = gate_is (g.D.Device.stale c.args.device) c.in-Ok.ensures.found.0 found
    c.in-Ok.ensures.found.1 behind in
    is_open g.D.Device.seen g.D.Device.may_leave g.D.Device.failed g.D.Device.stale c.recover.new.device c.in-Ok.ensures.found.0 found
    c.in-Ok.field-0.room c.in-Ok.ensures.found.1 c.in-Ok.ensures.found.3 (c.in-Ok.ensures.durable here) (c.in-Ok.ensures.fresh here)
    c.in-Ok.ensures.usable c.in-Ok.ensures.room c.in-Ok.ensures.fits

pub returns-in-Ok-clause-texts : goal.returns-in-Ok-clause-texts
returns-in-Ok-clause-texts g c =
    its_texts (g.D.Device.seen c.args.device) c.in-Ok.ensures.found.0 c.in-Ok.field-0.found c.in-Ok.ensures.found.1 c.in-Ok.ensures.found.2
