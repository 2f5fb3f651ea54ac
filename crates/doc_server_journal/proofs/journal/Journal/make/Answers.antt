use Rattle.doc_server_journal.proofs.OpeningLemmas.{is_made}
use Rattle.doc_server_journal.proofs.journal.Journal.make.Goals as goal

pub returns-in-Ok : goal.returns-in-Ok
returns-in-Ok g c =
    is_made g.D.Device.seen g.D.Device.may_leave g.D.Device.failed g.D.Device.stale c.begin.new.device c.args.identity.now _ _
    c.header-header.ensures.identity
    c.header-header.ensures.bytes (c.seed_of.ensures c.args.identity.now c.header-header.ensures.bytes) c.in-Ok.ensures.file
    c.in-Ok.ensures.durable c.in-Ok.ensures.fresh c.in-Ok.ensures.usable
