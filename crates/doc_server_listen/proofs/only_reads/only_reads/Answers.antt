use Rattle.doc_server_listen.proofs.OnlyReads.{begins_so}
use Rattle.doc_server_listen.proofs.only_reads.only_reads.Goals as goal

pub returns-in-Ok : goal.returns-in-Ok
returns-in-Ok c reads = begins_so c.args.unread.now c.in-Ok.next c.in-Ok.ensures.found (c.reads_only.ensures reads)
