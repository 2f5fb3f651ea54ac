use Rattle.doc_server_compacting.proofs.Written.{written_gives}
use Rattle.doc_server_compacting.proofs.writing.write_journal.Goals as goal

pub returns-clause-written : goal.returns-clause-written
returns-clause-written g c =
    let is = c.in_ok-journal.ensures in (
      is.records,
      c.in_ok-make_reserve.ensures.open is.records is.is_open,
      (
        is.lines,
        λ of_config of_site. written_gives g.D.Device.seen g.D.Device.may_leave g.D.Device.failed g.D.Device.stale c.in_ok-journal.journal
            c.args.config.now c.args.site.now.site c.a_compaction_is_restored.ensures is c.in_ok-has_stamps.ensures of_config of_site,
      ),
    )
