use Rattle.std.proofs.Common.{◌≡◌, ◌+◌, drop}
use Rattle.doc_server_restore.specs.Restores.{restored_from}
use Rattle.doc_server_restore.proofs.restore.restore_all.Given as goal

abbrev pub invariant-loop-record : goal.invariant-loop-record
invariant-loop-record g l = record {
  restored : restored_from (g.E.Edits.media l.fn.site) 1 (g.E.Edits.store l.fn.site) l.records
      ≡ restored_from (g.E.Edits.media l.fn.site) (l.number + 1) (g.E.Edits.store l.site) (drop l.record-index l.records);
  media : g.E.Edits.media l.site ≡ g.E.Edits.media l.fn.site;
  number : l.number ≡ l.record-index;
  alike : g.E.Edits.alike l.fn.site l.site;
}
