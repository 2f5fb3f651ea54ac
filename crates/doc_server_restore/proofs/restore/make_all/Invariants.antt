use Rattle.std.proofs.Common.{◌≡◌, ◌+◌, drop}
use Rattle.doc_server_restore.specs.RestoreSteps.{line_refused, made_of}
use Rattle.doc_server_restore.proofs.restore.make_all.Given as goal

abbrev pub invariant-loop-event : goal.invariant-loop-event
invariant-loop-event g l = record {
  made : made_of (g.E.Edits.media l.fn.site) (g.E.Edits.store l.fn.site) l.events
      ≡ made_of (g.E.Edits.media l.fn.site) (g.E.Edits.store l.site) (drop l.event-index l.events);
  line : line_refused (g.E.Edits.media l.fn.site) 1 (g.E.Edits.store l.fn.site) l.events
      ≡ line_refused (g.E.Edits.media l.fn.site) (l.number + 1) (g.E.Edits.store l.site) (drop l.event-index l.events);
  media : g.E.Edits.media l.site ≡ g.E.Edits.media l.fn.site;
  number : l.number ≡ l.event-index;
  alike : g.E.Edits.alike l.fn.site l.site;
}
