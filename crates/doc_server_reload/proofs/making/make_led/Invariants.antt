use Rattle.std.proofs.Common.{◌≡◌, drop}
use Rattle.doc_server_restore.specs.Restores.{all_made}
use Rattle.doc_server_reload.proofs.making.make_led.Given as goal

-- what is left makes of the site so far what all makes of the site before
abbrev pub invariant-loop-edit : goal.invariant-loop-edit
invariant-loop-edit g l = record {
  made : all_made (g.E.Edits.media l.fn.site) (g.E.Edits.store l.fn.site) l.edits
      ≡ all_made (g.E.Edits.media l.fn.site) (g.E.Edits.store l.site) (drop l.edit-index l.edits);
  media : g.E.Edits.media l.site ≡ g.E.Edits.media l.fn.site;
  alike : g.E.Edits.alike l.fn.site l.site;
}
