use Rattle.std.proofs.Common.{◌≡◌, drop}
use Rattle.doc_server_restore.specs.Restores.{all_made}
use Rattle.doc_server_files.specs.Moving.{edits_of_moves}
use Rattle.doc_server_files.proofs.moving.make_moves.Given as goal

-- the moves so far are made
abbrev pub invariant-loop-one : goal.invariant-loop-one
invariant-loop-one g l = record {
  made : all_made (g.E.Edits.media l.fn.site) (g.E.Edits.store l.fn.site) (edits_of_moves l.moves)
      ≡ all_made (g.E.Edits.media l.fn.site) (g.E.Edits.store l.site) (edits_of_moves (drop l.one-index l.moves));
  media : g.E.Edits.media l.site ≡ g.E.Edits.media l.fn.site;
  alike : g.E.Edits.alike l.fn.site l.site;
}
