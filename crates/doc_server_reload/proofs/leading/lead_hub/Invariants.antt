use Rattle.std.proofs.Common.{◌≡◌, drop}
use Rattle.doc_hub.specs.Worlds.{World, store_of}
use Rattle.doc_server_restore.specs.Restores.{all_made}
use Rattle.doc_server_reload.specs.Leading.{LeadsByEdits}
use Rattle.doc_server_reload.proofs.leading.lead_hub.Given as goal

-- a run from here on is one from the beginning, and what is left makes of the store so far what all makes of the one before
abbrev pub invariant-loop-edit : goal.invariant-loop-edit
invariant-loop-edit g l = record {
  runs : (v : World) → LeadsByEdits (g.R.Renderer.page l.fn.hub.0) l.edits l.hub.1 v
      → LeadsByEdits (g.R.Renderer.page l.fn.hub.0) l.edits l.fn.hub.1 v;
  made : all_made l.fn.hub.1.media (store_of l.fn.hub.1) l.edits
      ≡ all_made l.fn.hub.1.media (store_of l.hub.1) (drop l.edit-index l.edits);
  media : l.hub.1.media ≡ l.fn.hub.1.media;
  same : g.R.Renderer.page l.hub.0 ≡ g.R.Renderer.page l.fn.hub.0;
}
