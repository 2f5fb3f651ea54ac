use Rattle.doc_server_network.proofs.Following.{no_edits}
use Rattle.doc_server_network.proofs.saved_hub.SavedHub.follow.Goals as goal

pub returns-then-is_some-clause-edits : goal.returns-then-is_some-clause-edits
returns-then-is_some-clause-edits g c = no_edits (g.R.Renderer.page c.args.self.now.hub.0) c.args.self.now.hub.1
