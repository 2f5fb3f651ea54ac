use Rattle.std.proofs.Common.{refl}
use Rattle.doc_store.specs.declared.site_edit.SiteEdit.TheVariants as site_edits
use Rattle.doc_server_network.proofs.Following.{edited}
use Rattle.doc_server_network.proofs.saved_hub.following.SavedHubEdits.make_remove.Goals as goal

pub returns-clause-alike : goal.returns-clause-alike
returns-clause-alike g c =
    edited (g.R.Renderer.page c.args.self.now.hub.0) (g.R.Renderer.page c.remove_page.new.self.0) c.args.self.now
    (record c.args.self.now { hub = c.remove_page.new.self }) (site_edits.Remove c.args.path.now) c.remove_page.result
    c.remove_page.ensures.same refl refl c.remove_page.ensures.world
