use Rattle.std.proofs.Common.{refl}
use Rattle.std.specs.Prelude.{Ok, Err}
use Rattle.doc_store.specs.declared.site_edit.SiteEdit.TheVariants as site_edits
use Rattle.doc_server_network.proofs.Following.{edited}
use Rattle.doc_server_network.proofs.saved_hub.following.SavedHubEdits.make_move.Goals as goal

pub returns-in-Ok-clause-alike : goal.returns-in-Ok-clause-alike
returns-in-Ok-clause-alike g c =
    edited (g.R.Renderer.page c.args.self.now.hub.0) (g.R.Renderer.page c.move_page.new.self.0) c.args.self.now
    (record c.args.self.now { hub = c.move_page.new.self }) (site_edits.Move c.args.from.now c.args.to.now) (Ok c.in-Ok.field-0)
    c.move_page.ensures.same refl refl c.in-Ok.ensures.world

pub returns-in-Err-Memory-clause-alike : goal.returns-in-Err-Memory-clause-alike
returns-in-Err-Memory-clause-alike g c =
    edited (g.R.Renderer.page c.args.self.now.hub.0) (g.R.Renderer.page c.move_page.new.self.0) c.args.self.now
    (record c.args.self.now { hub = c.move_page.new.self }) (site_edits.Move c.args.from.now c.args.to.now) (Err c.in-Err-Memory.field-0)
    c.move_page.ensures.same refl refl c.in-Err-Memory.ensures.world

pub returns-in-Err-clause-alike : goal.returns-in-Err-clause-alike
returns-in-Err-clause-alike g c =
    edited (g.R.Renderer.page c.args.self.now.hub.0) (g.R.Renderer.page c.move_page.new.self.0) c.args.self.now
    (record c.args.self.now { hub = c.move_page.new.self }) (site_edits.Move c.args.from.now c.args.to.now) (Err c.in-Err.field-0)
    c.move_page.ensures.same refl refl c.in-Err.ensures.world
