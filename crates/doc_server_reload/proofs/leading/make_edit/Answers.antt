use Rattle.std.proofs.Common.{◌∙◌, ap, sym, refl}
use Rattle.doc_store.specs.declared.site_edit.SiteEdit.TheVariants as site_edits
use Rattle.doc_hub_events.specs.declared.event.Event.TheVariants as events
use Rattle.doc_server_reload.proofs.LeadingSteps.{leaves_so}
use Rattle.doc_server_reload.proofs.leading.make_edit.Goals as goal

pub returns-in-Put-clause-world : goal.returns-in-Put-clause-world
returns-in-Put-clause-world g c =
    leaves_so (g.R.Renderer.page c.args.hub.now.0) c.args.hub.now.1 (events.Site c.args.edit.now) (events.Site (site_edits.Put
    c.in-Put.path c.in-Put.groups c.get.result.now))
    c.put_page.new.self.1 _ c.put_page.result (ap (events.Site) (c.in-Put.is
    ∙ ap (site_edits.Put c.in-Put.path c.in-Put.groups) (sym c.get.ensures))) c.put_page.ensures.world c.from.ensures

pub returns-in-Remove-clause-world : goal.returns-in-Remove-clause-world
returns-in-Remove-clause-world g c =
    leaves_so (g.R.Renderer.page c.args.hub.now.0) c.args.hub.now.1 (events.Site c.args.edit.now) (events.Site
    (site_edits.Remove c.in-Remove.path))
    c.remove_page.new.self.1 _ c.remove_page.result (ap (events.Site) (c.in-Remove.is)) c.remove_page.ensures.world refl

pub returns-in-Move-clause-world : goal.returns-in-Move-clause-world
returns-in-Move-clause-world g c =
    leaves_so (g.R.Renderer.page c.args.hub.now.0) c.args.hub.now.1 (events.Site c.args.edit.now) (events.Site (site_edits.Move
    c.in-Move.from c.in-Move.to))
    c.move_page.new.self.1 _ c.move_page.result (ap (events.Site) (c.in-Move.is)) c.move_page.ensures.world c.from-in-Move.ensures
