use Rattle.std.proofs.Common.{◌∙◌, ap, sym, refl}
use Rattle.doc_store.specs.declared.site_edit.SiteEdit.TheVariants as site_edits
use Rattle.doc_hub_events.specs.declared.event.Event.TheVariants as events
use Rattle.doc_hub.proofs.CountSteps.{counted_so}
use Rattle.doc_hub.proofs.RunSteps.{leaves_so}
use Rattle.doc_hub.proofs.hub.Hub.edit_site.Goals as goal

pub returns-in-Put-clause-world : goal.returns-in-Put-clause-world
returns-in-Put-clause-world g c =
    leaves_so (g.R.Renderer.page c.args.self.now.0) c.args.self.now.1 (events.Site c.args.edit.now) (events.Site (site_edits.Put
    c.in-Put.path c.in-Put.groups c.get.result.now))
    c.put_page.new.self.1 _ c.put_page.result (ap (events.Site) (c.in-Put.is
    ∙ ap (site_edits.Put c.in-Put.path c.in-Put.groups) (sym c.get.ensures))) c.put_page.ensures.world c.from.ensures

pub returns-in-Remove-clause-world : goal.returns-in-Remove-clause-world
returns-in-Remove-clause-world g c =
    leaves_so (g.R.Renderer.page c.args.self.now.0) c.args.self.now.1 (events.Site c.args.edit.now) (events.Site
    (site_edits.Remove c.in-Remove.path))
    c.remove_page.new.self.1 _ c.remove_page.result (ap (events.Site) (c.in-Remove.is)) c.remove_page.ensures.world refl

pub returns-in-Move-clause-world : goal.returns-in-Move-clause-world
returns-in-Move-clause-world g c =
    leaves_so (g.R.Renderer.page c.args.self.now.0) c.args.self.now.1 (events.Site c.args.edit.now) (events.Site (site_edits.Move
    c.in-Move.from c.in-Move.to))
    c.move_page.new.self.1 _ c.move_page.result (ap (events.Site) (c.in-Move.is)) c.move_page.ensures.world c.from-in-Move.ensures

pub returns-in-Put-clause-counted : goal.returns-in-Put-clause-counted
returns-in-Put-clause-counted g c =
    counted_so (g.R.Renderer.page c.args.self.now.0) (g.R.Renderer.count c.args.self.now.0)
    (g.R.Renderer.count c.put_page.new.self.0) c.args.self.now.1 c.put_page.new.self.1
    (events.Site c.args.edit.now) (events.Site (site_edits.Put c.in-Put.path c.in-Put.groups c.get.result.now)) _ c.put_page.result
    (ap (events.Site) (c.in-Put.is ∙ ap (site_edits.Put c.in-Put.path c.in-Put.groups) (sym c.get.ensures)))
    c.put_page.ensures.world c.put_page.ensures.counted c.from.ensures

pub returns-in-Remove-clause-counted : goal.returns-in-Remove-clause-counted
returns-in-Remove-clause-counted g c =
    counted_so (g.R.Renderer.page c.args.self.now.0) (g.R.Renderer.count c.args.self.now.0)
    (g.R.Renderer.count c.remove_page.new.self.0) c.args.self.now.1 c.remove_page.new.self.1
    (events.Site c.args.edit.now) (events.Site (site_edits.Remove c.in-Remove.path)) _ c.remove_page.result
    (ap (events.Site) (c.in-Remove.is)) c.remove_page.ensures.world c.remove_page.ensures.counted refl

pub returns-in-Move-clause-counted : goal.returns-in-Move-clause-counted
returns-in-Move-clause-counted g c =
    counted_so (g.R.Renderer.page c.args.self.now.0) (g.R.Renderer.count c.args.self.now.0)
    (g.R.Renderer.count c.move_page.new.self.0) c.args.self.now.1 c.move_page.new.self.1
    (events.Site c.args.edit.now) (events.Site (site_edits.Move c.in-Move.from c.in-Move.to)) _ c.move_page.result
    (ap (events.Site) (c.in-Move.is)) c.move_page.ensures.world c.move_page.ensures.counted c.from-in-Move.ensures
