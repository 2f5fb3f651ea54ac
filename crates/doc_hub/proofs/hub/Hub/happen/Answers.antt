use Rattle.std.specs.Prelude.{refl}
use Rattle.doc_hub_events.specs.declared.event.Event.TheVariants as events
use Rattle.doc_hub.proofs.CountSteps.{counted_same, counted_so}
use Rattle.doc_hub.proofs.RunSteps.{leaves_same, leaves_so}
use Rattle.doc_hub.proofs.hub.Hub.happen.Goals as goal

pub returns-in-Connect-clause-world : goal.returns-in-Connect-clause-world
returns-in-Connect-clause-world g c =
    leaves_so (g.R.Renderer.page c.args.self.now.0) c.args.self.now.1 c.args.event.now events.Connect c.connect.new.self.1 _
    c.connect.result c.in-Connect.is c.connect.ensures.world c.from.ensures

pub returns-in-On-clause-world : goal.returns-in-On-clause-world
returns-in-On-clause-world g c =
    leaves_same (g.R.Renderer.page c.args.self.now.0) c.args.self.now.1 c.args.event.now (events.On c.in-On.id c.in-On.call)
    c.happen_on.new.self.1 _ c.in-On.is c.happen_on.ensures.world

pub returns-in-Site-clause-world : goal.returns-in-Site-clause-world
returns-in-Site-clause-world g c =
    leaves_same (g.R.Renderer.page c.args.self.now.0) c.args.self.now.1 c.args.event.now (events.Site c.in-Site.edit)
    c.edit_site.new.self.1 _ c.in-Site.is c.edit_site.ensures.world

pub returns-in-Reader-clause-world : goal.returns-in-Reader-clause-world
returns-in-Reader-clause-world g c =
    leaves_same (g.R.Renderer.page c.args.self.now.0) c.args.self.now.1 c.args.event.now (events.Reader c.in-Reader.edit)
    c.edit_reader.new.self.1 _ c.in-Reader.is c.edit_reader.ensures.world

pub returns-in-Connect-clause-counted : goal.returns-in-Connect-clause-counted
returns-in-Connect-clause-counted g c =
    counted_so (g.R.Renderer.page c.args.self.now.0) (g.R.Renderer.count c.args.self.now.0)
    (g.R.Renderer.count c.connect.new.self.0) c.args.self.now.1 c.connect.new.self.1
    c.args.event.now events.Connect _ c.connect.result c.in-Connect.is c.connect.ensures.world c.connect.ensures.counted c.from.ensures

pub returns-in-On-clause-counted : goal.returns-in-On-clause-counted
returns-in-On-clause-counted g c =
    counted_same (g.R.Renderer.page c.args.self.now.0) (g.R.Renderer.count c.args.self.now.0)
    (g.R.Renderer.count c.happen_on.new.self.0) c.args.self.now.1 c.happen_on.new.self.1
    c.args.event.now (events.On c.in-On.id c.in-On.call) _ c.in-On.is c.happen_on.ensures.counted

pub returns-in-Site-clause-counted : goal.returns-in-Site-clause-counted
returns-in-Site-clause-counted g c =
    counted_same (g.R.Renderer.page c.args.self.now.0) (g.R.Renderer.count c.args.self.now.0)
    (g.R.Renderer.count c.edit_site.new.self.0) c.args.self.now.1 c.edit_site.new.self.1
    c.args.event.now (events.Site c.in-Site.edit) _ c.in-Site.is c.edit_site.ensures.counted

pub returns-in-Reader-clause-counted : goal.returns-in-Reader-clause-counted
returns-in-Reader-clause-counted g c =
    counted_same (g.R.Renderer.page c.args.self.now.0) (g.R.Renderer.count c.args.self.now.0)
    (g.R.Renderer.count c.edit_reader.new.self.0) c.args.self.now.1 c.edit_reader.new.self.1
    c.args.event.now (events.Reader c.in-Reader.edit) _ c.in-Reader.is c.edit_reader.ensures.counted

pub returns-in-TakePuts-clause-world : goal.returns-in-TakePuts-clause-world
returns-in-TakePuts-clause-world g c =
    leaves_so (g.R.Renderer.page c.args.self.now.0) c.args.self.now.1 c.args.event.now (events.TakePuts c.in-TakePuts.takes)
    c.take_puts.new.self.1 _ c.take_puts.result c.in-TakePuts.is c.take_puts.ensures.world refl

pub returns-in-TakePuts-clause-counted : goal.returns-in-TakePuts-clause-counted
returns-in-TakePuts-clause-counted g c =
    counted_so (g.R.Renderer.page c.args.self.now.0) (g.R.Renderer.count c.args.self.now.0)
    (g.R.Renderer.count c.take_puts.new.self.0) c.args.self.now.1 c.take_puts.new.self.1
    c.args.event.now (events.TakePuts c.in-TakePuts.takes) _ c.take_puts.result c.in-TakePuts.is c.take_puts.ensures.world
    c.take_puts.ensures.counted refl

pub returns-in-SetMedia-clause-world : goal.returns-in-SetMedia-clause-world
returns-in-SetMedia-clause-world g c =
    leaves_so (g.R.Renderer.page c.args.self.now.0) c.args.self.now.1 c.args.event.now (events.SetMedia c.in-SetMedia.media)
    c.set_media_copies.new.self.1 _ c.set_media_copies.result c.in-SetMedia.is c.set_media_copies.ensures.world c.from-in-SetMedia.ensures

pub returns-in-SetMedia-clause-counted : goal.returns-in-SetMedia-clause-counted
returns-in-SetMedia-clause-counted g c =
    counted_so (g.R.Renderer.page c.args.self.now.0) (g.R.Renderer.count c.args.self.now.0)
    (g.R.Renderer.count c.set_media_copies.new.self.0) c.args.self.now.1 c.set_media_copies.new.self.1
    c.args.event.now (events.SetMedia c.in-SetMedia.media) _ c.set_media_copies.result c.in-SetMedia.is c.set_media_copies.ensures.world
    c.set_media_copies.ensures.counted c.from-in-SetMedia.ensures
