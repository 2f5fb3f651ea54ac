use Rattle.std.proofs.Common.{◌∙◌, ap, sym, refl}
use Rattle.doc_hub_events.specs.declared.event.Event.TheVariants as events
use Rattle.doc_hub_events.specs.declared.event.ConnectionEvent.TheVariants as calls
use Rattle.doc_hub.proofs.CountSteps.{counted_so}
use Rattle.doc_hub.proofs.RunSteps.{leaves_so}
use Rattle.doc_hub.proofs.hub.Hub.happen_on.Goals as goal

pub returns-in-Push-clause-world : goal.returns-in-Push-clause-world
returns-in-Push-clause-world g c =
    leaves_so (g.R.Renderer.page c.args.self.now.0) c.args.self.now.1 (events.On c.args.id c.args.call.now) (events.On c.args.id
    (calls.Push c.get.result.now))
    c.push.new.self.1 _ c.push.result (ap (events.On c.args.id) (c.in-Push.is
    ∙ ap calls.Push (sym c.get.ensures))) c.push.ensures.world c.from.ensures

pub returns-in-Step-clause-world : goal.returns-in-Step-clause-world
returns-in-Step-clause-world g c =
    leaves_so (g.R.Renderer.page c.args.self.now.0) c.args.self.now.1 (events.On c.args.id c.args.call.now) (events.On c.args.id calls.Step)
    c.step.new.self.1 _ c.step.result (ap (events.On c.args.id) (c.in-Step.is)) c.step.ensures.world c.from-in-Step.ensures

pub returns-in-Disconnect-clause-world : goal.returns-in-Disconnect-clause-world
returns-in-Disconnect-clause-world g c =
    leaves_so (g.R.Renderer.page c.args.self.now.0) c.args.self.now.1 (events.On c.args.id c.args.call.now) (events.On c.args.id
    calls.Disconnect)
    c.disconnect.new.self.1 _ c.disconnect.result (ap (events.On c.args.id) (c.in-Disconnect.is)) c.disconnect.ensures.world refl

pub returns-in-Push-clause-counted : goal.returns-in-Push-clause-counted
returns-in-Push-clause-counted g c =
    counted_so (g.R.Renderer.page c.args.self.now.0) (g.R.Renderer.count c.args.self.now.0)
    (g.R.Renderer.count c.push.new.self.0) c.args.self.now.1 c.push.new.self.1
    (events.On c.args.id c.args.call.now) (events.On c.args.id (calls.Push c.get.result.now)) _ c.push.result
    (ap (events.On c.args.id) (c.in-Push.is ∙ ap calls.Push (sym c.get.ensures))) c.push.ensures.world c.push.ensures.counted
    c.from.ensures

pub returns-in-Step-clause-counted : goal.returns-in-Step-clause-counted
returns-in-Step-clause-counted g c =
    counted_so (g.R.Renderer.page c.args.self.now.0) (g.R.Renderer.count c.args.self.now.0)
    (g.R.Renderer.count c.step.new.self.0) c.args.self.now.1 c.step.new.self.1
    (events.On c.args.id c.args.call.now) (events.On c.args.id calls.Step) _ c.step.result (ap (events.On c.args.id) (c.in-Step.is))
    c.step.ensures.world c.step.ensures.counted c.from-in-Step.ensures

pub returns-in-Disconnect-clause-counted : goal.returns-in-Disconnect-clause-counted
returns-in-Disconnect-clause-counted g c =
    counted_so (g.R.Renderer.page c.args.self.now.0) (g.R.Renderer.count c.args.self.now.0)
    (g.R.Renderer.count c.disconnect.new.self.0) c.args.self.now.1 c.disconnect.new.self.1
    (events.On c.args.id c.args.call.now) (events.On c.args.id calls.Disconnect) _ c.disconnect.result
    (ap (events.On c.args.id) (c.in-Disconnect.is)) c.disconnect.ensures.world c.disconnect.ensures.counted refl
