use Rattle.std.proofs.Common.{◌∙◌, ap, sym, refl}
use Rattle.doc_hub_events.specs.declared.event.Event.TheVariants as events
use Rattle.doc_hub_events.specs.declared.event.ReaderEdit.TheVariants as reader_edits
use Rattle.doc_hub.proofs.CountSteps.{counted_so}
use Rattle.doc_hub.proofs.RunSteps.{leaves_so}
use Rattle.doc_hub.proofs.hub.Hub.edit_reader.Goals as goal

pub returns-in-Set-clause-world : goal.returns-in-Set-clause-world
returns-in-Set-clause-world g c =
    leaves_so (g.R.Renderer.page c.args.self.now.0) c.args.self.now.1 (events.Reader c.args.edit.now) (events.Reader
    (reader_edits.Set c.get.result.now c.in-Set.reader))
    c.set_reader.new.self.1 _ c.set_reader.result (ap (events.Reader) (c.in-Set.is
    ∙ ap (λ token. reader_edits.Set token c.in-Set.reader) (sym c.get.ensures))) c.set_reader.ensures.world c.from.ensures

pub returns-in-Remove-clause-world : goal.returns-in-Remove-clause-world
returns-in-Remove-clause-world g c =
    leaves_so (g.R.Renderer.page c.args.self.now.0) c.args.self.now.1 (events.Reader c.args.edit.now) (events.Reader
    (reader_edits.Remove c.get-in-Remove.result.now))
    c.remove_reader.new.self.1 _ c.remove_reader.result (ap (events.Reader) (c.in-Remove.is
    ∙ ap reader_edits.Remove (sym c.get-in-Remove.ensures))) c.remove_reader.ensures.world refl

pub returns-in-Set-clause-counted : goal.returns-in-Set-clause-counted
returns-in-Set-clause-counted g c =
    counted_so (g.R.Renderer.page c.args.self.now.0) (g.R.Renderer.count c.args.self.now.0)
    (g.R.Renderer.count c.set_reader.new.self.0) c.args.self.now.1 c.set_reader.new.self.1
    (events.Reader c.args.edit.now) (events.Reader (reader_edits.Set c.get.result.now c.in-Set.reader)) _ c.set_reader.result
    (ap (events.Reader) (c.in-Set.is ∙ ap (λ token. reader_edits.Set token c.in-Set.reader) (sym c.get.ensures)))
    c.set_reader.ensures.world c.set_reader.ensures.counted c.from.ensures

pub returns-in-Remove-clause-counted : goal.returns-in-Remove-clause-counted
returns-in-Remove-clause-counted g c =
    counted_so (g.R.Renderer.page c.args.self.now.0) (g.R.Renderer.count c.args.self.now.0)
    (g.R.Renderer.count c.remove_reader.new.self.0) c.args.self.now.1 c.remove_reader.new.self.1
    (events.Reader c.args.edit.now) (events.Reader (reader_edits.Remove c.get-in-Remove.result.now)) _ c.remove_reader.result
    (ap (events.Reader) (c.in-Remove.is ∙ ap reader_edits.Remove (sym c.get-in-Remove.ensures)))
    c.remove_reader.ensures.world c.remove_reader.ensures.counted refl

pub returns-in-All-clause-world : goal.returns-in-All-clause-world
returns-in-All-clause-world g c =
    leaves_so (g.R.Renderer.page c.args.self.now.0) c.args.self.now.1 (events.Reader c.args.edit.now) (events.Reader
    (reader_edits.All c.in-All.readers))
    c.set_copies.new.self.1 _ c.set_copies.result (ap (events.Reader) c.in-All.is) c.set_copies.ensures.world c.from-in-All.ensures

pub returns-in-All-clause-counted : goal.returns-in-All-clause-counted
returns-in-All-clause-counted g c =
    counted_so (g.R.Renderer.page c.args.self.now.0) (g.R.Renderer.count c.args.self.now.0)
    (g.R.Renderer.count c.set_copies.new.self.0) c.args.self.now.1 c.set_copies.new.self.1
    (events.Reader c.args.edit.now) (events.Reader (reader_edits.All c.in-All.readers)) _ c.set_copies.result
    (ap (events.Reader) c.in-All.is) c.set_copies.ensures.world c.set_copies.ensures.counted c.from-in-All.ensures
