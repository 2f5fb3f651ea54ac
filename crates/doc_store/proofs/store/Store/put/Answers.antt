use Rattle.std.proofs.Common.{true, false, is_some, ap, sym, ◌∙◌}
use Rattle.doc_store.proofs.StateSteps.{put_gives}
use Rattle.doc_store.proofs.store.Store.put.Goals as goal

pub returns-in-Some : goal.returns-in-Some
returns-in-Some c =
    put_gives c.args.self.now c.put_fitting.new.self c.args.path.now c.args.text.now
    (record { groups = c.args.groups.now; text = c.args.text.now }) c.fits.result true c.fits.ensures.answer c.in_ok-fits.was
    (ap is_some (sym c.in-Some.is) ∙ c.in_ok-put_fitting.ensures.stood) c.in_ok-put_fitting.ensures.put

pub returns-in-None : goal.returns-in-None
returns-in-None c =
    put_gives c.args.self.now c.put_fitting.new.self c.args.path.now c.args.text.now
    (record { groups = c.args.groups.now; text = c.args.text.now }) c.fits.result false c.fits.ensures.answer c.in_ok-fits.was
    (ap is_some (sym c.in-None.is) ∙ c.in_ok-put_fitting.ensures.stood) c.in_ok-put_fitting.ensures.put
