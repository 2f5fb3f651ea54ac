use Rattle.std.proofs.Common.{ap, sym, ◌∙◌}
use Rattle.std.specs.Prelude.{Some}
use Rattle.doc_hub_editing.proofs.DeskSteps.{full, room}
use Rattle.doc_hub_editing.proofs.desk.Desk.no_room.Goals as goal

pub returns-in_default : goal.returns-in_default
returns-in_default c owns =
    let self = c.args.self.now in
    c.no_edit.ensures
    ∙ room self.exchange.now.takes_puts self.store.now self.reader.now c.args.path.now c.args.text.now owns
    (sym c.fits.ensures.answer ∙ c.in_default.is)

pub returns-in_default-e : goal.returns-in_default-e
returns-in_default-e c owns =
    let self = c.args.self.now in
    ap Some c.why_full.ensures
    ∙ full self.exchange.now.takes_puts self.store.now self.reader.now c.args.path.now c.args.text.now owns c.in-Err.e
    (sym c.fits.ensures.answer ∙ c.in-Err.is) c.in_default-e.not-TooLong
