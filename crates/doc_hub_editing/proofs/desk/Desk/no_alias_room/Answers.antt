use Rattle.std.proofs.Common.{true, false, ap, sym, ◌∙◌}
use Rattle.std.specs.Result.{is_err}
use Rattle.doc_hub_editing.proofs.DeskSteps.{move_by}
use Rattle.doc_hub_editing.proofs.desk.Desk.no_alias_room.Goals as goal

pub returns-then-is_err : goal.returns-then-is_err
returns-then-is_err c owns =
    let self = c.args.self.now in
    move_by self.exchange.now.takes_puts self.store.now self.reader.now c.args.from.now c.args.to.now owns c.requires.stands c.requires.free
    c.takes_puts.ensures.store.site (sym c.takes_puts.ensures.taken ∙ c.if-not-takes_puts.false) true
    (ap is_err (sym c.may_move.ensures.answer) ∙ sym c.is_err.ensures.value ∙ c.if-is_err.true)

pub returns : goal.returns
returns c owns =
    let self = c.args.self.now in
    move_by self.exchange.now.takes_puts self.store.now self.reader.now c.args.from.now c.args.to.now owns c.requires.stands c.requires.free
    c.takes_puts.ensures.store.site (sym c.takes_puts.ensures.taken ∙ c.if-not-takes_puts.false) false
    (ap is_err (sym c.may_move.ensures.answer) ∙ sym c.is_err.ensures.value ∙ c.if-is_err.false)
