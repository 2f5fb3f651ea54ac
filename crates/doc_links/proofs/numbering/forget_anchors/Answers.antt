use Rattle.std.proofs.Common.{ap, sym, ◌∙◌}
use Rattle.std.specs.Option.{option_copied}
use Rattle.doc_links.proofs.NamingSteps.{none_leads, none_left}
use Rattle.doc_links.proofs.numbering.forget_anchors.Goals as goal

pub returns-in_default-clause-gone : goal.returns-in_default-clause-gone
returns-in_default-clause-gone c are =
    none_leads c.args.numbers.now c.args.named.now.slots.items c.args.slot (sym c.numbers_at.ensures ∙ ap option_copied c.in_default.is) are

pub returns-clause-named : goal.returns-clause-named
returns-clause-named c are = c.leave.ensures.kept c.args.numbers.now are

pub returns-clause-gone : goal.returns-clause-gone
returns-clause-gone c are =
    none_left c.args.numbers.now c.leave.new.self.slots.items c.args.slot c.in-Some.page.now (sym c.in-Some.ensures)
    (c.leave.ensures.kept c.args.numbers.now are) c.leave.ensures.gone
