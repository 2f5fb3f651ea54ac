use Rattle.std.proofs.Common.{rules, sym}
use Rattle.doc_links_seen.proofs.WholeSteps.{stood}
use Rattle.doc_links_seen.proofs.stands.set_stand.Goals as goal

pub returns-then-number-len : goal.returns-then-number-len
returns-then-number-len c some has are =
    stood some c.args.numbers.now c.args.stands.now.items c.args.slot c.own-number.result c.in-Some-checked_add.stand c.in-Some.page.now
    (sym c.in-Some.ensures) c.in-Some-checked_add.ensures.1 c.own-number.ensures (search rules) has are
