use Rattle.std.proofs.Common.{arith, ap, length, true, false}
use Rattle.doc_http_bodies.proofs.StageLemmas.{data_waits, data_lead, data_break, begins_so}
use Rattle.doc_http_bodies.proofs.stage.at_data.Goals as goal

pub returns-then-text-size : goal.returns-then-text-size
returns-then-text-size c = data_waits c.args.start c.args.size c.args.total c.args.window.now c.requires
    (omega (arith, ap length c.behind-text.ensures, c.if-text-size.true))

pub returns-then-starts_with : goal.returns-then-starts_with
returns-then-starts_with c =
    data_lead c.args.start c.args.size c.args.total c.args.window.now c.requires
    (omega (arith, ap length c.behind-text.ensures, c.if-text-size.false))
    (begins_so c.args.start c.args.size c.args.window.now c.behind-text.result.now c.behind.result.now true c.behind-text.ensures
    c.behind.ensures c.if-starts_with.ensures.value)

pub returns-else-starts_with : goal.returns-else-starts_with
returns-else-starts_with c =
    data_break c.args.start c.args.size c.args.total c.args.window.now c.requires
    (omega (arith, ap length c.behind-text.ensures, c.if-text-size.false))
    (begins_so c.args.start c.args.size c.args.window.now c.behind-text.result.now c.behind.result.now false c.behind-text.ensures
    c.behind.ensures c.if-starts_with.ensures.value)
