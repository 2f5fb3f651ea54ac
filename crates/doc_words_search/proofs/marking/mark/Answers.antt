use Rattle.std.proofs.Common.{◌<◌, arith, ap, length, sum_by, sym, ◌∙◌}
use Rattle.doc_words_search.proofs.MarkSteps.{at_place, one_marked}
use Rattle.doc_words_search.proofs.marking.mark.Goals as goal

pub returns-clause-listed : goal.returns-clause-listed
returns-clause-listed c f =
    let marks = c.args.marks.now.items in
    let low : c.args.slot < length marks = omega (arith, c.if-at-len.false) in
    ap (sum_by f) c.in_ok-push.ensures.items
    ∙ one_marked marks c.args.slots.now.items c.args.slot low
    (sym (at_place marks c.args.slot c.index.result.now low) ∙ sym c.index.ensures ∙ c.if-index.false) c.requires f
