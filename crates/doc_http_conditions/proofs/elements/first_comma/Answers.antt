use Rattle.std.proofs.Common.{sym, ◌∙◌}
use Rattle.doc_http_conditions.proofs.ElementSteps.{elements_pass, elements_cut, elements_end}
use Rattle.doc_http_conditions.proofs.elements.first_comma.Goals as goal

pub returns-then-cuts-clause-found : goal.returns-then-cuts-clause-found
returns-then-cuts-clause-found c = (
  c.loop-i-test.true,
  elements_cut c.args.text.now c.loop-i.i c.loop-i.quoted c.loop-i-test.true (sym c.cuts.ensures ∙ c.if-cuts.true) c.loop-i.invariant,
)

pub loop-i-preserved : goal.loop-i-preserved
loop-i-preserved c =
    rw c.quoted_behind-quoted.ensures (elements_pass c.args.text.now c.loop-i.i c.loop-i.quoted c.loop-i-test.true
    (sym c.cuts.ensures ∙ c.if-cuts.false) c.loop-i.invariant)

pub returns-clause-none : goal.returns-clause-none
returns-clause-none c = elements_end c.args.text.now c.loop-i.i c.loop-i.quoted c.loop-i-test.false c.loop-i.invariant
