use Rattle.std.proofs.Common.{arith, ap, length}
use Rattle.std.proofs.lemmas.List.{length-take}
use Rattle.doc_http_bodies.proofs.SizeLemmas.{within_text, no_line_yet}
use Rattle.doc_http_bodies.proofs.size_line.size_line.Goals as goal

pub returns-in-Some-size_of-clause-within : goal.returns-in-Some-size_of-clause-within
returns-in-Some-size_of-clause-within c = (
  omega arith,
  within_text c.args.text.now c.front-front.result.now c.in-Some.len c.front-front.ensures c.in-Some.ensures.within,
  c.in-Some-size_of.ensures.bound,
)

pub returns-in-None-2-clause-line : goal.returns-in-None-2-clause-line
returns-in-None-2-clause-line c =
    no_line_yet c.args.text.now c.front-front.result.now c.front-front.ensures c.in-None.ensures.place
    (omega (arith, ap length c.front-front.ensures, length-take 256 c.args.text.now, c.if-front-eq-LINE_LIMIT.false))
