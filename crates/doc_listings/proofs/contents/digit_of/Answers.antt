use Rattle.std.proofs.Common.{ap, decimal, sym}
use Rattle.std.specs.Fmt.{digits}
use Rattle.doc_listings.proofs.contents.digit_of.Goals as goal

pub returns-in-1 : goal.returns-in-1
unfolding digits
returns-in-1 c = sym (ap decimal c.in-1.is)

pub returns-in-2 : goal.returns-in-2
unfolding digits
returns-in-2 c = sym (ap decimal c.in-2.is)

pub returns-in-3 : goal.returns-in-3
unfolding digits
returns-in-3 c = sym (ap decimal c.in-3.is)

pub returns-in-4 : goal.returns-in-4
unfolding digits
returns-in-4 c = sym (ap decimal c.in-4.is)

pub returns-in-5 : goal.returns-in-5
unfolding digits
returns-in-5 c = sym (ap decimal c.in-5.is)

pub returns-in-6 : goal.returns-in-6
unfolding digits
returns-in-6 c = sym (ap decimal c.in-6.is)
