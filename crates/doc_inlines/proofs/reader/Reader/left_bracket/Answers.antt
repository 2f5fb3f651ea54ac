use Rattle.std.proofs.Common.{ap, chars}
use Rattle.doc_inlines.proofs.BracketItemLaws.{left_goes_on}
use Rattle.doc_inlines.proofs.reader.Reader.left_bracket.Goals as goal

pub returns : goal.returns
returns c = λ rules targets.
    let o = c.in_ok-open.ensures in
    left_goes_on rules targets c.args.self.now c.open.new.self (chars c.args.behind.now) c.requires.sound o.sound o.text
    (ap (λ t. chars t.now) o.rest) c.requires.first o.made
