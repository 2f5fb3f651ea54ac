use Rattle.std.proofs.Common.{ap, chars}
use Rattle.doc_inlines.proofs.ItemLaws.{first_behind}
use Rattle.doc_inlines.proofs.BracketItemLaws.{bang_goes_on, bang_passed}
use Rattle.doc_inlines.proofs.reader.Reader.bang.Goals as goal

pub pass-requires-clause-rest : goal.pass-requires-clause-rest
pass-requires-clause-rest c = first_behind _ _ _ c.requires.first

pub returns-in_default : goal.returns-in_default
returns-in_default c = λ rules targets.
    let p = c.pass.ensures in
    bang_passed rules targets c.args.self.now c.pass.new.self (chars c.args.behind.now) c.requires.sound p.sound p.text
    (ap (λ t. chars t.now) p.rest) c.requires.first c.in_default.ensures p.made

pub returns : goal.returns
returns c = λ rules targets.
    let o = c.in_ok-open.ensures in
    bang_goes_on rules targets c.args.self.now c.open.new.self (chars c.args.behind.now) (chars c.in-Some.after.now) c.requires.sound
    o.sound o.text (ap (λ t. chars t.now) o.rest) c.requires.first c.in-Some.ensures o.made
