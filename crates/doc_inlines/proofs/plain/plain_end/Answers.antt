use Rattle.std.proofs.Common.{chars}
use Rattle.doc_inlines.proofs.PlainEndLaws.{plain_until}
use Rattle.doc_inlines.proofs.plain.plain_end.Goals as goal

pub returns : goal.returns
returns c = λ rules cut.
    plain_until rules (chars c.args.text.now) (chars c.args.rest.now) (chars c.front.result.now) (chars c.without_spaces.result.now)
    (chars c.text_behind.result.now) cut c.front.ensures.joins c.without_spaces.ensures c.text_behind.ensures
