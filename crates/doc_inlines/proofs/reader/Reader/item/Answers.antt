use Rattle.std.proofs.Common.{chars}
use Rattle.doc_inlines.proofs.RunLaws.{star_is_read, underscore_is_read, star_begins, underscore_begins}
use Rattle.doc_inlines.proofs.ItemLaws.{greater_is_other, quote_is_other}
use Rattle.doc_inlines.proofs.PlainEndLaws.{all_on_ok}
use Rattle.doc_inlines.proofs.reader.Reader.item.Goals as goal

pub other-requires-clause-other : goal.other-requires-clause-other
other-requires-clause-other c = greater_is_other

pub other-requires-in-34-clause-other : goal.other-requires-in-34-clause-other
other-requires-in-34-clause-other c = quote_is_other

pub returns-in-32 : goal.returns-in-32
returns-in-32 c = all_on_ok c.spaces.result (λ all. all c.args.refs.now) c.spaces.ensures

pub returns-in-10 : goal.returns-in-10
returns-in-10 c = all_on_ok c.line_ending.result (λ all. all c.args.entities.now c.args.refs.now) c.line_ending.ensures

pub returns-in-92 : goal.returns-in-92
returns-in-92 c = all_on_ok c.backslash.result (λ all. all c.args.entities.now c.args.refs.now) c.backslash.ensures

pub returns-in-38 : goal.returns-in-38
returns-in-38 c = all_on_ok c.ampersand.result (λ all. all c.args.refs.now) c.ampersand.ensures

pub returns-in-96 : goal.returns-in-96
returns-in-96 c = all_on_ok c.backticks.result (λ all. all c.args.entities.now c.args.refs.now) c.backticks.ensures

pub returns-in-60 : goal.returns-in-60
returns-in-60 c = all_on_ok c.left_angle.result (λ all. all c.args.entities.now c.args.refs.now) c.left_angle.ensures

pub returns-in-42 : goal.returns-in-42
returns-in-42 c = all_on_ok c.delimiters.result (λ all. all c.args.entities.now c.args.refs.now (star_is_read c.args.entities.now (chars c.args.behind.now))) c.delimiters.ensures

pub returns-in-95 : goal.returns-in-95
returns-in-95 c = all_on_ok c.delimiters-in-95.result (λ all. all c.args.entities.now c.args.refs.now
    (underscore_is_read c.args.entities.now (chars c.args.behind.now))) c.delimiters-in-95.ensures

pub returns-in-91 : goal.returns-in-91
returns-in-91 c = all_on_ok c.left_bracket.result (λ all. all c.args.entities.now c.args.refs.now) c.left_bracket.ensures

pub returns-in-33 : goal.returns-in-33
returns-in-33 c = all_on_ok c.bang.result (λ all. all c.args.entities.now c.args.refs.now) c.bang.ensures

pub returns-in-62 : goal.returns-in-62
returns-in-62 c = all_on_ok c.other.result (λ all. all c.args.entities.now c.args.refs.now) c.other.ensures

pub returns-in-34 : goal.returns-in-34
returns-in-34 c = all_on_ok c.other-in-34.result (λ all. all c.args.entities.now c.args.refs.now) c.other-in-34.ensures

pub returns-in_default : goal.returns-in_default
returns-in_default c = c.plain.ensures c.args.refs.now

pub delimiters-requires-clause-delimiter : goal.delimiters-requires-clause-delimiter
delimiters-requires-clause-delimiter c = star_begins (chars c.args.behind.now)

pub delimiters-requires-in-95-clause-delimiter : goal.delimiters-requires-in-95-clause-delimiter
delimiters-requires-in-95-clause-delimiter c = underscore_begins (chars c.args.behind.now)

pub returns-in-126 : goal.returns-in-126
returns-in-126 c = all_on_ok c.tilde.result (λ all. all c.args.refs.now) c.tilde.ensures

pub returns-in-w : goal.returns-in-w
returns-in-w c = all_on_ok c.letter.result (λ all. all c.args.refs.now) c.letter.ensures
