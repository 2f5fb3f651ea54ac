use Rattle.doc_inlines.proofs.BracketItemLaws.{nothing_in, has_none, taken}
use Rattle.doc_inlines.proofs.reader.Reader.take_bracket.Goals as goal

pub returns-then-is_empty : goal.returns-then-is_empty
returns-then-is_empty c = has_none c.args.self.now (nothing_in _ _ _ c.if-is_empty.true c.is_empty.ensures c.as_slice.ensures.value)

pub returns : goal.returns
returns c =
    let f = c.in_ok-flush.ensures in
    taken c.pop.result c.args.self.now c.flush.new.self c.pop.new.self _ _ c.if-is_empty.false c.is_empty.ensures c.as_slice.ensures.value
    (record { text = f.text; rest = f.rest; plain = f.plain; made = f.made; sound = f.sound }) c.pop.ensures
