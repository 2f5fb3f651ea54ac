use Rattle.doc_inlines.proofs.PlainEndLaws.{front_ends_at_boundary, joins_behind}
use Rattle.doc_inlines.proofs.plain.text_behind.Goals as goal

pub range_from-requires : goal.range_from-requires
range_from-requires c = λ _. front_ends_at_boundary c.args.text.now c.args.front.now c.requires c.utf8.text c.utf8.front

pub returns : goal.returns
returns c = joins_behind c.args.text.now c.args.front.now c.range_from.result.now c.requires c.utf8.text c.utf8.front
    c.range_from.ensures.value
