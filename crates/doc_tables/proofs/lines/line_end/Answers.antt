use Rattle.doc_tables.proofs.LineLaws.{feed_found, feed_at_boundary, cut_at_feed, cut_nowhere}
use Rattle.doc_tables.proofs.lines.line_end.Goals as goal

pub range_from-requires : goal.range_from-requires
range_from-requires c = λ _. feed_at_boundary c.args.text.now c.in-Some.place (feed_found _ _ _ c.as_bytes.ensures.value c.in-Some.ensures)

pub returns-in-Some : goal.returns-in-Some
returns-in-Some c =
    cut_at_feed c.args.text.now c.range_from.result.now c.in-Some.place c.utf8.text
    (feed_found _ _ _ c.as_bytes.ensures.value c.in-Some.ensures) c.range_from.ensures.value

pub returns-in-None : goal.returns-in-None
returns-in-None c = cut_nowhere c.args.text.now c.as_bytes.result.now c.as_bytes.ensures.value c.utf8.text c.in-None.ensures
