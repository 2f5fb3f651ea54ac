use Rattle.doc_tables.proofs.LineLaws.{last_found, behind_feed, last_line_is, whole_line_is}
use Rattle.doc_tables.proofs.lines.last_line.Goals as goal

pub range_from-requires : goal.range_from-requires
range_from-requires c =
    λ _. behind_feed c.args.text.now c.in-Some.place c.utf8.text (last_found _ _ _ c.as_bytes.ensures.value c.in-Some.ensures)

pub returns-in-Some : goal.returns-in-Some
returns-in-Some c =
    last_line_is c.args.text.now c.range_from.result.now c.in-Some.place c.utf8.text
    (last_found _ _ _ c.as_bytes.ensures.value c.in-Some.ensures) c.range_from.ensures.value

pub returns-in-None : goal.returns-in-None
returns-in-None c = whole_line_is c.args.text.now c.as_bytes.result.now c.as_bytes.ensures.value c.utf8.text c.in-None.ensures
