use Rattle.doc_html_anchors.proofs.EntryLaws.{uses_more, numbered_more}
use Rattle.doc_html_anchors.proofs.numbers.put.Goals as goal

pub returns-clause-uses : goal.returns-clause-uses
returns-clause-uses c = uses_more c.args.entries.now c.insert.new.self c.args.anchor 1 c.in_ok-insert.ensures.entries

pub returns-clause-numbered : goal.returns-clause-numbered
returns-clause-numbered c = numbered_more c.args.entries.now c.insert.new.self c.args.anchor c.in_ok-insert.ensures.entries
    c.in_ok-insert.ensures.updates c.requires
