use Rattle.std.proofs.Common.{rules}
use Rattle.doc_html_anchors.proofs.EntryLaws.{own_anchor}
use Rattle.doc_html_anchors.proofs.numbers.give.Goals as goal

pub returns-in-None-clause-anchor : goal.returns-in-None-clause-anchor
returns-in-None-clause-anchor c = own_anchor c.put.result c.args.entries.now c.args.name (search rules) c.put.ensures.anchor
