use Rattle.std.proofs.Common.{string_bytes}
use Rattle.doc_html_anchors.proofs.EntryLaws.{numbered_anchor}
use Rattle.doc_html_anchors.proofs.numbers.put_numbered.Goals as goal

pub returns-clause-anchor : goal.returns-clause-anchor
returns-clause-anchor c =
    numbered_anchor c.args.entries.now c.args.name.now c.args.first c.in_ok-number.number c.requires.numbered c.requires.first
    c.in_ok-number.ensures.next
    c.in_ok-text.text (string_bytes c.in_ok-number.anchor) c.utf8.name c.in_ok-number.ensures.small c.in_ok-number.ensures.anchor
    c.in_ok-text.ensures.anchor
