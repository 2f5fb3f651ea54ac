use Rattle.std.proofs.Common.{rules, string_bytes}
use Rattle.doc_html_anchors.proofs.NumberLaws.{spelled}
use Rattle.doc_html_anchors.proofs.numbers.with_number.Goals as goal

pub returns : goal.returns
returns c = spelled c.args.name.now (string_bytes c.in_ok-format.field-0) c.args.number c.utf8.name c.ranges.number.fits (search rules)
