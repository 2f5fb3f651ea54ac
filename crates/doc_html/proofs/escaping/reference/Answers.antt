use Rattle.doc_html.proofs.EscapeLaws.{last_is_quote}
use Rattle.doc_html.proofs.escaping.reference.Goals as goal

pub returns : goal.returns
returns c = last_is_quote c.args.byte c.requires c.if-byte-eq38.false c.if-byte-eq60.false c.if-byte-eq62.false
