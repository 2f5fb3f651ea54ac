use Rattle.std.proofs.Common.{refl, arith}
use Rattle.doc_html.specs.declared.escaping.TheConstants.{ESCAPED}
use Rattle.doc_html.proofs.EscapeLaws.{as_in_table}
use Rattle.doc_html.proofs.escaping.is_escaped.Goals as goal

-- the table is held against the definition at each of the 256 bytes, by computing
pub returns : goal.returns
returns c = as_in_table ESCAPED c.args.byte (omega arith) refl
