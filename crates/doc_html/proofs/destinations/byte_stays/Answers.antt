use Rattle.std.proofs.Common.{refl, arith}
use Rattle.doc_html.specs.declared.destinations.TheConstants.{STAYING}
use Rattle.doc_html.proofs.EscapeLaws.{kept_in_table}
use Rattle.doc_html.proofs.destinations.byte_stays.Goals as goal

-- the table is held against the definition at each of the 256 bytes, by computing
pub returns : goal.returns
returns c = kept_in_table STAYING c.args.byte (omega arith) refl
