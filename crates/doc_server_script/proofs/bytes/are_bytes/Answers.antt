use Rattle.std.proofs.Common.{arith}
use Rattle.doc_server_script.proofs.PlainLines.{all_bytes}
use Rattle.doc_server_script.proofs.bytes.are_bytes.Goals as goal

pub returns : goal.returns
returns c = all_bytes c.args.bytes.now (λ i. let f = c.type_inv.bytes i in omega arith)
