use Rattle.std.proofs.Common.{◌∙◌}
use Rattle.doc_server_arguments.proofs.Reading.{parsed}
use Rattle.doc_server_arguments.proofs.address.address_of.Goals as goal

pub returns : goal.returns
returns c = c.ok.ensures.value ∙ parsed c.args.written.now c.parse.result c.parse.ensures.value
