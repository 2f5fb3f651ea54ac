use Rattle.doc_server_arguments.specs.Texts.{texts}
use Rattle.doc_server_arguments.proofs.OptionLaws.{all_taken}
use Rattle.doc_server_arguments.proofs.options.options_of.Goals as goal

pub options-init : goal.options-init
options-init c = all_taken c.args.known (texts c.args.words.now)
