use Rattle.std.proofs.Common.{◌≡◌, length}
use Rattle.doc_server_arguments.specs.Options.{options_in, stated}
use Rattle.doc_server_arguments.specs.OptionSteps.{said_so_far, taken_all}
use Rattle.doc_server_arguments.specs.Texts.{texts}
use Rattle.doc_server_arguments.proofs.options.options_of.Given as goal

abbrev pub invariant-options : goal.invariant-options
invariant-options l = taken_all l.known (said_so_far l.options) (stated (texts l.rest)) ≡ options_in l.known (texts l.words)

abbrev pub decreases-options : goal.decreases-options
decreases-options l = length l.rest
