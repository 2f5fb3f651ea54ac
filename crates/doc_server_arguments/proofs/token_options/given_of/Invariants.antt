use Rattle.std.proofs.Common.{◌≡◌, length}
use Rattle.doc_server_arguments.specs.TokenWords.{given_by, given_in}
use Rattle.doc_server_arguments.specs.TokenSteps.{given_so_far}
use Rattle.doc_server_arguments.specs.Texts.{texts}
use Rattle.doc_server_arguments.proofs.token_options.given_of.Given as goal

-- what is given so far and by the words that are left
abbrev pub invariant-options : goal.invariant-options
invariant-options l = given_by (given_so_far l.given) (texts l.rest) ≡ given_in (texts l.words)

abbrev pub decreases-options : goal.decreases-options
decreases-options l = length l.rest
