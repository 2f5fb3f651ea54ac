use Rattle.std.proofs.Common.{take}
use Rattle.doc_server_rounds.specs.Rounds.{AreClosed}
use Rattle.doc_server_rounds.proofs.round.any_open.Given as goal

abbrev pub invariant-links : goal.invariant-links
invariant-links g l = AreClosed (take l.link-index l.links)
