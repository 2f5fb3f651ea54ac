use Rattle.std.proofs.Common.{◌≡◌, ◌++◌, length}
use Rattle.doc_http_bodies.specs.Chunks.{data_of}
use Rattle.doc_http_bodies.proofs.gathering.gather.Given as goal

abbrev pub invariant-chunks : goal.invariant-chunks
invariant-chunks l = l.joined ++ data_of l.rest ≡ data_of l.encoded

abbrev pub decreases-chunks : goal.decreases-chunks
decreases-chunks l = length l.rest
