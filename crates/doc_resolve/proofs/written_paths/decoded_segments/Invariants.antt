use Rattle.doc_resolve.proofs.DotSteps.{texts}
use Rattle.doc_resolve.proofs.WrittenPathSteps.{IsDecoded}
use Rattle.doc_resolve.proofs.written_paths.decoded_segments.Given as goal

abbrev pub invariant-loop-segment : goal.invariant-loop-segment
invariant-loop-segment l = IsDecoded (texts l.parts) l.segment-index l.text.items
