use Rattle.std.proofs.Common.{length}
use Rattle.doc_lines.specs.Cursors.{left_of}
use Rattle.doc_blocks_starts.specs.Lines.{IsPlain}
use Rattle.doc_blocks_starts.proofs.ContainerSteps.{HasRead}
use Rattle.doc_blocks_starts.proofs.item.marker.take_digits.Given as goal

abbrev pub invariant-digits : goal.invariant-digits
invariant-digits l = record { plain : IsPlain l.line; read : HasRead (left_of l.fn.line) (left_of l.line) l.number l.length }

abbrev pub decreases-digits : goal.decreases-digits
decreases-digits l = length (left_of l.line)
