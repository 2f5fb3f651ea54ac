use Rattle.std.proofs.Common.{take}
use Rattle.doc_http_bodies.specs.Places.{line_end}
use Rattle.doc_http_bodies.proofs.DataLemmas.{no_chunk, last_chunk, first_chunk}
use Rattle.doc_http_bodies.proofs.PlaceLemmas.{searched_none}
use Rattle.doc_http_bodies.proofs.gathering.first_chunk.Goals as goal

pub size_line-requires : goal.size_line-requires
size_line-requires c = searched_none line_end (take 256 c.args.text.now)

pub returns-in_default : goal.returns-in_default
returns-in_default c = record {
  found = tt;
  last = λ _. no_chunk c.args.text.now c.size_line.result c.size_line.ensures.line
      c.in_default.not-Size;
}

pub returns-then-size-eq0-clause-last : goal.returns-then-size-eq0-clause-last
returns-then-size-eq0-clause-last c = λ _. last_chunk c.args.text.now c.in-Size.len c.in-Size.size c.in-Size.ensures.line c.if-size-eq0.true

pub returns-clause-found : goal.returns-clause-found
returns-clause-found c =
    first_chunk c.args.text.now c.behind-text.result.now c.front.result.now c.behind.result.now c.in-Size.len c.in-Size.size
    c.in-Size.ensures.line c.if-size-eq0.false c.behind-text.ensures c.front.ensures c.behind.ensures
