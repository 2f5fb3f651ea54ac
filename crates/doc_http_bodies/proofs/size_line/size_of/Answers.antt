use Rattle.std.specs.Char.{is_ascii_hexdigit}
use Rattle.doc_http_bodies.proofs.SizeLemmas.{front_passed}
use Rattle.doc_http_bodies.proofs.size_line.size_of.Goals as goal

pub hexadecimal-requires-clause-digits : goal.hexadecimal-requires-clause-digits
hexadecimal-requires-clause-digits c = front_passed is_ascii_hexdigit c.args.line.now c.digits_at_front-count.result
    c.digits_at_front-count.ensures.count
