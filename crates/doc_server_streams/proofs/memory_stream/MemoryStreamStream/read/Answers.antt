use Rattle.std.proofs.Common.{◌≡◌, ◌≤◌, ◌-◌, length, take, drop, ap, ◌∙◌, arith}
use Rattle.doc_server_streams.proofs.Pieces.{moved}
use Rattle.doc_server_streams.proofs.memory_stream.MemoryStreamStream.read.Goals as goal

pub returns-clause-bytes : goal.returns-clause-bytes
returns-clause-bytes c =
    let rest : c.in-Some.rest.now ≡ take (length c.args.self.now.input - c.args.self.now.at)
    (drop c.args.self.now.at c.args.self.now.input) =
    c.in-Some.ensures.lookup.0.2 ∙ ap (λ xs. take (length xs - c.args.self.now.at) (drop c.args.self.now.at xs)) c.get.ensures in
    let fits : c.min-count.result ≤ length c.in-Some.rest.now = omega (arith, c.min-count.ensures, c.min.ensures) in
    moved c.args.self.now.input c.in-Some.rest.now c.copy_from_slice.new.self (drop c.min-count.result c.args.buf.now) c.args.self.now.at
    c.min-count.result rest fits c.copy_from_slice.ensures.after
