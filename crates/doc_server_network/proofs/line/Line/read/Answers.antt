use Rattle.std.proofs.Common.{◌≤◌, ◌++◌, length, take, drop, ap, ◌∙◌, arith}
use Rattle.doc_server_network.proofs.MemorySteps.{came_more}
use Rattle.doc_server_network.specs.Memories.{came_on}
use Rattle.doc_server_network.proofs.line.Line.read.Goals as goal

pub returns-clause-came : goal.returns-clause-came
returns-clause-came c =
    let at = c.begin.new.self.at in
    let rest = c.rest_of-rest.result.now in
    let fits : c.min-count.result ≤ length rest = omega (arith, c.min-count.ensures, c.min.ensures) in
    came_more c.begin.new.self.script.input rest c.copy_from_slice.new.self (drop c.min-count.result c.args.buf.now) at c.min-count.result
    (c.rest_of-rest.ensures ∙ ap (drop at) c.get.ensures) fits c.copy_from_slice.ensures.after
    ∙ ap (λ l. came_on l ++ take c.min-count.result (c.copy_from_slice.new.self ++ drop c.min-count.result c.args.buf.now))
    c.in_ok-begin.ensures.called
