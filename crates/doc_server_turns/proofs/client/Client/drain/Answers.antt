use Rattle.std.proofs.Common.{take, subst}
use Rattle.std.specs.Prelude.{Ok}
use Rattle.doc_server_network.specs.Networks.{Moves, came_len}
use Rattle.doc_server_turns.proofs.Tables.{drained}
use Rattle.doc_server_turns.proofs.client.Client.drain.Goals as goal

pub returns-in-Ok-Bytes-clause-lingers : goal.returns-in-Ok-Bytes-clause-lingers
returns-in-Ok-Bytes-clause-lingers g c =
    let old = g.N.Network.came c.args.net.now in let new = g.N.Network.came c.read.new.self in
    drained old new c.args.id (take c.in-Ok-Bytes.field-0-0 c.read.new.buf) c.args.self.now c.requires.closed
    (subst (λ x. Moves old new c.args.id (take (came_len (Ok x)) c.read.new.buf)) c.in-Ok-Bytes.field-0-is c.in-Ok-Bytes.ensures.came)
