use Rattle.std.proofs.Common.{length, ap}
use Rattle.doc_server_follow.proofs.BegunLemmas.{has_header, is_begun}
use Rattle.doc_server_follow.proofs.followed.begin.Goals as goal

pub header_of-requires : goal.header_of-requires
header_of-requires c = has_header c.args.bytes.now c.in_ok-found.found c.in_ok-found.ensures.found

pub returns-clause-begun : goal.returns-clause-begun
returns-clause-begun c =
    is_begun c.args.bytes.now c.in_ok-found.found c.in_ok-found.ensures.found _ _ c.header_of.ensures (ap length c.get.ensures)
