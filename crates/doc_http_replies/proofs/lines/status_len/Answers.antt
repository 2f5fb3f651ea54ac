use Rattle.std.proofs.Common.{ap, arith, length}
use Rattle.doc_http_replies.proofs.StatusLemmas.{reason_is_short}
use Rattle.doc_http_replies.proofs.lines.status_len.Goals as goal

pub returns-clause-short : goal.returns-clause-short
returns-clause-short c =
    let short = reason_is_short c.args.code in
    let same = ap length c.reason.ensures in
    omega arith
