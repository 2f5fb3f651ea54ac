use Rattle.std.proofs.Common.{◌<◌, length, arith}
use Rattle.doc_server_journal_records.proofs.FirstReadingLemmas.{no_tail}
use Rattle.doc_server_journal_records.proofs.first.front.is_tail.Goals as goal

pub returns-in-Some-clause-no : goal.returns-in-Some-clause-no
returns-in-Some-clause-no c = λ more.
    let long : 1 < length c.in-Some.front.rest.now = grind (arith, more) in
    no_tail _ _ _ _ c.in-Some.ensures.found.0 long
