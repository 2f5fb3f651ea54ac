use Rattle.std.proofs.Common.{refl}
use Rattle.doc_server_journal_records.proofs.HeaderLemmas.{front_is_header}
use Rattle.doc_server_journal_records.proofs.header.behind_header.Goals as goal

pub returns-clause-none : goal.returns-clause-none
returns-clause-none c = λ none identity rest identity_is is.
    c.if-is_header.ensures.no refl identity identity_is
    (front_is_header c.args.bytes.now _ identity rest identity_is c.split_at.ensures.front is)
