use Rattle.std.proofs.Common.{sym, subst, refl, length, ◌+◌}
use Rattle.doc_server_journal_records.specs.Readings.{IsDamaged}
use Rattle.doc_server_journal_records.proofs.ReadingLemmas.{found, damaged}
use Rattle.doc_server_journal_records.proofs.reading.read.Goals as goal

pub returns-then-not-is_end-clause-refused : goal.returns-then-not-is_end-clause-refused
returns-then-not-is_end-clause-refused c =
    let head = c.in-Some.ensures.found in
    let is = damaged c.args.bytes.now _ _ head.0 _ head.1 head.2 head.3 (c.seed_of.ensures head.0 head.2) _ _ _
    c.in_ok-records.ensures.records c.in_ok-records.ensures.not_open (c.if-not-is_end.ensures.no refl) in
    subst (λ ts. IsDamaged c.args.bytes.now (length ts + 1)) (sym c.get.ensures) is

pub returns-clause-found : goal.returns-clause-found
returns-clause-found c =
    let head = c.in-Some.ensures.found in
    found c.args.bytes.now _ _ head.0 _ head.1 head.2 head.3 (c.seed_of.ensures head.0 head.2) _ _ _
    c.in_ok-records.ensures.records _ _ (c.if-not-is_end.ensures.yes refl) refl c.in_ok-records.ensures.last
