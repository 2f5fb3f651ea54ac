use Rattle.std.proofs.Common.{rules, refl}
use Rattle.doc_server_journal_records.proofs.FirstReadingLemmas.{none_there, not_none, whole, no_record, no_journal}
use Rattle.doc_server_journal_records.proofs.first.reading.read.Goals as goal

pub returns-then-is_empty : goal.returns-then-is_empty
returns-then-is_empty c =
    no_record c.args.bytes.now _ _ _ (λ begun one. c.if-bytes-eq1.false one) c.in_ok-records.ensures.records c.in_ok-records.ensures.digest
    c.in_ok-records.ensures.last (none_there _ _ _ (search rules) c.is_empty.ensures c.if-is_empty.true)

pub returns-then-not-is_end : goal.returns-then-not-is_end
returns-then-not-is_end c =
    no_journal c.args.bytes.now _ _ _ (λ begun one. c.if-bytes-eq1.false one) c.in_ok-records.ensures.records c.in_ok-records.ensures.digest
    c.in_ok-records.ensures.last (c.if-not-is_end.ensures.no refl)

pub returns : goal.returns
returns c =
    whole c.args.bytes.now _ _ _ (c.if-not-is_begun.ensures.yes refl) (not_none _ _ _ (search rules) c.is_empty.ensures c.if-is_empty.false)
    c.in_ok-records.ensures.records c.in_ok-records.ensures.digest (c.if-not-is_end.ensures.yes refl)
