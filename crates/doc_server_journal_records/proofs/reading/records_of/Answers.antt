use Rattle.std.proofs.Common.{◌≡◌, ◌++◌, ◌∷◌, [], ◌∙◌, ap, arith, length}
use Rattle.doc_server_journal_records.proofs.ReadingLemmas.{going_on, its_size, last_is, counts_on, none_whole}
use Rattle.doc_server_journal_records.proofs.reading.records_of.Goals as goal

pub records-preserved : goal.records-preserved
records-preserved c =
    let inv = c.records.invariant in
    let next = c.in-Whole.ensures in
    let items : c.push.new.self.items ≡ c.records.texts.items ++ c.in-Whole.front.text.now ∷ [] =
    c.in_ok-push.ensures.items ∙ ap (λ x. c.records.texts.items ++ x ∷ []) c.in_ok-copy_of.ensures in
    let size = its_size _ next.0 _ _ next.1 in
    record {
      read = going_on _ _ _ _ _ _ _ _ _ next.0 inv.read next.1 next.2 next.3 items;
      count = counts_on _ _ _ _ _ _ _ inv.count items size;
      last = last_is _ _ _ _ items (omega (arith, size, ap length next.2));
    }

pub returns-clause-not_open : goal.returns-clause-not_open
returns-clause-not_open c = none_whole _ _ c.next_record.result c.next_record.ensures c.in_default.not-Whole
