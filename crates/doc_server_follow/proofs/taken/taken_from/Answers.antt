use Rattle.std.proofs.Common.{◌≡◌, ◌++◌, ◌∷◌, [], ◌∙◌, ap, subst, arith}
use Rattle.doc_server_journal_records.specs.Readings.{IsNext}
use Rattle.doc_server_follow.proofs.TakenLemmas.{goes_on, fewer}
use Rattle.doc_server_follow.proofs.taken.taken_from.Goals as goal

pub records-preserved : goal.records-preserved
records-preserved c =
    let inv = c.records.invariant in
    let next = subst (λ n. IsNext c.records.digest c.records.rest.now n) c.in-Whole.is inv.next in
    let items : c.push.new.self.items ≡ c.records.texts.items ++ c.in-Whole.front.text.now ∷ [] =
    c.in_ok-push.ensures.items ∙ ap (λ x. c.records.texts.items ++ x ∷ []) c.in_ok-copy_of.ensures in
    record {
      read = goes_on _ _ _ _ _ _ _ _ _ next.0 inv.read next.1 next.2 next.3 items;
      within = omega (arith, inv.within, fewer _ next.0 _ _ next.1);
      next = c.next_record-next-in-Whole.ensures;
    }
