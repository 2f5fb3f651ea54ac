use Rattle.std.proofs.Common.{◌≡◌, ◌++◌, ◌∷◌, [], ◌∙◌, refl, ap}
use Rattle.doc_server_journal_records.proofs.FirstReadingLemmas.{going_on}
use Rattle.doc_server_journal_records.proofs.first.reading.records_of.Goals as goal

pub records-preserved : goal.records-preserved
records-preserved c =
    let inv = c.records.invariant in
    let items : c.push.new.self.items ≡ c.records.texts.items ++ c.in-Some.front.text.now ∷ [] =
    c.in_ok-push.ensures.items ∙ ap (λ x. c.records.texts.items ++ x ∷ []) c.in_ok-copy_of.ensures in
    let next = going_on _ _ _ _ _ _ _ _ inv.records inv.digest inv.count c.in-Some.ensures.found.0 c.in-Some.ensures.found.1 items in
    record { records = next.0; digest = next.1; count = next.2 }

pub returns-clause-last : goal.returns-clause-last
returns-clause-last c = c.in_default.ensures.none refl
