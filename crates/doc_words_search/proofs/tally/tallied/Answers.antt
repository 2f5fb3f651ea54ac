use Rattle.std.proofs.Common.{◌≡◌, ◌++◌, ◌∷◌, [], ◌+◌, ap, ap₂, sym, refl, zero-le, ◌∙◌}
use Rattle.std.specs.FinMap as map
use Rattle.std.proofs.lemmas.List.{map-append}
use Rattle.doc_index_tables.specs.Maps.{shown}
use Rattle.doc_words_search.specs.Words.{capped, counts_of}
use Rattle.doc_words_search.proofs.TallySteps.{none_left, rising, run_more}
use Rattle.doc_words_search.proofs.tally.tallied.Goals as goal

pub words-init : goal.words-init
words-init c = record {
  within = zero-le;
  up = rising c.args.keys.now c.requires;
  left = sym (ap (λ es. shown es ++ map.entries (counts_of c.args.keys.now)) c.new-entries.ensures.items);
}

pub words-preserved : goal.words-preserved
words-preserved c =
    let after : shown c.push.new.self.items
    ≡ shown c.words.entries.items ++ (c.index-keys-at.result, capped (c.same_len-same.result + 1)) ∷ [] =
    ap shown c.in_ok-push.ensures.items
    ∙ map-append (λ e. (e.0.now, e.1)) c.words.entries.items ((c.text.result, c.saturating_add.result) ∷ [])
    ∙ ap₂ (λ t n. shown c.words.entries.items ++ (t, n) ∷ []) c.text.ensures c.saturating_add.ensures in
    let more = run_more c.args.keys.now c.words.at c.same_len-same.result c.index-keys-at.result _ _ (shown c.words.entries.items)
    (shown c.push.new.self.items) c.words-test.true c.index-keys-at.is refl c.same_len-same.ensures.value c.same_len-same.ensures.within
    c.words.invariant.up c.words.invariant.left after in
    record { within = more.0; up = more.1; left = more.2 }

pub returns : goal.returns
returns c = none_left c.args.keys.now c.words.at _ (shown c.words.entries.items) c.words-test.false c.words.invariant.left
