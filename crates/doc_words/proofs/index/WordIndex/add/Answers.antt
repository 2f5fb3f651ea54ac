use Rattle.std.proofs.Common.{ap, ap₂, ◌∙◌}
use Rattle.std.specs.FinMap as map
use Rattle.doc_index_tables.proofs.TableSteps.{on_ok}
use Rattle.doc_words_search.proofs.HeldSteps.{none_held, words_inserted}
use Rattle.doc_words.proofs.index.WordIndex.add.Goals as goal

pub add_counts-requires : goal.add_counts-requires
add_counts-requires c = record {
  free = none_held c.self.inside.pages (c.args.path.now, c.args.stamp)
      (ap (λ m. map.get m (c.args.path.now, c.args.stamp)) c.self.view_is ∙ c.requires.free);
}

pub returns-clause-ok : goal.returns-clause-ok
returns-clause-ok c =
    on_ok c.add_counts.result (λ is.
    words_inserted c.self.inside.pages c.add_counts.new.self (c.args.path.now, c.args.stamp) _ is
    ∙ ap₂ (λ m counts. map.insert m (c.args.path.now, c.args.stamp) counts) c.self.view_is c.in_ok-counts.ensures)
    c.add_counts.ensures.ok
