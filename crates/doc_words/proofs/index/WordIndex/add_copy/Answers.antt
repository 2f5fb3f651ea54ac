use Rattle.std.proofs.Common.{ap, ◌∙◌}
use Rattle.std.specs.FinMap as map
use Rattle.doc_index_tables.proofs.TableSteps.{on_ok}
use Rattle.doc_words_search.specs.Held.{counts_or_none}
use Rattle.doc_words_search.proofs.HeldSteps.{counts_held, none_held, words_inserted}
use Rattle.doc_words.proofs.index.WordIndex.add_copy.Goals as goal

pub add_copy-requires : goal.add_copy-requires
add_copy-requires c = record {
  free = none_held c.self.inside.pages (c.args.to.now, c.args.stamp)
      (ap (λ m. map.get m (c.args.to.now, c.args.stamp)) c.self.view_is ∙ c.requires.free);
}

pub returns-clause-ok : goal.returns-clause-ok
returns-clause-ok c =
    on_ok c.add_copy.result (λ is.
    words_inserted c.self.inside.pages c.add_copy.new.self (c.args.to.now, c.args.stamp) _ is
    ∙ ap (map.insert _ (c.args.to.now, c.args.stamp)) (counts_held c.self.inside.pages (c.args.from.now, c.args.from_stamp))
    ∙ ap (λ m. map.insert m (c.args.to.now, c.args.stamp) (counts_or_none (map.get m (c.args.from.now, c.args.from_stamp)))) c.self.view_is)
    c.add_copy.ensures.ok
