use Rattle.doc_index_tables.proofs.PairEnds.{last_below, none_yet}
use Rattle.doc_index_tables.proofs.pairs.Pairs.search.Goals as goal
use Rattle.doc_index_tables.proofs.pairs.Pairs.search.Goals.{then-count-eq0-via-then-count-eq0, then-count-eq0-via-else-count-eq0+then-at-first}

pub returns-then-count-eq0-clause-place : goal.returns-then-count-eq0-clause-place
returns-then-count-eq0-clause-place c = elim c.then-count-eq0.branch [
  | then-count-eq0-via-then-count-eq0 w ↦ none_yet c.args.first c.args.self.now c.len-count.result c.len-count.ensures w.if-count-eq0.true
  | then-count-eq0-via-else-count-eq0+then-at-first w ↦
      last_below c.args.first c.args.self.now c.len-count.result c.len-count.ensures w.at.result w.if-count-eq0.false w.at.ensures
      w.if-at-first.true
]
