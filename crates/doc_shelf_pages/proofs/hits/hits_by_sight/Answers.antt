use Rattle.std.proofs.Common.{◌∙◌}
use Rattle.doc_index.proofs.OrderSteps.{told}
use Rattle.doc_shelf_pages.proofs.ListSteps.{count_is, hits_are}
use Rattle.doc_shelf_pages.proofs.hits.hits_by_sight.Goals as goal

pub search_among-requires : goal.search_among-requires
search_among-requires c = record {
  count = c.count_seen-count.ensures
      ∙ count_is c.requires.kept.0 c.args.store.now c.args.kept.now c.args.reader.now c.requires.kept.1 c.requires.kept.2
      c.sight-sight.result c.sight-sight.ensures c.words.result.now c.words.ensures;
}

pub returns : goal.returns
returns c render k =
    told c.search_among.result (λ hits are.
    hits_are render c.args.store.now c.args.kept.now c.args.reader.now c.requires.kept.1 k c.sight-sight.result c.sight-sight.ensures
    c.words.result.now c.words.ensures c.args.words.now hits are) c.search_among.ensures
