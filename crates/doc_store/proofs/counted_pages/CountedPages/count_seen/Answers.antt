use Rattle.std.proofs.Common.{ap, ◌∙◌}
use Rattle.std.specs.Prelude.{Some, length, filter}
use Rattle.std.specs.FinMap as map
use Rattle.doc_store.proofs.PageCounts.{few_seen, owner_sees, reader_sees}
use Rattle.doc_store_readers.specs.Sites.{may_see}
use Rattle.doc_store.proofs.counted_pages.CountedPages.count_seen.Goals as goal

pub returns-then-reader : goal.returns-then-reader
returns-then-reader c =
    c.len-all.ensures.len ∙ owner_sees c.args.reader.now c.self.inside.pages c.if-reader.true
    ∙ ap (λ m. length (filter (λ page. may_see (Some c.args.reader.now) page.page) (map.values m))) c.self.view_is

pub count_met-requires : goal.count_met-requires
count_met-requires c =
    few_seen c.args.reader.now c.self.inside.pages c.self.inside.sets c.self.invariant.counts c.len-all.result c.len-all.ensures.len
    c.len-all.ensures.small

pub returns : goal.returns
returns c =
    c.count_met.ensures ∙ reader_sees c.args.reader.now c.self.inside.pages c.self.inside.sets c.self.invariant.counts c.if-reader.false
    ∙ ap (λ m. length (filter (λ page. may_see (Some c.args.reader.now) page.page) (map.values m))) c.self.view_is
