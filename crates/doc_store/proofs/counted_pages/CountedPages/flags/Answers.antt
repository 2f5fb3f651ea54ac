use Rattle.std.proofs.Common.{ap, false, map as mapped, ◌∙◌}
use Rattle.std.specs.Prelude.{Some, slice_index_or}
use Rattle.std.specs.FinMap as map
use Rattle.doc_store.proofs.PageCounts.{flags_are, told}
use Rattle.doc_store_readers.specs.Maps.{map_values}
use Rattle.doc_store_readers.specs.Sites.{may_see}
use Rattle.doc_store.proofs.counted_pages.CountedPages.flags.Goals as goal

pub returns : goal.returns
returns c =
    told c.flags.result (
    ap (λ seen. mapped (λ number. slice_index_or seen number false) (map.values c.self.inside.numbers)) c.deref.ensures.value
    ∙ flags_are c.args.reader.now c.self.inside.pages c.self.inside.numbers c.self.inside.sets c.self.invariant c.in_ok-seen.seen.items
    c.in_ok-seen.ensures
    ∙ ap (λ m. mapped (λ page. may_see (Some c.args.reader.now) page.1) (map.entries (map_values (λ p. p.page) m))) c.self.view_is
    ) c.flags.ensures
