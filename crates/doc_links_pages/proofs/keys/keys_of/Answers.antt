use Rattle.std.proofs.Common.{ap, sym, subst, ◌∙◌}
use Rattle.std.specs.FinMap as map
use Rattle.doc_index_tables.specs.Maps.{by_bytes}
use Rattle.doc_links_pages.specs.KnownSteps.{HasSome, count_at}
use Rattle.doc_links_pages.proofs.CountSteps.{none_counted, none_some}
use Rattle.doc_links_pages.proofs.keys.keys_of.Goals as goal

pub loop-link-init : goal.loop-link-init
loop-link-init c = (
  λ path. ap (λ es. count_at (map.from_entries (by_bytes es)) path) c.new-keys.ensures.empty ∙ none_counted path,
  subst (λ es. HasSome (map.from_entries (by_bytes es))) (sym c.new-keys.ensures.empty) none_some,
)
