use Rattle.std.proofs.Common.{ap, length, sym, ◌∙◌}
use Rattle.std.proofs.lemmas.List.{length-map}
use Rattle.std.specs.FinMap as map
use Rattle.doc_hub.specs.Worlds.{World}
use Rattle.doc_store.specs.Store.{StoreState}
use Rattle.doc_hub.proofs.hub.Hub.len.Goals as goal

pub returns : goal.returns
returns g c =
    c.len.ensures.value
    ∙ sym (length-map c.pages.result (λ entry. (entry.0, entry.1.page)))
    ∙ ap length c.pages.ensures
    ∙ sym (map.len-entries c.store.result.now.site.pages)
    ∙ ap (λ (s : StoreState). map.len s.site.pages) c.store.ensures
    ∙ ap (λ (w : World). map.len w.site.pages) (λ i. (c.self.view_is i).1)
