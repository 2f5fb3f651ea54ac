use Rattle.std.proofs.Common.{ap, length, sym, ◌∙◌}
use Rattle.std.proofs.lemmas.List.{length-map}
use Rattle.std.specs.FinMap as map
use Rattle.doc_server_network.proofs.reloading.page_count.Goals as goal

pub returns : goal.returns
returns g =
    g.len.ensures.value
    ∙ sym (length-map g.pages.result (λ entry. (entry.0, entry.1.page)))
    ∙ ap length g.pages.ensures
    ∙ sym (map.len-entries g.args.store.now.site.pages)
