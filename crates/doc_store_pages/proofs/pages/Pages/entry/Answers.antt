use Rattle.std.proofs.Common.{◌∙◌, ap}
use Rattle.std.specs.FinMap as map
use Rattle.std.proofs.lemmas.Cmp.{nat_list_cmp_total}
use Rattle.std.proofs.lemmas.Map.Lookups.{exact_bytes}
use Rattle.doc_page_parts.proofs.Maps.{looked_up}
use Rattle.doc_store_readers.proofs.KeySteps.{entry_is}
use Rattle.doc_store_pages.proofs.pages.Pages.entry.Goals as goal

pub returns-clause-page : goal.returns-clause-page
returns-clause-page c =
    c.get_key_value.ensures.value ∙ looked_up nat_list_cmp_total exact_bytes c.self.inside.entries.entries c.args.path.now
    ∙ ap (λ m. map.get m c.args.path.now) c.self.view_is

pub returns-clause-path : goal.returns-clause-path
returns-clause-path c =
    entry_is c.args.path.now c.get_key_value.result _ c.get_key_value.ensures.same_key
    (c.get_key_value.ensures.value ∙ looked_up nat_list_cmp_total exact_bytes c.self.inside.entries.entries c.args.path.now
    ∙ ap (λ m. map.get m c.args.path.now) c.self.view_is)
