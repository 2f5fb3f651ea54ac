use Rattle.std.proofs.Common.{ap, sym, ◌∙◌}
use Rattle.std.specs.FinMap as map
use Rattle.std.specs.Map.{keys_of}
use Rattle.std.proofs.lemmas.Cmp.{nat_list_cmp_total}
use Rattle.std.proofs.lemmas.Map.Lookups.{exact_bytes}
use Rattle.doc_page_parts.proofs.Maps.{entries_in_order}
use Rattle.doc_media.proofs.held.HeldMedia.paths.Goals as goal

pub returns : goal.returns
returns c =
    c.keys.ensures.rest
    ∙ ap keys_of (sym (entries_in_order nat_list_cmp_total exact_bytes c.self.inside.entries.entries c.keys.ensures.ordered))
    ∙ ap map.keys c.self.view_is
