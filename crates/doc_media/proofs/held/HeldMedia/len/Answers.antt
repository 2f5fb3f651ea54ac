use Rattle.std.proofs.Common.{◌∙◌, ap}
use Rattle.std.specs.FinMap as map
use Rattle.std.proofs.lemmas.Cmp.{nat_list_cmp_total}
use Rattle.std.proofs.lemmas.Map.Lookups.{exact_bytes}
use Rattle.doc_page_parts.proofs.Maps.{len-sorted}
use Rattle.doc_media.proofs.held.HeldMedia.len.Goals as goal

pub returns : goal.returns
returns c =
    c.len.ensures.len ∙ len-sorted nat_list_cmp_total exact_bytes c.self.inside.entries.entries c.len.ensures.ordered
    ∙ ap map.len c.self.view_is
