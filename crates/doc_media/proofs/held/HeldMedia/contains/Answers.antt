use Rattle.std.proofs.Common.{◌∙◌, ap, is_some}
use Rattle.std.specs.FinMap as map
use Rattle.std.proofs.lemmas.Cmp.{nat_list_cmp_total}
use Rattle.std.proofs.lemmas.Map.Lookups.{exact_bytes}
use Rattle.doc_page_parts.proofs.Maps.{looked_up}
use Rattle.doc_media.proofs.held.HeldMedia.contains.Goals as goal

pub returns : goal.returns
returns c =
    c.contains_key.ensures ∙ ap is_some (looked_up nat_list_cmp_total exact_bytes c.self.inside.entries.entries c.args.path.now)
    ∙ ap (λ m. is_some (map.get m c.args.path.now)) c.self.view_is
