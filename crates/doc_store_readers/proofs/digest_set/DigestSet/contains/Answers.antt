use Rattle.std.proofs.Common.{◌∙◌, ap, is_some}
use Rattle.std.specs.FinMap as map
use Rattle.std.proofs.lemmas.Cmp.{nat_list_cmp_total}
use Rattle.std.proofs.lemmas.Map.Lookups.{exact_bytes}
use Rattle.doc_page_parts.proofs.Maps.{looked_up}
use Rattle.doc_store_readers.proofs.digest_set.DigestSet.contains.Goals as goal

pub returns : goal.returns
returns c =
    c.contains_key.ensures ∙ ap is_some (looked_up nat_list_cmp_total exact_bytes c.self.inside.entries.entries c.args.digest.now
    ∙ ap (λ m. map.get m c.args.digest.now) c.self.view_is)
