use Rattle.std.proofs.Common.{◌∙◌, ap}
use Rattle.std.specs.FinMap as map
use Rattle.std.proofs.lemmas.Cmp.{nat_list_cmp_total}
use Rattle.std.proofs.lemmas.Map.Lookups.{exact_bytes}
use Rattle.doc_page_parts.proofs.Maps.{inserted}
use Rattle.doc_store_readers.proofs.digest_set.DigestSet.insert.Goals as goal

pub returns-clause-ok : goal.returns-clause-ok
returns-clause-ok c =
    inserted nat_list_cmp_total exact_bytes c.self.inside.entries.entries c.insert.new.self.entries c.args.digest tt
    c.in_ok-insert.ensures.updates.0
    ∙ ap (λ m. map.insert m c.args.digest tt) c.self.view_is
