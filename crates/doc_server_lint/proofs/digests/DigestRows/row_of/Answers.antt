use Rattle.std.proofs.Common.{◌∙◌, ap}
use Rattle.std.specs.FinMap as map
use Rattle.std.proofs.lemmas.Cmp.{nat_list_cmp_total}
use Rattle.std.proofs.lemmas.Map.Lookups.{exact_bytes}
use Rattle.doc_page_parts.proofs.Maps.{looked_up}
use Rattle.doc_server_lint.proofs.digests.DigestRows.row_of.Goals as goal

pub returns-in-None : goal.returns-in-None
returns-in-None c =
    c.in-None.ensures.value
    ∙ looked_up nat_list_cmp_total exact_bytes c.self.inside.entries.entries c.args.digest.now
    ∙ ap (λ m. map.get m c.args.digest.now) c.self.view_is

pub returns-in-Some : goal.returns-in-Some
returns-in-Some c =
    c.in-Some.ensures.value
    ∙ looked_up nat_list_cmp_total exact_bytes c.self.inside.entries.entries c.args.digest.now
    ∙ ap (λ m. map.get m c.args.digest.now) c.self.view_is
