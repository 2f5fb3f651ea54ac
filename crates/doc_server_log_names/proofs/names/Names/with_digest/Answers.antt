use Rattle.std.proofs.Common.{◌∙◌, ap}
use Rattle.std.specs.FinMap as map
use Rattle.std.proofs.lemmas.Cmp.{nat_list_cmp_total}
use Rattle.std.proofs.lemmas.Map.Lookups.{exact_bytes}
use Rattle.doc_page_parts.proofs.Maps.{looked_up}
use Rattle.doc_server_log_names.specs.Names.{NameTable}
use Rattle.doc_server_log_names.proofs.names.Names.with_digest.Goals as goal

pub returns : goal.returns
returns c =
    c.get.ensures.value ∙ looked_up nat_list_cmp_total exact_bytes c.self.inside.rows.entries c.args.digest.now
    ∙ ap (λ (names : NameTable). map.get names c.args.digest.now) c.self.view_is
