use Rattle.std.proofs.Common.{◌∙◌, ap}
use Rattle.std.specs.FinMap as map
use Rattle.std.proofs.lemmas.Cmp.{nat_list_cmp_total}
use Rattle.std.proofs.lemmas.Map.Lookups.{exact_bytes}
use Rattle.doc_page_parts.proofs.Maps.{inserted}
use Rattle.doc_server_log_names.proofs.names.Names.insert.Goals as goal

pub returns : goal.returns
returns c =
    inserted nat_list_cmp_total exact_bytes c.self.inside.rows.entries c.insert.new.self.entries c.args.digest c.args.reader
    c.in_ok-insert.ensures.updates.0
    ∙ ap (λ m. map.insert m c.args.digest c.args.reader) c.self.view_is
