-- Worked examples.
use Rattle.std.proofs.Common.{◌≡◌, codes, refl}
use Rattle.std.specs.Prelude.{Some, None}
use Rattle.std.specs.Fmt.{digits}
use Rattle.doc_server_log_names.specs.Names.{shown_found}

named : shown_found (Some (record { row = 3; name = Some (codes "ann") })) ≡ codes "ann"
named = refl

without_a_name : shown_found (Some (record { row = 3; name = None })) ≡ codes "reader-3"
unfolding digits
without_a_name = refl

nobody : shown_found None ≡ codes "-"
nobody = refl
