use Rattle.std.proofs.Common.{false, Some, sym, ap, ◌∙◌}
use Rattle.std.specs.Prelude.{option_map}
use Rattle.doc_rules.specs.Tables.{aligned}
use Rattle.doc_tables.proofs.AlignmentLaws.{no_colon}
use Rattle.doc_tables.proofs.alignment.alignment_of.Goals as goal

pub returns-in_ok-some_dashes-in-None : goal.returns-in_ok-some_dashes-in-None
returns-in_ok-some_dashes-in-None c =
    ap Some c.aligned-in-None.ensures
    ∙ ap (option_map (aligned false)) c.in_ok-some_dashes-in-None.ensures
    ∙ sym (no_colon _ c.in-None.ensures)
