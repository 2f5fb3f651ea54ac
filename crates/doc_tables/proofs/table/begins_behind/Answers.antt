use Rattle.std.proofs.Common.{rules, ◌≡◌, true, false, ◌∙◌, sym, refl}
use Rattle.doc_rules.specs.Tables.{has_table}
use Rattle.doc_tables.proofs.LineLaws.{first_line_is, rest_of_cut}
use Rattle.doc_tables.proofs.TextLaws.{begins_here, begins_later, begins_nowhere}
use Rattle.doc_tables.proofs.table.begins_behind.Goals as goal

pub front-requires : goal.front-requires
front-requires c = rest_of_cut _ _ c.line_end-end.ensures

pub returns-then-begins_below : goal.returns-then-begins_below
returns-then-begins_below c =
    let passed : c.begins_below.result ≡ true = search rules in
    begins_here _ _ _ _ (first_line_is _ _ _ _ c.line_end-end.ensures c.front.ensures.joins refl) (sym passed ∙ c.begins_below.ensures)

pub returns-in-Some : goal.returns-in-Some
unfolding has_table
returns-in-Some c =
    let failed : c.begins_below.result ≡ false = search rules in
    begins_later _ _ _ _ _ (first_line_is _ _ _ _ c.line_end-end.ensures c.front.ensures.joins refl)
    (sym failed ∙ c.begins_below.ensures) c.has_table.ensures

pub returns-in-None : goal.returns-in-None
returns-in-None c =
    let failed : c.begins_below.result ≡ false = search rules in
    begins_nowhere _ _ _ _ (first_line_is _ _ _ _ c.line_end-end.ensures c.front.ensures.joins refl)
    (sym failed ∙ c.begins_below.ensures) (sym c.in-None.ensures)
