use Rattle.std.proofs.Common.{Some, ap, ◌∙◌, option_map}
use Rattle.toml.specs.View.{items_view}
use Rattle.doc_server_lint_faults.specs.RowPlaces.{count_items}
use Rattle.doc_server_lint_faults.proofs.row_line.items_of.Goals as goal

pub returns-in-Some : goal.returns-in-Some
returns-in-Some c =
    let here = rw c.in-Some.is at c.as_array.ensures in
    ap Some c.count.ensures ∙ ap (λ values. Some (count_items (items_view values))) c.deref.ensures.value ∙ ap (option_map count_items) here
