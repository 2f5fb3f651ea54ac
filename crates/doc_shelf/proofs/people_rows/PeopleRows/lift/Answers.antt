use Rattle.std.proofs.Common.{ap, ◌∙◌}
use Rattle.std.specs.Prelude.{Some, option_map}
use Rattle.doc_shelf.proofs.people_rows.PeopleRows.lift.Goals as goal

pub returns : goal.returns
returns c linking pages page found same links are = record {
  by_group = c.lift.ensures pages (ap (option_map (λ page. page.groups)) found ∙ ap Some same) are.by_group;
  by_link = c.lift-2.ensures linking pages page found same links are.by_link;
}
