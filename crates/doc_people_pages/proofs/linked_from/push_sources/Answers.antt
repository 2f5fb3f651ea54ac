use Rattle.std.proofs.Common.{◌++◌, ◌≢◌, ap, arith, codes, length, string_bytes, take, ◌∙◌}
use Rattle.std.specs.List.{flat_map}
use Rattle.std.proofs.lemmas.Grind.{common_steps}
use Rattle.doc_people.specs.Lines.{listed}
use Rattle.doc_people.specs.Pages.{all_sources_line, source_item}
use Rattle.doc_people_pages.proofs.LinkedSteps.{some_linked}
use Rattle.doc_people_lines.proofs.WriteSteps.{as_told, second_written}
use Rattle.doc_people_pages.proofs.linked_from.push_sources.Goals as goal

pub returns : goal.returns
returns g c =
    let render = g.V.Viewed.render c.args.view.now in
    let view = g.V.Viewed.view c.args.view.now in
    let some : length c.args.sources.now ≢ 0 = grind (arith, common_steps) in
    as_told c.push_all_sources_line.result _ _ _ _ (some_linked render view c.args.path.now c.args.sources.now some)
    (second_written c.push_all_sources_line.result
    (codes "<h2>Linked from</h2>\n" ++ listed (flat_map (source_item render view) (take 20 c.args.sources.now)))
    (all_sources_line c.args.path.now c.args.sources.now) _ _ _
    (c.in_ok-push_source_list.ensures ∙ ap (λ xs. string_bytes c.args.out.now
    ++ (codes "<h2>Linked from</h2>\n" ++ listed (flat_map (source_item render view) xs))) c.shown.ensures)
    c.push_all_sources_line.ensures)
