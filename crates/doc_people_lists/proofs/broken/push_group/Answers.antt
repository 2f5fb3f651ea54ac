use Rattle.std.proofs.Common.{◌++◌, ap, codes, string_bytes, take, ◌∙◌}
use Rattle.std.specs.List.{flat_map}
use Rattle.doc_people.specs.BrokenLinks.{broken_row, more_row, source_row}
use Rattle.doc_people_lines.proofs.WriteSteps.{fivefold}
use Rattle.doc_people_lists.proofs.broken.push_group.Goals as goal

pub returns : goal.returns
returns g c =
    fivefold (codes "<tbody>\n") (source_row (g.V.Viewed.render c.args.view.now) (g.V.Viewed.view c.args.view.now) c.args.source.now)
    (flat_map (broken_row c.args.frame.offers (g.V.Viewed.view c.args.view.now) (g.V.Viewed.media c.args.view.now)) (take 50 c.args.links.now))
    (more_row c.args.links.now) (codes "</tbody>\n") _ _ _ _ _ _ c.in_ok-push_str.ensures.bytes c.in_ok-push_source_row.ensures
    (c.in_ok-push_rows.ensures ∙ ap (λ ls. string_bytes c.push_source_row.new.out
    ++ flat_map (broken_row c.args.frame.offers (g.V.Viewed.view c.args.view.now) (g.V.Viewed.media c.args.view.now)) ls) c.shown_links.ensures)
    c.in_ok-push_more_row.ensures c.in_ok-push_str-2.ensures.bytes
