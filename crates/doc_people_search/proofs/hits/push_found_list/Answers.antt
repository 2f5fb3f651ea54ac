use Rattle.std.proofs.Common.{codes, string_bytes}
use Rattle.std.specs.List.{flat_map}
use Rattle.doc_people.specs.Search.{best_of_them, hit_line, pages_found}
use Rattle.doc_people_search.proofs.HitSteps.{list_written}
use Rattle.doc_people_search.proofs.hits.push_found_list.Goals as goal

pub returns : goal.returns
returns g c =
    list_written (codes "<p class=\"found\">") (pages_found c.args.count) (best_of_them c.args.count)
    (codes "</p>\n<ol class=\"hits\">\n")
    (flat_map (hit_line (g.V.Viewed.render c.args.view.now) (g.V.Viewed.view c.args.view.now) c.args.terms.now) c.args.best.now)
    (codes "</ol>\n") (string_bytes c.args.out.now) _ _ _ _ _ _ c.in_ok-push_str.ensures.bytes c.in_ok-push_pages_found.ensures
    c.in_ok-push_best_of_them.ensures c.in_ok-push_str-2.ensures.bytes c.in_ok-push_hit_lines.ensures c.in_ok-push_str-3.ensures.bytes
