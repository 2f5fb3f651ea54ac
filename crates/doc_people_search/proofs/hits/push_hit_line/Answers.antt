use Rattle.std.proofs.Common.{ap, codes, string_bytes, ◌++◌, ◌∙◌}
use Rattle.doc_people.specs.Lists.{page_and_path}
use Rattle.doc_people.specs.Search.{snippet_by}
use Rattle.doc_people.specs.Views.{rendered_at}
use Rattle.doc_people_search.proofs.HitSteps.{line_written}
use Rattle.doc_people_search.proofs.hits.push_hit_line.Goals as goal

pub returns : goal.returns
returns g c =
    line_written (codes "<li>")
    (page_and_path (g.V.Viewed.render c.args.view.now) (g.V.Viewed.view c.args.view.now) c.args.hit.now.path) (codes "\n<p>")
    (snippet_by c.args.terms.now c.args.hit.now.path
    (rendered_at (g.V.Viewed.render c.args.view.now) (g.V.Viewed.view c.args.view.now) c.args.hit.now.path))
    (codes "</p>") (codes "</li>\n") (string_bytes c.args.out.now) _ _ _ _ _ _ c.in_ok-push_str.ensures.bytes
    (c.in_ok-push_page_and_path.ensures ∙ ap (λ p. string_bytes c.push_str.new.self
    ++ page_and_path (g.V.Viewed.render c.args.view.now) (g.V.Viewed.view c.args.view.now) p) c.text.ensures)
    c.in_ok-push_str-2.ensures.bytes c.in_ok-push_snippet_at.ensures c.in_ok-push_str-3.ensures.bytes c.in_ok-push_str-4.ensures.bytes
