use Rattle.std.proofs.Common.{◌++◌, ap, codes, sym, ◌∙◌}
use Rattle.std.specs.Prelude.{Some, option_copied, option_map}
use Rattle.doc_people.specs.Folders.{first_text, short, title_by}
use Rattle.doc_people.specs.Inert.{inert}
use Rattle.doc_people.specs.Pages.{heading_line, linked_from, listed_headings, on_this_page}
use Rattle.doc_people.specs.Shell.{shell}
use Rattle.doc_people.specs.Sources.{sources_of}
use Rattle.doc_people.specs.Views.{rendered_at}
use Rattle.doc_people_pages.proofs.PageSteps.{page_made}
use Rattle.doc_people_pages.proofs.page.page_body.Goals as goal

pub returns : goal.returns
returns g c =
    let render = g.V.Viewed.render c.args.view.now in
    let view = g.V.Viewed.view c.args.view.now in
    let path = c.args.path.now in
    let headings = c.in-Some-2.headings.now in
    page_made render c.args.frame.browse.now c.args.frame.offers view (g.V.Viewed.media c.args.view.now) path c.in-Some.html headings
    c.get-3.result.now c.as_str.result.now
    c.as_str-2.result.now c.in_ok-body.body
    (sym c.in-Some.is ∙ c.in_ok-html.ensures)
    (sym (ap option_copied c.in-Some-2.is) ∙ c.in_ok-headings.ensures
    ∙ ap (λ p. option_map (λ page. page.headings) (rendered_at render view p)) c.text.ensures)
    (c.get-3.ensures ∙ c.in_ok-short_title.ensures
    ∙ ap short (c.title.ensures ∙ ap (λ p. title_by p (first_text headings)) c.text-2.ensures))
    (c.as_str.ensures.value ∙ c.in_ok-push_article.ensures
    ∙ ap (λ t. t ++ (codes "<article>\n" ++ heading_line c.text-3.result.now headings ++ inert c.get-2.result.now ++ codes "</article>\n"))
    c.in_ok-main.ensures.bytes
    ∙ ap (λ p. codes "<article>\n" ++ heading_line p headings ++ inert c.get-2.result.now ++ codes "</article>\n") c.text-3.ensures
    ∙ ap (λ t. codes "<article>\n" ++ heading_line path headings ++ inert t ++ codes "</article>\n") c.get-2.ensures)
    (λ page at. c.as_str-2.ensures.value ∙ c.in_ok-push_beside.ensures page at
    ∙ ap (λ t. t ++ (on_this_page (listed_headings headings) ++ linked_from render view path (sources_of render view path)))
    c.new-aside.ensures.bytes)
    (c.in_ok-body.ensures
    ∙ ap (λ p. shell render c.args.frame.browse.now c.args.frame.offers view c.get-3.result.now (Some p) c.as_str.result.now
    c.as_str-2.result.now) c.text-4.ensures)
