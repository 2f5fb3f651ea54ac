-- A page that is seen, from what is asked of its view.
use Rattle.std.proofs.Common.{◌≡◌, ℕ, List, ◌++◌, codes, ap, ◌∙◌, refl}
use Rattle.std.specs.Prelude.{Option, Some, None, option_map}
use Rattle.doc_page_parts.specs.Pages.{filled}
use Rattle.doc_page_parts.specs.declared.rendered.Heading.{Heading}
use Rattle.doc_page_parts.specs.declared.rendered.Rendered.{Rendered}
use Rattle.doc_media.specs.Media.{Beside}
use Rattle.doc_media_links.specs.MediaLinks.{shown_beside}
use Rattle.doc_store_readers.specs.Pages.{Page}
use Rattle.doc_store_readers.specs.Sites.{View, goal_in, page_at}
use Rattle.doc_people.specs.Folders.{first_text, short, title_by}
use Rattle.doc_people.specs.Inert.{inert}
use Rattle.doc_people.specs.Pages.{heading_line, linked_from, listed_headings, on_this_page, page_body}
use Rattle.doc_people.specs.Shell.{shell}
use Rattle.doc_people.specs.Sources.{sources_of}
use Rattle.doc_people.specs.Views.{Renders, rendered_at}
use Rattle.doc_people.specs.declared.settings.Browse.{Browse}
use Rattle.doc_people.specs.declared.settings.Offers.{Offers}

module _ (render : Renders) (settings : Browse) (offers : Offers) (view : View) (media : Beside) (path : List ℕ) where
  -- what the page is, by what the renderer makes of its text
  abbrev page_by : Option Rendered → Option (List ℕ)
  page_by rendered = option_map (page_body render settings offers view media path) rendered

  -- the parts of a page
  module _ (html : List ℕ) (headings : List Heading) (title main aside body : List ℕ) where
    made : (rendered : Rendered) → html ≡ filled (shown_beside (goal_in view) media path) rendered → headings ≡ rendered.headings
        → title ≡ short (title_by path (first_text headings))
        → main ≡ codes "<article>\n" ++ heading_line path headings ++ inert html ++ codes "</article>\n"
        → aside ≡ on_this_page (listed_headings headings) ++ linked_from render view path (sources_of render view path)
        → body ≡ shell render settings offers view title (Some path) main aside
        → body ≡ page_body render settings offers view media path rendered
    unfolding page_body
    made rendered filled_is headings_are title_is main_is aside_is body_is =
        body_is
        ∙ ap (λ t. shell render settings offers view t (Some path) main aside)
        (title_is ∙ ap (λ hs. short (title_by path (first_text hs))) headings_are)
        ∙ ap (λ t. shell render settings offers view (short (title_by path (first_text rendered.headings))) (Some path) t aside)
        (main_is ∙ ap (λ hs. codes "<article>\n" ++ heading_line path hs ++ inert html ++ codes "</article>\n") headings_are
        ∙ ap (λ t. codes "<article>\n" ++ heading_line path rendered.headings ++ inert t ++ codes "</article>\n") filled_is)
        ∙ ap (λ t. shell render settings offers view (short (title_by path (first_text rendered.headings))) (Some path)
        (codes "<article>\n" ++ heading_line path rendered.headings ++ inert (filled (shown_beside (goal_in view) media path) rendered)
        ++ codes "</article>\n") t)
        (aside_is ∙ ap (λ hs. on_this_page (listed_headings hs) ++ linked_from render view path (sources_of render view path)) headings_are)

    made_at : (seen : Option Page) → page_at view.pages path ≡ seen
        → Some html ≡ option_map (filled (shown_beside (goal_in view) media path)) (option_map (λ (page : Page). render page.text) seen)
        → Some headings ≡ option_map (λ (page : Rendered). page.headings) (option_map (λ (page : Page). render page.text) seen)
        → title ≡ short (title_by path (first_text headings))
        → main ≡ codes "<article>\n" ++ heading_line path headings ++ inert html ++ codes "</article>\n"
        → ((page : Page) → page_at view.pages path ≡ Some page
        → aside ≡ on_this_page (listed_headings headings) ++ linked_from render view path (sources_of render view path))
        → body ≡ shell render settings offers view title (Some path) main aside
        → Some body ≡ page_by (option_map (λ (page : Page). render page.text) seen)
    made_at None at html_is headings_are title_is main_is aside_is body_is = cc
    made_at (Some page) at html_is headings_are title_is main_is aside_is body_is =
        let filled_is : html ≡ filled (shown_beside (goal_in view) media path) (render page.text) = cc html_is in
        let same : headings ≡ (render page.text).headings = cc headings_are in
        ap Some (made (render page.text) filled_is same title_is main_is (aside_is page at) body_is)

    pub page_made : Some html ≡ option_map (filled (shown_beside (goal_in view) media path)) (rendered_at render view path)
        → Some headings ≡ option_map (λ (page : Rendered). page.headings) (rendered_at render view path)
        → title ≡ short (title_by path (first_text headings))
        → main ≡ codes "<article>\n" ++ heading_line path headings ++ inert html ++ codes "</article>\n"
        → ((page : Page) → page_at view.pages path ≡ Some page
        → aside ≡ on_this_page (listed_headings headings) ++ linked_from render view path (sources_of render view path))
        → body ≡ shell render settings offers view title (Some path) main aside
        → Some body ≡ page_by (rendered_at render view path)
    page_made html_is headings_are title_is main_is aside_is body_is =
        made_at (page_at view.pages path) refl html_is headings_are title_is main_is aside_is body_is
