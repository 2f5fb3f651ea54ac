-- What a view shows of its pages. All of this is this project's choice.
use Rattle.std.specs.Prelude.{ℕ, List, Bool, map as mapped, Option, is_some, option_map}
use Rattle.doc_page_parts.specs.declared.rendered.Rendered.{Rendered}
use Rattle.doc_store_readers.specs.Sites.{View, page_at}

-- what a renderer makes of each text
abbrev pub Renders : Type 0
Renders = List ℕ → Rendered

-- the paths of the pages, in order
abbrev pub paths : View → List (List ℕ)
paths view = mapped (λ page. page.0) view.pages

-- the path is that of a page
abbrev pub sees : View → List ℕ → Bool
sees view path = is_some (page_at view.pages path)

-- what the renderer makes of the text of the page at this path
abbrev pub rendered_at : Renders → View → List ℕ → Option Rendered
rendered_at render view path = option_map (λ page. render page.text) (page_at view.pages path)

-- the pages, each with what the renderer makes of its text
abbrev pub rendered_pages : Renders → View → List (List ℕ × Rendered)
rendered_pages render view = mapped (λ page. (page.0, render page.1.text)) view.pages
