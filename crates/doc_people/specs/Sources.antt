-- Which pages of a view link to which. All of this is this project's choice.
use Rattle.std.specs.Prelude.{ℕ, List, map as mapped, filter, not, bytes_eq}
use Rattle.std.specs.List.{flat_map}
use Rattle.doc_links_pages.specs.Links.{backlinks}
use Rattle.doc_links_pages.specs.PageLinks.{page_links}
use Rattle.doc_links_pages.specs.declared.answers.Broken.{Broken}
use Rattle.doc_links_pages.specs.declared.page_links.PageLinks.{PageLinks}
use Rattle.doc_media.specs.Media.{Beside}
use Rattle.doc_media_links.specs.Images.{told_of}
use Rattle.doc_page_parts.specs.declared.rendered.Rendered.{Rendered}
use Rattle.doc_store_readers.specs.Sites.{View, goal_in}
use Rattle.doc_people.specs.Views.{Renders, rendered_pages}

-- what a page at a path links to, and its headings
abbrev pub links_in : List ℕ × Rendered → List ℕ × PageLinks
links_in page = (page.0, page_links page.0 page.1.pieces page.1.headings)

-- the pages of a view with these, in the order of their paths
abbrev pub linked_pages : Renders → View → List (List ℕ × PageLinks)
linked_pages render view = mapped links_in (rendered_pages render view)

-- the other pages that link to a page, by its path or by an alias, each with the number of its links
abbrev pub sources_of : Renders → View → List ℕ → List (List ℕ × ℕ)
sources_of render view path =
    filter (λ source. not (bytes_eq source.0 path)) (backlinks (goal_in view) (linked_pages render view) path)

-- page by page the links that are broken where a reader sees these media, and behind them the images that show nothing
abbrev pub broken_links : Renders → View → Beside → List Broken
broken_links render view media = flat_map (told_of (goal_in view) (linked_pages render view) media) (rendered_pages render view)
