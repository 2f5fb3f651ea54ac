-- The images of the pages of a store, as they are told behind the broken links of their pages. All of this is this project's choice.
use Rattle.std.specs.Prelude.{ℕ, List, [], Option, Some, None}
use Rattle.std.specs.FinMap as map
use Rattle.doc_links_pages.specs.declared.answers.Broken.{Broken}
use Rattle.doc_media.specs.Media.{Beside}
use Rattle.doc_media_links.specs.Images.{broken_images}
use Rattle.doc_page_parts.specs.declared.rendered.Rendered.{Rendered}
use Rattle.doc_store.specs.Store.{StoreState}
use Rattle.doc_store_readers.specs.Pages.{Page}
use Rattle.doc_shelf_pages.specs.Views.{Renders}

-- the images of what a renderer makes of a page, where there is one
abbrev pub images_made : Renders → Option Page → List (List ℕ)
images_made render None = []
images_made render (Some page) = (render page.text).images

-- those of the page at a path, whoever sees it
abbrev pub images_of : Renders → StoreState → List ℕ → List (List ℕ)
images_of render store path = images_made render (map.get store.site.pages path)

-- what is told of them
abbrev pub images_behind : Renders → StoreState → Beside → List ℕ → List Broken
images_behind render store media path = broken_images media path (images_of render store path)

-- what is told of the images of a rendering of the page at a path, where there is one
abbrev pub told_images : Beside → List ℕ → Option Rendered → List Broken
told_images media path None = []
told_images media path (Some page) = broken_images media path page.images
