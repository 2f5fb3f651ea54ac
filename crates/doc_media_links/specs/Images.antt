-- Images that show nothing where their reader sees these media. An image's source leads where a link with that destination would. All of this
-- is this project's choice.
use Rattle.std.specs.Prelude.{ℕ, suc, List, [], ◌∷◌, ◌++◌, codes, Option, Some, None, if◌then◌else◌}
use Rattle.doc_links_pages.specs.Links.{broken_from}
use Rattle.doc_links_pages.specs.PageLinks.{page_links}
use Rattle.doc_links_pages.specs.declared.answers.Broken.{Broken}
use Rattle.doc_links_pages.specs.declared.answers.Reason.TheVariants as reasons
use Rattle.doc_links_pages.specs.declared.page_links.PageLinks.{PageLinks}
use Rattle.doc_media.specs.Media.{Beside}
use Rattle.doc_media_links.specs.MediaLinks.{broken_beside, sees_medium}
use Rattle.doc_page_parts.specs.declared.rendered.Rendered.{Rendered}
use Rattle.doc_resolve.specs.Links.{classify}
use Rattle.doc_resolve.specs.declared.link_kind.LinkKind.{LinkKind}
use Rattle.doc_resolve.specs.declared.link_kind.LinkKind.TheVariants.{External, Page, Nowhere}

-- what is told of an image that shows nothing: the path that its source writes, where no medium that is seen stands, though a page may; or
-- that it writes none. One out of the site isn't looked at
abbrev pub image_fault : Beside → LinkKind → Option (List ℕ)
image_fault media External = None
image_fault media (Page path anchor) = if sees_medium media path then None else Some path
image_fault media Nowhere = Some (codes "-")

abbrev pub image_by : List ℕ → ℕ → Option (List ℕ) → List Broken
image_by source place None = []
image_by source place (Some target) = record { source = source; place = place; reason = reasons.Image; target = target } ∷ []

-- those of the images of a page from a place on
abbrev pub images_from : Beside → List ℕ → ℕ → List (List ℕ) → List Broken
images_from media source place [] = []
images_from media source place (dest ∷ more) =
    image_by source place (image_fault media (classify source dest)) ++ images_from media source (suc place) more

-- those of the images of a page. Places count from 1. Where there are no media at all, no image is looked at
unfoldable pub broken_images : Beside → List ℕ → List (List ℕ) → List Broken
broken_images None source images = []
broken_images (Some held) source images = images_from (Some held) source 1 images

-- of a page among these the links that are broken, and behind them the images that show nothing
abbrev pub told_of : (List ℕ → Option (List ℕ)) → List (List ℕ × PageLinks) → Beside → List ℕ × Rendered → List Broken
told_of goals pages media page =
    broken_beside media (broken_from goals pages page.0 1 (page_links page.0 page.1.pieces page.1.headings).links)
    ++ broken_images media page.0 page.1.images
