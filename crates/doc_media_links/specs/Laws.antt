-- Laws of links to media; the proofs are in proofs/.
use Rattle.std.specs.Prelude.{◌≡◌, ℕ, List, [], ◌++◌, false, Option}
use Rattle.std.specs.List.{flat_map}
use Rattle.doc_links_pages.specs.Links.{broken_from, broken_with}
use Rattle.doc_links_pages.specs.declared.page_links.PageLinks.{PageLinks}
use Rattle.doc_media.specs.Media.{Beside, goal_beside}
use Rattle.doc_media_links.specs.Images.{broken_images}
use Rattle.doc_media_links.specs.MediaLinks.{broken_beside, lead_to_media, name_places, shown_beside}
use Rattle.doc_page_parts.specs.Pages.{filled}
use Rattle.doc_page_parts.specs.declared.rendered.Rendered.{Rendered}
use Rattle.doc_resolve.specs.Hrefs.{shown}
use Rattle.doc_resolve.specs.Links.{kinds}

-- a page none of whose links leads to a medium that is seen is filled as among pages alone
abbrev pub PagesWithoutMedia : Type 0
PagesWithoutMedia =
    (goals : List ℕ → Option (List ℕ)) (media : Beside) (page : List ℕ) (rendered : Rendered)
    → lead_to_media media (kinds page rendered.pieces) ≡ false
    → filled (shown_beside goals media page) rendered ≡ filled (shown goals page) rendered

-- A page none of whose links names a place in a medium that is seen is filled as if media were pages: what a reader sees of it hangs on
-- what its links lead to alone, so it may be kept under that.
abbrev pub PagesWithoutPlaces : Type 0
PagesWithoutPlaces =
    (goals : List ℕ → Option (List ℕ)) (media : Beside) (page : List ℕ) (rendered : Rendered)
    → name_places media (kinds page rendered.pieces) ≡ false
    → filled (shown_beside goals media page) rendered ≡ filled (shown (goal_beside goals media) page) rendered

-- where links to media are left out of what is told of pages by their links and their images, page by page the images stay
abbrev pub ToldPageByPage : Type 0
ToldPageByPage =
    (goals : List ℕ → Option (List ℕ)) (media : Beside) (images : List ℕ → List (List ℕ)) (pages : List (List ℕ × PageLinks))
    → broken_beside media (broken_with (λ path. broken_images media path (images path)) goals pages)
    ≡ flat_map (λ page.
    broken_beside media (broken_from goals pages page.0 1 page.1.links) ++ broken_images media page.0 (images page.0)) pages

-- of a page that tells no images none is told
abbrev pub PagesWithoutImages : Type 0
PagesWithoutImages = (media : Beside) (source : List ℕ) → broken_images media source [] ≡ []
