-- Images among what is told of pages.
use Rattle.std.proofs.Common.{◌≡◌, ℕ, suc, List, [], ◌∷◌, ◌++◌, Option, Some, None, refl, ap, ap₂, ◌∙◌}
use Rattle.std.specs.List.{filter, flat_map}
use Rattle.std.proofs.lemmas.List.Elements.{filter-append}
use Rattle.doc_links_pages.specs.Links.{broken_from, broken_with}
use Rattle.doc_links_pages.specs.declared.answers.Broken.{Broken}
use Rattle.doc_links_pages.specs.declared.page_links.PageLinks.{PageLinks}
use Rattle.doc_media.specs.Media.{Beside}
use Rattle.doc_media_links.specs.Images.{broken_images, image_by, image_fault, images_from}
use Rattle.doc_media_links.specs.Laws.{PagesWithoutImages, ToldPageByPage}
use Rattle.doc_media_links.specs.MediaLinks.{broken_beside, is_broken}
use Rattle.doc_resolve.specs.Links.{classify}

-- links to media are left out of the one and of the other
beside_both : (media : Beside) (some others : List Broken)
    → broken_beside media (some ++ others) ≡ broken_beside media some ++ broken_beside media others
beside_both None some others = refl
beside_both (Some held) some others = filter-append (is_broken (Some held)) some others

-- an image is no link to a medium
one_image : (media : Beside) (source : List ℕ) (place : ℕ) (fault : Option (List ℕ))
    → filter (is_broken media) (image_by source place fault) ≡ image_by source place fault
one_image media source place None = refl
one_image media source place (Some target) = refl

all_images : (media : Beside) (source : List ℕ) (place : ℕ) (images : List (List ℕ))
    → filter (is_broken media) (images_from media source place images) ≡ images_from media source place images
all_images media source place [] = refl
all_images media source place (dest ∷ more) =
    let first = image_by source place (image_fault media (classify source dest)) in
    filter-append (is_broken media) first (images_from media source (suc place) more)
    ∙ ap₂ (λ xs ys. xs ++ ys) (one_image media source place (image_fault media (classify source dest)))
    (all_images media source (suc place) more)

images_stay : (media : Beside) (source : List ℕ) (images : List (List ℕ))
    → broken_beside media (broken_images media source images) ≡ broken_images media source images
unfolding broken_images
images_stay None source images = refl
images_stay (Some held) source images = all_images (Some held) source 1 images

module _ (goals : List ℕ → Option (List ℕ)) (media : Beside) (images : List ℕ → List (List ℕ)) (all : List (List ℕ × PageLinks)) where
  abbrev links : List ℕ × PageLinks → List Broken
  links page = broken_from goals all page.0 1 page.1.links

  abbrev shown : List ℕ × PageLinks → List Broken
  shown page = broken_images media page.0 (images page.0)

  each_page : (pages : List (List ℕ × PageLinks))
      → broken_beside media (flat_map (λ page. links page ++ shown page) pages)
      ≡ flat_map (λ page. broken_beside media (links page) ++ shown page) pages
  each_page [] = nothing media
    where
      nothing : (media : Beside) → broken_beside media [] ≡ []
      nothing None = refl
      nothing (Some held) = refl
  each_page (page ∷ pages) =
      beside_both media (links page ++ shown page) (flat_map (λ page. links page ++ shown page) pages)
      ∙ ap₂ (λ xs ys. xs ++ ys)
      (beside_both media (links page) (shown page)
      ∙ ap (λ xs. broken_beside media (links page) ++ xs) (images_stay media page.0 (images page.0)))
      (each_page pages)

pub told_page_by_page : ToldPageByPage
unfolding broken_with
told_page_by_page goals media images pages = each_page goals media images pages pages

pub pages_without_images : PagesWithoutImages
unfolding broken_images
pages_without_images None source = refl
pages_without_images (Some held) source = refl
