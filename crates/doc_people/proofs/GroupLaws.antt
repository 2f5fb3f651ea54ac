-- Laws of broken links and images, page by page.
use Rattle.std.proofs.Common.{◌≡◌, ℕ, suc, List, [], ◌∷◌, ◌++◌, Bool, false, not, cond, refl, ap, sym, subst, ◌∙◌}
use Rattle.std.specs.Prelude.{Option, Some, None, bytes_eq, filter, map as mapped}
use Rattle.std.specs.List.{AllByRecursion, flat_map}
use Rattle.std.specs.List.Sorted.{IsStrictlySortedBy}
use Rattle.std.specs.Ordering.{ordering_reverse}
use Rattle.std.specs.declared.cmp.Ordering.TheVariants.{Less}
use Rattle.std.proofs.lemmas.Bool.{cond_both, false_from_ne_true}
use Rattle.std.proofs.lemmas.Cmp.{nat_list_cmp_total}
use Rattle.doc_media.specs.Media.{Beside}
use Rattle.doc_media_links.specs.Images.{broken_images, image_by, image_fault, images_from, told_of}
use Rattle.doc_media_links.specs.MediaLinks.{broken_beside, is_broken}
use Rattle.doc_page_parts.proofs.Texts.{bytes_eq_itself, bytes_eq_true}
use Rattle.doc_page_parts.specs.Pages.{is_empty}
use Rattle.doc_page_parts.specs.declared.rendered.Rendered.{Rendered}
use Rattle.doc_links_pages.specs.Links.{broken_by, broken_from as broken_on, fault_of}
use Rattle.doc_links_pages.specs.PageLinks.{page_links}
use Rattle.doc_links_pages.specs.declared.answers.Broken.{Broken}
use Rattle.doc_links_pages.specs.declared.answers.Reason.{Reason}
use Rattle.doc_links_pages.specs.declared.page_links.PageLinks.{PageLinks}
use Rattle.doc_resolve.specs.Links.{classify}
use Rattle.doc_resolve.specs.declared.link_kind.LinkKind.{LinkKind}
use Rattle.doc_store_readers.specs.Pages.{Page}
use Rattle.doc_store_readers.specs.Sites.{goal_in}
use Rattle.doc_people.proofs.KeyLaws.{cmp, not_greater}
use Rattle.doc_people.specs.BrokenLinks.{Group, by_source, onto_group}
use Rattle.doc_people.specs.Laws.{GroupsArePages, has_links}
use Rattle.doc_people.specs.Sources.{linked_pages}
use Rattle.doc_people.specs.Views.{Renders, rendered_pages}

-- ---- links of one page before those of others

-- the first of these is of another page
abbrev Apart : List ℕ → List Group → Type 0
Apart source [] = Unit {0}
Apart source (group ∷ groups) = bytes_eq group.0 source ≡ false

alone : (source : List ℕ) (link : Broken) (groups : List Group) → link.source ≡ source → Apart source groups
    → onto_group link groups ≡ (source, link ∷ []) ∷ groups
alone source link [] is apart = ap (λ (s : List ℕ). (s, link ∷ []) ∷ []) is
alone source link (group ∷ groups) is apart =
    ap (λ s. cond (bytes_eq group.0 s) ((group.0, link ∷ group.1) ∷ groups) ((s, link ∷ []) ∷ group ∷ groups)) is
    ∙ ap (λ b. cond b ((group.0, link ∷ group.1) ∷ groups) ((source, link ∷ []) ∷ group ∷ groups)) apart

joined : (source : List ℕ) (link : Broken) (links : List Broken) (groups : List Group) → link.source ≡ source
    → onto_group link ((source, links) ∷ groups) ≡ (source, link ∷ links) ∷ groups
joined source link links groups is =
    ap (λ s. cond (bytes_eq source s) ((source, link ∷ links) ∷ groups) ((s, link ∷ []) ∷ (source, links) ∷ groups)) is
    ∙ ap (λ b. cond b ((source, link ∷ links) ∷ groups) ((source, link ∷ []) ∷ (source, links) ∷ groups)) (bytes_eq_itself source)

together : (source : List ℕ) (link : Broken) (links rest : List Broken) (groups : List Group) → link.source ≡ source
    → AllByRecursion (λ l. l.source ≡ source) links → by_source rest ≡ groups → Apart source groups
    → by_source ((link ∷ links) ++ rest) ≡ (source, link ∷ links) ∷ groups
together source link [] rest groups is all same apart = ap (onto_group link) same ∙ alone source link groups is apart
together source link (next ∷ links) rest groups is all same apart =
    ap (onto_group link) (together source next links rest groups all.0 all.1 same apart) ∙ joined source link (next ∷ links) groups is

-- ---- pages whose names rise

isnt_less : (k : List ℕ) → cmp k k ≡ Less → ⊥
isnt_less k less = not_greater (sym (ap ordering_reverse less) ∙ sym (nat_list_cmp_total.antisymm k k) ∙ less)

module _ (P : Type 0) (name : P → List ℕ) (links : P → List Broken) where
  abbrev groups : List P → List Group
  groups pages = filter has_links (mapped (λ p. (name p, links p)) pages)

  behind : (source : List ℕ) (pages : List P) → AllByRecursion (λ k. cmp source k ≡ Less) (mapped name pages) → Apart source (groups pages)
  behind source [] less = tt
  behind source (p ∷ pages) less =
      cond_both (not (is_empty (links p))) ((name p, links p) ∷ groups pages) (groups pages) (Apart source)
      (λ _. false_from_ne_true (bytes_eq (name p) source) (λ same.
      isnt_less source (subst (λ z. cmp source z ≡ Less) (bytes_eq_true (name p) source same) less.0)))
      (λ _. behind source pages less.1)

  one_page : (source : List ℕ) (own rest : List Broken) (others : List Group) → AllByRecursion (λ l. l.source ≡ source) own
      → by_source rest ≡ others → Apart source others
      → by_source (own ++ rest) ≡ cond (not (is_empty own)) ((source, own) ∷ others) others
  one_page source [] rest others all same apart = same
  one_page source (link ∷ own) rest others all same apart = together source link own rest others all.0 all.1 same apart

  grouped : ((p : P) → AllByRecursion (λ l. l.source ≡ name p) (links p)) → (pages : List P) → IsStrictlySortedBy cmp (mapped name pages)
      → by_source (flat_map links pages) ≡ groups pages
  unfolding IsStrictlySortedBy
  grouped own [] sorted = refl
  grouped own (p ∷ pages) sorted =
      one_page (name p) (links p) (flat_map links pages) (groups pages) (own p) (grouped own pages sorted.1)
      (behind (name p) pages sorted.0)

-- ---- the pages of a view

one_link : (source : List ℕ) (place : ℕ) (fault : Option (Reason × List ℕ)) (rest : List Broken)
    → AllByRecursion (λ l. l.source ≡ source) rest → AllByRecursion (λ l. l.source ≡ source) (broken_by source place fault ++ rest)
one_link source place None rest all = all
one_link source place (Some fault) rest all = (refl, all)

own_links : (goals : List ℕ → Option (List ℕ)) (pages : List (List ℕ × PageLinks)) (source : List ℕ) (place : ℕ) (links : List LinkKind)
    → AllByRecursion (λ l. l.source ≡ source) (broken_on goals pages source place links)
own_links goals pages source place [] = tt
own_links goals pages source place (link ∷ links) =
    one_link source place (fault_of goals pages link) (broken_on goals pages source (suc place) links)
    (own_links goals pages source (suc place) links)

one_image : (source : List ℕ) (place : ℕ) (target : Option (List ℕ)) (rest : List Broken) → AllByRecursion (λ l. l.source ≡ source) rest
    → AllByRecursion (λ l. l.source ≡ source) (image_by source place target ++ rest)
one_image source place None rest all = all
one_image source place (Some target) rest all = (refl, all)

own_images_from : (media : Beside) (source : List ℕ) (place : ℕ) (images : List (List ℕ))
    → AllByRecursion (λ l. l.source ≡ source) (images_from media source place images)
own_images_from media source place [] = tt
own_images_from media source place (dest ∷ images) =
    one_image source place (image_fault media (classify source dest)) (images_from media source (suc place) images)
    (own_images_from media source (suc place) images)

own_images : (media : Beside) (source : List ℕ) (images : List (List ℕ))
    → AllByRecursion (λ l. l.source ≡ source) (broken_images media source images)
unfolding broken_images
own_images None source images = tt
own_images (Some held) source images = own_images_from (Some held) source 1 images

own_filtered : (p : Broken → Bool) (source : List ℕ) (links : List Broken) → AllByRecursion (λ l. l.source ≡ source) links
    → AllByRecursion (λ l. l.source ≡ source) (filter p links)
own_filtered p source [] all = tt
own_filtered p source (link ∷ links) all =
    cond_both (p link) (link ∷ filter p links) (filter p links) (AllByRecursion (λ l. l.source ≡ source))
    (λ _. (all.0, own_filtered p source links all.1)) (λ _. own_filtered p source links all.1)

own_beside : (media : Beside) (source : List ℕ) (links : List Broken) → AllByRecursion (λ l. l.source ≡ source) links
    → AllByRecursion (λ l. l.source ≡ source) (broken_beside media links)
own_beside None source links all = all
own_beside (Some held) source links all = own_filtered (is_broken (Some held)) source links all

own_both : (source : List ℕ) (links images : List Broken) → AllByRecursion (λ l. l.source ≡ source) links
    → AllByRecursion (λ l. l.source ≡ source) images → AllByRecursion (λ l. l.source ≡ source) (links ++ images)
own_both source [] images links_own images_own = images_own
own_both source (link ∷ links) images links_own images_own = (links_own.0, own_both source links images links_own.1 images_own)

-- what is told of a page is told of no other
own_told : (goals : List ℕ → Option (List ℕ)) (pages : List (List ℕ × PageLinks)) (media : Beside) (page : List ℕ × Rendered)
    → AllByRecursion (λ l. l.source ≡ page.0) (told_of goals pages media page)
own_told goals pages media page =
    own_both page.0 (broken_beside media (broken_on goals pages page.0 1 (page_links page.0 page.1.pieces page.1.headings).links))
    (broken_images media page.0 page.1.images)
    (own_beside media page.0 _ (own_links goals pages page.0 1 (page_links page.0 page.1.pieces page.1.headings).links))
    (own_images media page.0 page.1.images)

same_paths : (render : Renders) (pages : List (List ℕ × Page))
    → mapped (λ (page : List ℕ × Rendered). page.0) (mapped (λ (page : List ℕ × Page). (page.0, render page.1.text)) pages)
    ≡ mapped (λ (page : List ℕ × Page). page.0) pages
same_paths render [] = refl
same_paths render (page ∷ pages) = ap (λ ps. page.0 ∷ ps) (same_paths render pages)

pub groups_are_pages : GroupsArePages
groups_are_pages render view media sorted =
    grouped (List ℕ × Rendered) (λ page. page.0) (told_of (goal_in view) (linked_pages render view) media)
    (own_told (goal_in view) (linked_pages render view) media) (rendered_pages render view)
    (subst (IsStrictlySortedBy cmp) (sym (same_paths render view.pages)) sorted)
