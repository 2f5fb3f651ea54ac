-- What is held, asked by what a reader sees, answers for the reader's view.
use Rattle.std.proofs.Common.{◌≡◌, ℕ, List, [], ◌∷◌, map as mapped, refl, ap, sym, subst, ◌∙◌}
use Rattle.std.specs.Prelude.{Some}
use Rattle.std.specs.Cmp.Lexicographic.{slice_cmp}
use Rattle.std.specs.FinMap as map
use Rattle.std.specs.List.Sorted.{IsStrictlySortedBy}
use Rattle.std.specs.Map.{keys_of}
use Rattle.std.specs.Ordering.{nat_cmp}
use Rattle.std.proofs.lemmas.Simd.{map-map}
use Rattle.doc_links_pages.specs.Links.{backlinks, broken_with, contents}
use Rattle.doc_media_links.specs.MediaLinks.{broken_beside}
use Rattle.doc_page_parts.specs.Sights.{seen}
use Rattle.doc_page_parts.specs.declared.rendered.Rendered.{Rendered}
use Rattle.doc_store_readers.proofs.FilterSteps.{keys_in_order}
use Rattle.doc_store.proofs.SeenLaw.{seen_of_known}
use Rattle.doc_store_readers.specs.declared.reader.Reader.{Reader}
use Rattle.doc_store_readers.specs.Pages.{Page}
use Rattle.doc_store_readers.specs.Sites.{goal_in, visible_to}
use Rattle.doc_store.specs.Store.{StoreState, IsStore}
use Rattle.doc_words_search.specs.Searches.{search}
use Rattle.doc_words_search.specs.Words.{word_counts}
use Rattle.doc_shelf_pages.specs.Held.{by_path, held_links, held_of, held_words, with_each}
use Rattle.doc_shelf_pages.specs.ViewLaws.{BacklinksAreTheViews, BrokenAreTheViews, ContentsAreTheViews, HeldIsSeen, HitsAreTheViews}
use Rattle.doc_shelf_pages.specs.ViewLaws.{links_seen, seen_in, words_seen}
use Rattle.doc_shelf_pages.specs.Views.{Renders, counted_pages, linked_pages, links_in, rendered_pages}
use Rattle.doc_shelf_pages.specs.Images.{images_behind}
use Rattle.doc_shelf_pages.proofs.HeldLaws.{by_path-held_of}
use Rattle.doc_shelf_pages.proofs.ImageSteps.{seen_told}
use Rattle.doc_shelf_pages.proofs.MapSteps.{by_path-with_each}

module _ (render : Renders) (store : StoreState) (reader : Reader) (is : IsStore store) where
  pub pages_seen : seen (goal_in (seen_in store reader)) (by_path (held_of render store)) ≡ rendered_pages render (seen_in store reader)
  pages_seen =
      ap (seen (goal_in (seen_in store reader))) (by_path-held_of render store is)
      ∙ seen_of_known (λ page. render page.1.text) store.site reader is.site

  -- the same with what is made of each rendering
  pub changed_seen : {X : Type 0} (change : List ℕ → Rendered → X)
      → seen (goal_in (seen_in store reader)) (by_path (with_each change (held_of render store)))
      ≡ mapped (λ page. (page.0, change page.0 page.1)) (rendered_pages render (seen_in store reader))
  changed_seen {X = X} change =
      let one : List ℕ × Page → List ℕ × Rendered = λ page. (page.0, render page.1.text) in
      let then : List ℕ × Rendered → List ℕ × X = λ page. (page.0, change page.0 page.1) in
      ap (seen (goal_in (seen_in store reader))) (by_path-with_each change (held_of render store)
      ∙ ap (mapped then) (by_path-held_of render store is)
      ∙ map-map then one (map.entries store.site.pages))
      ∙ seen_of_known (λ page. change page.0 (render page.1.text)) store.site reader is.site
      ∙ sym (map-map then one (seen_in store reader).pages)

  pub links_are : links_seen store reader (held_links render store) ≡ linked_pages render (seen_in store reader)
  links_are = changed_seen links_in

  pub words_are : words_seen store reader (held_words render store) ≡ counted_pages render (seen_in store reader)
  words_are = changed_seen (λ path page. word_counts page)

same_paths : (render : Renders) (pages : List (List ℕ × Page))
    → keys_of (mapped (λ (page : List ℕ × Page). (page.0, render page.1.text)) pages) ≡ keys_of pages
same_paths render [] = refl
same_paths render (page ∷ pages) = ap (λ rest. page.0 ∷ rest) (same_paths render pages)

pub held_is_seen : HeldIsSeen
held_is_seen render store reader is = record {
  pages = pages_seen render store reader is;
  in_order = subst (IsStrictlySortedBy (slice_cmp nat_cmp)) (sym (same_paths render (seen_in store reader).pages))
      (keys_in_order (slice_cmp nat_cmp) (seen_in store reader).pages (map.entries_sorted (visible_to store.site (Some reader)).pages));
}

pub contents_are_the_views : ContentsAreTheViews
contents_are_the_views render store reader index is held =
    ap contents (ap (links_seen store reader) held ∙ links_are render store reader is)

pub backlinks_are_the_views : BacklinksAreTheViews
backlinks_are_the_views render store reader index path is held =
    ap (λ pages. backlinks (goal_in (seen_in store reader)) pages path)
    (ap (links_seen store reader) held ∙ links_are render store reader is)

pub broken_are_the_views : BrokenAreTheViews
broken_are_the_views render store reader index media is held =
    ap (λ pages. broken_beside media (broken_with (images_behind render store media) (goal_in (seen_in store reader)) pages))
    (ap (links_seen store reader) held ∙ links_are render store reader is)
    ∙ seen_told render store reader media

pub hits_are_the_views : HitsAreTheViews
hits_are_the_views render store reader index words is held =
    ap (λ pages. search pages words) (ap (words_seen store reader) held ∙ words_are render store reader is)
