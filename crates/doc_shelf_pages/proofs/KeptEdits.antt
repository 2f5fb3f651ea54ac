-- What is kept of a store's pages, through its edits.
use Rattle.std.proofs.Common.{◌≡◌, ℕ, List, Bool, refl, ap, sym, subst, ◌∙◌}
use Rattle.std.specs.Prelude.{Option, Some, None, option_map}
use Rattle.std.specs.Cmp.Lexicographic.{slice_cmp}
use Rattle.std.specs.FinMap as map
use Rattle.std.specs.Ordering.{nat_cmp}
use Rattle.doc_index_tables.specs.Maps.{TextMap, pair_cmp}
use Rattle.doc_index_tables.proofs.PairSteps.{pairs_exact, pairs_total}
use Rattle.doc_links_pages.specs.PageLinks.{page_links}
use Rattle.doc_page_parts.specs.declared.rendered.Rendered.{Rendered}
use Rattle.doc_shelf_pages.proofs.KeptSteps.{headings_of_kept, pieces_of_kept, together, undone as undone_at}
use Rattle.doc_shelf_pages.specs.KeptPages.{IsFree, Kept, carried, carried_with, none_kept, with_page as kept_with_page}
use Rattle.doc_shelf_pages.specs.KeptPages.{kept_of, without_page as kept_without_page}
use Rattle.doc_shelf_pages.specs.Held.{held_links, held_words, rendered_under}
use Rattle.doc_shelf_pages.specs.Views.{Renders, links_in}
use Rattle.doc_shelf_pages.proofs.HeldLaws.{what_is_held}
use Rattle.doc_store_readers.specs.Pages.{Page}
use Rattle.doc_store.specs.Store.{StoreState, IsStore, empty_store, with_move, with_page, without_page}
use Rattle.doc_words_search.specs.Held.{counts_or_none}
use Rattle.doc_words_search.specs.Words.{word_counts}
use Rattle.doc_shelf_pages.specs.EditLaws.{EditsOfKept, KeptIsHeld, MovesAreKept, PutsAreKept, RemovalsAreKept, Stands, WhatIsKeptIsHeld}
use Rattle.doc_shelf_pages.specs.Shelves.{IsBeingPut, IsKept, let_go, page_under}
use Rattle.doc_shelf_pages.proofs.PairEdits.{gone, move_knows, nothing_next, put_knows, removal_knows, under_own}

abbrev counts : List ℕ → Rendered → TextMap ℕ
counts path page = word_counts page

abbrev shown : Bool → List ℕ → Rendered → Rendered
shown with_texts path page = kept_of with_texts page

-- a page is let go of each map
let_go-maps : (kept : Kept) (path : List ℕ) (present : Option ℕ) → let_go kept path present
    ≡ record {
      with_texts = kept.with_texts;
      links = gone kept.links path present;
      words = gone kept.words path present;
      renderings = gone kept.renderings path present;
    }
let_go-maps kept path None = refl
let_go-maps kept path (Some stamp) = refl

module _ (render : Renders) (store : StoreState) (is : IsStore store) where
  free : (kept : Kept) (path : List ℕ) → IsKept render store kept → IsFree kept path store.puts
  free kept path k = record {
    links = k.links path store.puts ∙ ap (option_map (links_in path)) (nothing_next render store path is);
    words = k.words path store.puts ∙ ap (option_map (counts path)) (nothing_next render store path is);
    renderings = k.renderings path store.puts ∙ ap (option_map (shown kept.with_texts path)) (nothing_next render store path is);
  }

  -- ---- a put

  module _ (path : List ℕ) (page : Page) where
    made_before : (before : Kept) → IsKept render store before
        → IsKept render (with_page store path page)
        (let_go (kept_with_page before path store.puts (render page.text)) path (map.get store.stamps path))
    made_before before k =
        subst (IsKept render (with_page store path page))
        (sym (let_go-maps (kept_with_page before path store.puts (render page.text)) path (map.get store.stamps path)))
        (record {
          links = put_knows links_in render store is before.links k.links path page;
          words = put_knows counts render store is before.words k.words path page;
          renderings = put_knows (shown before.with_texts) render store is before.renderings k.renderings path page;
        })

  made : (kept : Kept) (path text : List ℕ) (groups : List (List ℕ)) → IsBeingPut render store path text kept
      → IsKept render (with_page store path (record { groups = groups; text = text })) (let_go kept path (map.get store.stamps path))
  made kept path text groups put =
      subst (λ k. IsKept render (with_page store path (record { groups = groups; text = text }))
      (let_go k path (map.get store.stamps path)))
      (sym put.added) (made_before path (record { groups = groups; text = text }) put.before put.is_kept)

  refused : (kept : Kept) (path text : List ℕ) → IsBeingPut render store path text kept
      → IsKept render store (kept_without_page kept path store.puts)
  refused kept path text put =
      let before : Kept = put.before in
      let none : IsFree before path store.puts = free before path put.is_kept in
      subst (IsKept render store)
      (sym (ap (λ k. kept_without_page k path store.puts) put.added
      ∙ together (undone_at before.links (path, store.puts) _ none.links) (undone_at before.words (path, store.puts) _ none.words)
      (undone_at before.renderings (path, store.puts) _ none.renderings)))
      put.is_kept

  puts_are_kept : PutsAreKept render store
  puts_are_kept = record { free = free; made = made; refused = refused }

  -- ---- a removal

  removals_are_kept : RemovalsAreKept render store
  removals_are_kept kept path k =
      subst (IsKept render (without_page store path)) (sym (let_go-maps kept path (map.get store.stamps path)))
      (record {
        links = removal_knows links_in render store is kept.links k.links path;
        words = removal_knows counts render store is kept.words k.words path;
        renderings = removal_knows (shown kept.with_texts) render store is kept.renderings k.renderings path;
      })

-- what is kept of a page that stands
module _ (render : Renders) (store : StoreState) (kept : Kept) (k : IsKept render store kept) where
  module _ (path : List ℕ) (stamp : ℕ) (page : Page) (here : Stands store path stamp page) where
    under_is : page_under render store path stamp ≡ Some (render page.text)
    under_is =
        ap (λ s. rendered_under render stamp s (map.get store.site.pages path)) here.stamped
        ∙ ap (rendered_under render stamp (Some stamp)) here.stands
        ∙ under_own render stamp page

    rendering_is : map.get kept.renderings (path, stamp) ≡ Some (kept_of kept.with_texts (render page.text))
    rendering_is = k.renderings path stamp ∙ ap (option_map (shown kept.with_texts path)) under_is

    words_are : map.get kept.words (path, stamp) ≡ Some (word_counts (render page.text))
    words_are = k.words path stamp ∙ ap (option_map (counts path)) under_is

    links_are : map.get kept.links (path, stamp) ≡ Some (links_in path (render page.text))
    links_are = k.links path stamp ∙ ap (option_map (links_in path)) under_is

  kept_is_held : KeptIsHeld render store kept
  kept_is_held = record {
    links = map.same_map pairs_total pairs_exact kept.links (held_links render store) (λ key.
        k.links key.0 key.1
        ∙ ap (option_map (links_in key.0)) (sym ((what_is_held render store).pages key.0 key.1))
        ∙ sym ((what_is_held render store).links key.0 key.1));
    words = map.same_map pairs_total pairs_exact kept.words (held_words render store) (λ key.
        k.words key.0 key.1
        ∙ ap (option_map (counts key.0)) (sym ((what_is_held render store).pages key.0 key.1))
        ∙ sym ((what_is_held render store).words key.0 key.1));
    rendering_of = rendering_is;
    links_of = links_are;
  }

pub what_is_kept_is_held : WhatIsKeptIsHeld
what_is_kept_is_held = kept_is_held

module _ (render : Renders) (store : StoreState) (is : IsStore store) where
  -- ---- a move

  carries : (kept : Kept) (from to : List ℕ) (stamp : ℕ) (page : Page) → IsKept render store kept → Stands store from stamp page
      → IsBeingPut render store to page.text (carried kept from stamp to store.puts)
  carries kept from to stamp page k here = record {
    before = kept;
    is_kept = k;
    added =
        ap (λ o. carried_with kept o (counts_or_none (map.get kept.words (from, stamp))) to store.puts)
        (rendering_is render store kept k from stamp page here)
        ∙ ap (λ o. carried_with kept (Some (kept_of kept.with_texts (render page.text))) (counts_or_none o) to store.puts)
        (words_are render store kept k from stamp page here)
        ∙ (λ i. record kept {
          links = map.insert kept.links (to, store.puts) (page_links to (pieces_of_kept kept.with_texts (render page.text) i)
              (headings_of_kept kept.with_texts (render page.text) i));
          words = map.insert kept.words (to, store.puts) (word_counts (render page.text));
          renderings = map.insert kept.renderings (to, store.puts) (kept_of kept.with_texts (render page.text));
        });
  }

  module _ (from to : List ℕ) (stamp : ℕ) (page : Page) (here : Stands store from stamp page)
      (free_path : map.get store.site.pages to ≡ None)
    where
      moved_before : (before : Kept) → IsKept render store before
          → IsKept render (with_move store from to) (kept_without_page (kept_with_page before to store.puts (render page.text)) from stamp)
      moved_before before k = record {
        links = move_knows links_in render store is before.links k.links from to stamp page here.stamped here.stands free_path;
        words = move_knows counts render store is before.words k.words from to stamp page here.stamped here.stands free_path;
        renderings = move_knows (shown before.with_texts) render store is before.renderings k.renderings from to stamp page here.stamped
            here.stands free_path;
      }

  moved : (kept : Kept) (from to : List ℕ) (stamp : ℕ) (page : Page) → Stands store from stamp page
      → map.get store.site.pages to ≡ None → IsBeingPut render store to page.text kept
      → IsKept render (with_move store from to) (kept_without_page kept from stamp)
  moved kept from to stamp page here none put =
      subst (λ k. IsKept render (with_move store from to) (kept_without_page k from stamp)) (sym put.added)
      (moved_before from to stamp page here none put.before put.is_kept)

  moves_are_kept : MovesAreKept render store
  moves_are_kept = record { carries = carries; made = moved }

nothing_kept : (render : Renders) (with_texts : Bool) → IsKept render empty_store (none_kept with_texts)
nothing_kept render with_texts = record {
  links = λ path stamp. map.get-empty pair_cmp (path, stamp) ∙ sym (ap (option_map (links_in path)) (nothing_there path stamp));
  words = λ path stamp. map.get-empty pair_cmp (path, stamp) ∙ sym (ap (option_map (counts path)) (nothing_there path stamp));
  renderings = λ path stamp. map.get-empty pair_cmp (path, stamp)
      ∙ sym (ap (option_map (shown with_texts path)) (nothing_there path stamp));
}
  where
    nothing_there : (path : List ℕ) (stamp : ℕ) → page_under render empty_store path stamp ≡ None
    nothing_there path stamp = ap (λ s. rendered_under render stamp s (map.get empty_store.site.pages path))
        (map.get-empty (slice_cmp nat_cmp) path)

pub edits_of_kept : EditsOfKept
edits_of_kept = record {
  empty = nothing_kept;
  puts = puts_are_kept;
  removals = removals_are_kept;
  moves = moves_are_kept;
}
