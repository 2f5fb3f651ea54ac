-- What is kept of the links of pages, under the stamps that these have.
use Rattle.std.proofs.Common.{◌≡◌, ℕ, List, Bool, true, false, cond, refl, ap, sym, ◌∙◌}
use Rattle.std.specs.Prelude.{Option, Some, None, option_map}
use Rattle.std.specs.FinMap as map
use Rattle.doc_index_tables.proofs.PairSteps.{pair_is, pair_itself, pairs_total, same_pair}
use Rattle.doc_links_pages.specs.declared.page_links.PageLinks.{PageLinks}
use Rattle.doc_page_parts.specs.declared.rendered.Rendered.{Rendered}
use Rattle.doc_resolve.specs.Links.{kinds}
use Rattle.doc_resolve.specs.declared.link_kind.LinkKind.{LinkKind}
use Rattle.doc_shelf_pages.proofs.KeptEdits.{edits_of_kept, what_is_kept_is_held}
use Rattle.doc_shelf_pages.proofs.KeptSteps.{pieces_of_kept}
use Rattle.doc_shelf_pages.specs.EditLaws.{Stands}
use Rattle.doc_shelf_pages.specs.KeptPages.{Kept, kept_of}
use Rattle.doc_shelf_pages.specs.Shelves.{IsBeingPut, IsKept}
use Rattle.doc_shelf_pages.specs.Views.{Renders, links_in}
use Rattle.doc_shelf_views.specs.Linking.{linking}
use Rattle.doc_store.specs.Store.{IsStore, StoreState}
use Rattle.doc_store_readers.proofs.KeySteps.{not_none}
use Rattle.doc_store_readers.specs.Pages.{Page}

pub stands_at : (store : StoreState) (path : List ℕ) (page : Page) (present told : ℕ) → Some page ≡ map.get store.site.pages path
    → Some present ≡ map.get store.stamps path → told ≡ present → Stands store path told page
stands_at store path page present told found stamped same = record { stamped = sym stamped ∙ ap Some (sym same); stands = sym found }

-- ---- what is kept while a page is put

module _ (render : Renders) (store : StoreState) (is : IsStore store) (path text : List ℕ) (kept : Kept)
    (put : IsBeingPut render store path text kept) where
  found_at : (stamp : ℕ) → map.get kept.links (path, stamp)
      ≡ cond (same_pair (path, stamp) (path, store.puts)) (Some (links_in path (render text))) (map.get put.before.links (path, stamp))
  found_at stamp =
      ap (λ k. map.get k.links (path, stamp)) put.added
      ∙ map.get-insert pairs_total put.before.links (path, store.puts) (links_in path (render text)) (path, stamp)

  -- under the next stamp the links of the new page
  pub new_known : (stamp : ℕ) → stamp ≡ store.puts → map.get kept.links (path, stamp) ≡ Some (links_in path (render text))
  new_known stamp next =
      ap (λ n. map.get kept.links (path, n)) next ∙ found_at store.puts
      ∙ ap (λ b. cond b (Some (links_in path (render text))) (map.get put.before.links (path, store.puts)))
      (pair_itself (path, store.puts))

  -- under its own stamp those of the page that stands
  pub old_known : (stamp : ℕ) (page : Page) → Stands store path stamp page
      → map.get kept.links (path, stamp) ≡ Some (links_in path (render page.text))
  old_known stamp page stands = found_at stamp ∙ by (same_pair (path, stamp) (path, store.puts)) refl
    where
      there : map.get put.before.links (path, stamp) ≡ Some (links_in path (render page.text))
      there = (what_is_kept_is_held render store put.before put.is_kept).links_of path stamp page stands

      free : map.get put.before.links (path, store.puts) ≡ None
      free = ((edits_of_kept.puts render store is).free put.before path put.is_kept).links

      by : (b : Bool) → same_pair (path, stamp) (path, store.puts) ≡ b
          → cond b (Some (links_in path (render text))) (map.get put.before.links (path, stamp)) ≡ Some (links_in path (render page.text))
      by true same =
          absurd (not_none (links_in path (render page.text)) (sym free ∙ ap (map.get put.before.links) (sym (pair_is _ _ same)) ∙ there))
      by false other = there

-- ---- what is kept of a page that stands

module _ (render : Renders) (store : StoreState) (kept : Kept) (k : IsKept render store kept) (path : List ℕ) (page : Page) (stamp : ℕ)
    (stands : Stands store path stamp page) where
  pub links_known : (links : Option (List LinkKind))
      → links ≡ option_map (λ (known : PageLinks). known.links) (map.get kept.links (path, stamp)) → links ≡ Some (linking render path page)
  links_known links is =
      is ∙ ap (option_map (λ (known : PageLinks). known.links))
      ((what_is_kept_is_held render store kept k).links_of path stamp page stands)

  -- the links of its rendering at a place
  pub links_at : (place : List ℕ) (links : List LinkKind)
      → ((rendered : Rendered) → map.get kept.renderings (path, stamp) ≡ Some rendered → links ≡ kinds place rendered.pieces)
      → links ≡ linking render place page
  links_at place links are =
      are (kept_of kept.with_texts (render page.text)) ((what_is_kept_is_held render store kept k).rendering_of path stamp page stands)
      ∙ ap (kinds place) (pieces_of_kept kept.with_texts (render page.text))
