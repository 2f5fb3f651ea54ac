-- What edits and looks leave of a shelf.
use Rattle.std.proofs.Common.{◌≡◌, ℕ, ◌+◌, ◌==◌, ◌++◌, codes, refl, Bool, true, false, ltb, List, [], inl, inr, sym, ap, subst, ◌∙◌}
use Rattle.std.specs.Prelude.{Ok, Err, IfSome, Option, Some, None, is_some, option_map, if◌then◌else◌}
use Rattle.std.specs.Borrow.{Bor}
use Rattle.std.specs.FinMap as map
use Rattle.doc_cache.specs.Caches.{Cached, cache_of, cached}
use Rattle.doc_cache.specs.declared.failure.CacheError.TheVariants as cache_errors
use Rattle.doc_media.specs.Media.{Beside}
use Rattle.doc_media_links.proofs.FillingLaws.{pages_without_media}
use Rattle.doc_media_links.specs.MediaLinks.{lead_to_media}
use Rattle.doc_page_parts.specs.Refusals.{IsAnswer}
use Rattle.doc_page_parts.specs.declared.rendered.Rendered.{Rendered}
use Rattle.doc_people.specs.Folders.{first_text, short, title_by}
use Rattle.doc_people.specs.Inert.{inert}
use Rattle.doc_people.specs.Pages.{beside, heading_line, page_body}
use Rattle.doc_people.specs.Shell.{shell}
use Rattle.doc_resolve.specs.Links.{kinds}
use Rattle.doc_store_readers.specs.Sites.{View, goal_in}
use Rattle.doc_people.specs.declared.settings.Browse.{Browse}
use Rattle.doc_people.specs.declared.settings.Offers.{Offers}
use Rattle.doc_store_readers.specs.declared.reader.Reader.{Reader}
use Rattle.doc_shelf_pages.proofs.Documents.{caches_have_documents}
use Rattle.doc_shelf_pages.proofs.KeptEdits.{edits_of_kept}
use Rattle.doc_shelf_pages.specs.Shelves.{HasDocuments, IsBeingPut, IsEdited}
use Rattle.doc_shelf_documents.specs.Documents.{IsServed}
use Rattle.doc_shelf_documents.specs.Shelves.{IsShelf}
use Rattle.doc_shelf_pages.specs.EditLaws.{Stands}
use Rattle.doc_store_readers.specs.Pages.{Page}
use Rattle.doc_shelf_pages.specs.KeptPages.{IsFree, Kept, none_kept, with_page as kept_with_page}
use Rattle.doc_shelf_pages.specs.Views.{Renders}
use Rattle.doc_store.proofs.StoreSteps.{empty_is_store}
use Rattle.doc_store.specs.Store.{StoreState, empty_store, fits_in, put_by, put_into, with_page}
use Rattle.doc_store.specs.declared.store.Put.{Put}
use Rattle.doc_store.specs.declared.store.Put.TheVariants as puts
use Rattle.doc_shelf.proofs.StepLaws.{no_people_rows}
use Rattle.doc_shelf.specs.declared.people_rows.PeopleRows.{PeopleRows}
use Rattle.doc_shelf_views.specs.Linking.{linking}
use Rattle.doc_shelf.specs.Shelves.{AreBodies, InStep, IsBody, IsWhole, rendered_for}
use Rattle.doc_shelf_bodies.proofs.BodySteps.{none_kept as keeps_none}
use Rattle.doc_shelf_bodies.specs.Bodies.{Keeps, KeepsAtMost, KeepsNothing, Made, made_for}
use Rattle.doc_shelf_bodies.specs.declared.bodies.Bodies.{Bodies}

-- a shelf after an edit
pub edited : (render : Renders) (old new : StoreState) (before after : Kept) (cache : Cached) → IsShelf render old before cache
    → IsEdited render old new after → IsShelf render new after cache
edited render old new before after cache shelf e = record {
  is_store = e.is_store;
  pages = e.pages;
  documents = e.documents cache shelf.documents;
}

-- the same by what the renderer makes now, which is what it made
pub edited_by : (render now : Renders) (old new : StoreState) (before after : Kept) (cache : Cached) → now ≡ render
    → IsShelf render old before cache → IsEdited render old new after → IsShelf now new after cache
edited_by render now old new before after cache same shelf e =
    subst (λ r. IsShelf r new after cache) (sym same) (edited render old new before after cache shelf e)

-- where nothing is kept each body is what it is to be
pub no_bodies : (render : Renders) (store : StoreState) (bodies : Bodies) → KeepsNothing bodies → AreBodies render store bodies
no_bodies render store bodies none = record { each = λ one keeps. absurd (keeps_none bodies one none keeps) }

-- the same with the rows of the pages, where texts are kept as before, and bodies dropped
pub edited_whole : (render now : Renders) (old new : StoreState) (before begun after : Kept) (cache : Cached) (rows left : PeopleRows)
    (bodies dropped : Bodies) → KeepsNothing dropped
    → now ≡ render → IsWhole render old before cache rows bodies → begun.with_texts ≡ before.with_texts
    → after.with_texts ≡ begun.with_texts
    → IsEdited render old new after
    → (InStep render begun.with_texts old.site.pages rows → InStep render begun.with_texts new.site.pages left)
    → IsWhole now new after cache left dropped
edited_whole render now old new before begun after cache rows left bodies dropped none same whole e f edit step = record {
  shelf = edited_by render now old new before after cache same whole.shelf edit;
  in_step = subst (λ r. InStep r after.with_texts new.site.pages left) (sym same)
      (λ people. step (λ p. whole.in_step (sym e ∙ p)) (sym f ∙ people));
  are_bodies = no_bodies now new dropped none;
}

-- under the next stamp nothing is kept
pub is_free : (render : Renders) (store : StoreState) (kept : Kept) (cache : Cached) (path : List ℕ) (stamp : ℕ)
    → IsShelf render store kept cache → stamp ≡ store.puts → IsFree kept path stamp
is_free render store kept cache path stamp shelf next =
    subst (IsFree kept path) (sym next) ((edits_of_kept.puts render store shelf.is_store).free kept path shelf.pages)

pub is_being_put : (render : Renders) (store : StoreState) (before added : Kept) (cache : Cached) (path text : List ℕ) (stamp : ℕ)
    → IsShelf render store before cache → stamp ≡ store.puts → added ≡ kept_with_page before path stamp (render text)
    → IsBeingPut render store path text added
is_being_put render store before added cache path text stamp shelf next is = record {
  before = before;
  is_kept = shelf.pages;
  added = is ∙ ap (λ s. kept_with_page before path s (render text)) next;
}

-- an empty shelf
pub is_new : (render : Renders) (store : StoreState) (kept : Kept) (with_texts : Bool) (capacity : ℕ) (cache : Cached) → store ≡ empty_store
    → kept ≡ none_kept with_texts → IsAnswer cache_errors.Memory (cache_of capacity) (Ok cache) → IsShelf render store kept cache
is_new render store kept with_texts capacity cache none nothing made =
    subst (λ s. IsShelf render s kept cache) (sym none)
    (subst (λ k. IsShelf render empty_store k cache) (sym nothing)
    (record {
      is_store = empty_is_store;
      pages = edits_of_kept.empty render with_texts;
      documents = by capacity made;
    }))
  where
    empty_has : (n : ℕ) → HasDocuments render empty_store (cached [] n)
    empty_has n = caches_have_documents.empty render empty_store n

    by : (n : ℕ) → IsAnswer cache_errors.Memory (cache_of n) (Ok cache) → HasDocuments render empty_store cache
    by n made = by_answer (n == 0) (ltb 4096 n) made
      where
        by_answer : (z l : Bool) → IsAnswer cache_errors.Memory (if z then Err cache_errors.BadCapacity else (if l then Err
            cache_errors.BadCapacity else Ok (cached [] n))) (Ok cache) → HasDocuments render empty_store cache
        by_answer true l made = absurd made
        by_answer false true made = absurd made
        by_answer false false made = subst (HasDocuments render empty_store) (sym made) (empty_has n)

-- the same with its rows
pub is_new_whole : (render : Renders) (store : StoreState) (kept : Kept) (with_texts : Bool) (capacity : ℕ) (cache : Cached)
    (rows : PeopleRows) (bodies : Bodies) → store ≡ empty_store → kept ≡ none_kept with_texts
    → rows ≡ record { by_group = map.empty; by_link = map.empty } → KeepsNothing bodies
    → IsAnswer cache_errors.Memory (cache_of capacity) (Ok cache) → IsWhole render store kept cache rows bodies
is_new_whole render store kept with_texts capacity cache rows bodies none nothing empty dropped made = record {
  shelf = is_new render store kept with_texts capacity cache none nothing made;
  in_step = λ people. no_people_rows (linking render) store.site.pages rows (ap (λ s. s.site.pages) none) empty;
  are_bodies = no_bodies render store bodies dropped;
}

-- a page that stands is served
pub is_served : (render : Renders) (store : StoreState) (kept : Kept) (cache : Cached) (path : List ℕ) (stamp told : ℕ) (page : Page)
    → IsShelf render store kept cache → told ≡ stamp → Stands store path stamp page → IsServed render store kept cache path told page
is_served render store kept cache path stamp told page shelf same stands = record {
  shelf = shelf;
  stands = subst (λ s. Stands store path s page) (sym same) stands;
}

-- after a look the cache alone is another
pub looked_at : (render : Renders) (store : StoreState) (kept : Kept) (cache new : Cached) (rows : PeopleRows)
    (bodies : Bodies) → IsWhole render store kept cache rows bodies → HasDocuments render store new
    → IsWhole render store kept new rows bodies
looked_at render store kept cache new rows bodies whole has = record {
  shelf = record { is_store = whole.shelf.is_store; pages = whole.shelf.pages; documents = has };
  in_step = whole.in_step;
  are_bodies = whole.are_bodies;
}

-- after a body was kept the bodies alone are others
pub one_kept : (render : Renders) (store : StoreState) (kept : Kept) (cache : Cached) (rows : PeopleRows) (bodies new : Bodies)
    (more : Made)
    → IsWhole render store kept cache rows bodies → KeepsAtMost bodies more new → IsBody render store more
    → IsWhole render store kept cache rows new
one_kept render store kept cache rows bodies new more whole keeps is = record {
  shelf = whole.shelf;
  in_step = whole.in_step;
  are_bodies = record {
    each = λ one stands. elim (keeps one stands) [
      | inl before ↦ whole.are_bodies.each one before
      | inr this ↦ subst (IsBody render store) (sym this) is
    ];
  };
}

-- a body that is found is what it is to be
pub body_found : (render : Renders) (store : StoreState) (bodies : Bodies) (browse : Browse) (offers : Offers) (path : List ℕ)
    (reader : Reader)
    (found : Option (Bor (List ℕ))) → AreBodies render store bodies
    → IfSome found (λ text. Keeps bodies (made_for browse offers path reader text.now))
    → IfSome found (λ text. IsBody render store (made_for browse offers path reader text.now))
body_found render store bodies browse offers path reader None are keeps = tt
body_found render store bodies browse offers path reader (Some text) are keeps =
    are.each (made_for browse offers path reader text.now) keeps

-- ---- bodies of pages none of whose links leads to media

module _ (render : Renders) (browse : Browse) (offers : Offers) (view : View) (media : Beside) (path : List ℕ) where
  same_body : (page : Rendered) → lead_to_media media (kinds path page.pieces) ≡ false
      → page_body render browse offers view media path page ≡ page_body render browse offers view None path page
  unfolding page_body
  same_body page none =
      ap (λ html. shell render browse offers view (short (title_by path (first_text page.headings))) (Some path)
      (codes "<article>\n" ++ heading_line path page.headings ++ inert html ++ codes "</article>\n") (beside render view path page))
      (pages_without_media (goal_in view) media path page none)

  -- a page that shows them among pages alone is the one that shows them
  pub body_beside : (found : Option (Bor (List ℕ))) (rendered : Option Rendered)
      → ((page : Rendered) → rendered ≡ Some page → lead_to_media media (kinds path page.pieces) ≡ false)
      → IfSome found (λ text. option_map (page_body render browse offers view None path) rendered ≡ Some text.now)
      → IfSome found (λ text. option_map (page_body render browse offers view media path) rendered ≡ Some text.now)
  body_beside None rendered none is = tt
  body_beside (Some text) None none is = is
  body_beside (Some text) (Some page) none is = ap Some (same_body page (none page refl)) ∙ is

-- ---- what puts answer, by what a shelf shows

-- a put that fits renders once
pub counted_once : {R : Type 0} (count : R → ℕ) (renderer after : R) (store : StoreState) (shown : R × StoreState) (path text : List ℕ)
    → (renderer, store) ≡ shown → fits_in store path text ≡ Ok tt → count after ≡ count renderer + 1
    → count after ≡ count shown.0 + rendered_for (fits_in shown.1 path text)
counted_once count renderer after store shown path text view fits counted =
    counted
    ∙ ap (λ answer. count renderer + rendered_for answer) (sym fits)
    ∙ ap (λ s. count s.0 + rendered_for (fits_in s.1 path text)) view

-- and has the answer of the store's put
pub put_answers : {R : Type 0} (renderer : R) (store new : StoreState) (shown : R × StoreState) (path text : List ℕ)
    (groups : List (List ℕ)) (before : Option ℕ) (put : Put) → (renderer, store) ≡ shown → fits_in store path text ≡ Ok tt
    → new ≡ with_page store path (record { groups = groups; text = text }) → is_some before ≡ map.contains_key store.site.pages path
    → put ≡ (if is_some before then puts.Replaced else puts.Created) → put_into shown.1 path groups text ≡ (new, Ok put)
put_answers renderer store new shown path text groups before put view fits made stood is =
    let page : Page = record { groups = groups; text = text } in
    sym (ap (λ s. put_into s.1 path groups text) view)
    ∙ ap (put_by store path page (map.contains_key store.site.pages path)) fits
    ∙ ap (λ stands. (with_page store path page, Ok (if stands then puts.Replaced else puts.Created))) (sym stood)
    ∙ ap (λ s. (s, Ok (if is_some before then puts.Replaced else puts.Created))) (sym made)
    ∙ ap (λ p. (new, Ok p)) (sym is)
