-- Documents in a cache, through edits, looks and what is kept.
use Rattle.std.proofs.Common.{◌≡◌, ℕ, ◌+◌, ◌<◌, List, [], ◌++◌, Bool, true, false, cond, Contains, inl, inr, refl, ap, sym, subst, ◌∙◌}
use Rattle.std.specs.Prelude.{Option, Some, None, codes, if◌then◌else◌}
use Rattle.std.specs.FinMap as map
use Rattle.std.proofs.Math.Nat.{lt_irrefl, lt_trans, not-suc-le-zero}
use Rattle.std.proofs.Math.Numerals.{lt-add-one}
use Rattle.doc_cache.proofs.CacheSteps.{found-in, in-kept, in-looked}
use Rattle.doc_cache.specs.Caches.{Cached, kept as kept_in_cache, text_under}
use Rattle.doc_cache.specs.declared.key.Key.{Key}
use Rattle.doc_page_parts.specs.Escaping.{escaped}
use Rattle.doc_shelf_pages.specs.Templates.{title_of}
use Rattle.doc_resolve.proofs.DecisionLaws.{links_are_decided}
use Rattle.doc_resolve.specs.Decisions.{decisions}
use Rattle.doc_shelf_pages.specs.Views.{Renders}
use Rattle.doc_store_readers.proofs.KeySteps.{get_set, get_taken, not_none, same_key, some_is}
use Rattle.doc_store_readers.specs.Maps.{TextMap}
use Rattle.doc_store_readers.specs.Pages.{Page}
use Rattle.doc_store.specs.Store.{StoreState, IsStore, effect_of, remove_page, with_key_at, with_move, with_page, without_page}
use Rattle.doc_shelf_pages.specs.EditLaws.{CachesHaveDocuments, DocumentsAreFound, EditsKeepDocuments, IsKeyOf, Stands, document_of}
use Rattle.doc_shelf_pages.specs.Shelves.{HasDocuments, IsDocument}

-- ---- what a page with a stamp that was given before stood as before

-- Each page that has a stamp given before some edit had it before the edit too, and is the same page under the same path.
abbrev Stood : StoreState → StoreState → Type 0
Stood old new =
    (path : List ℕ) (stamp : ℕ) (page : Page) → stamp < old.puts → Stands new path stamp page → Stands old path stamp page

carried_on : (render : Renders) (old new : StoreState) → Stood old new → ((n : ℕ) → n < old.puts → n < new.puts)
    → (key : Key) (text : List ℕ) → IsDocument render old key text → IsDocument render new key text
carried_on render old new stood later key text is = record {
  given = later key.stamp is.given;
  document = λ path page goals stamped stands decided.
      let before : Stands old path key.stamp page = stood path key.stamp page is.given (record { stamped = stamped; stands = stands }) in
      is.document path page goals before.stamped before.stands decided;
}

module _ (store : StoreState) where
  -- a stamp that was given is not the next one
  not_next : (stamp : ℕ) → stamp < store.puts → Some store.puts ≡ Some stamp → ⊥
  not_next stamp given e = lt_irrefl stamp (subst (λ n. stamp < n) (some_is store.puts stamp e) given)

  put_stood : (path : List ℕ) (page : Page) → Stood store (with_page store path page)
  put_stood path page other stamp found given here = by (same_key other path) refl
    where
      by : (b : Bool) → same_key other path ≡ b → Stands store other stamp found
      by true same =
          absurd (not_next stamp given
          (sym (get_set store.stamps path store.puts other ∙ ap (λ b. cond b (Some store.puts) (map.get store.stamps other)) same)
          ∙ here.stamped))
      by false apart = record {
        stamped = sym (get_set store.stamps path store.puts other ∙ ap (λ b. cond b (Some store.puts) (map.get store.stamps other)) apart)
            ∙ here.stamped;
        stands = sym (get_set store.site.pages path page other ∙ ap (λ b. cond b (Some page) (map.get store.site.pages other)) apart)
            ∙ here.stands;
      }

  -- what stands once a key was taken stood before
  left : {X : Type 0} (m : TextMap X) (k q : List ℕ) (v : X) → map.get (map.remove m k) q ≡ Some v → map.get m q ≡ Some v
  left m k q v e = by (same_key q k) (sym (get_taken m k q) ∙ e)
    where
      by : (b : Bool) → cond b None (map.get m q) ≡ Some v → map.get m q ≡ Some v
      by true none = absurd (not_none v none)
      by false some = some

  removal_stood : (path : List ℕ) → Stood store (without_page store path)
  removal_stood path other stamp page given here = by (map.contains_key store.site.pages path) here
    where
      by : (b : Bool)
          → Stands (if b then record {
            site = effect_of store.site (remove_page path);
            stamps = map.remove store.stamps path;
            puts =
                store.puts;
          } else store) other stamp page
          → Stands store other stamp page
      by true here = record {
        stamped = left store.stamps path other stamp here.stamped;
        stands = left store.site.pages path other page here.stands;
      }
      by false here = here

  move_stood : (from to : List ℕ) (stamp : ℕ) (page : Page) → Stands store from stamp page → Stood store (with_move store from to)
  move_stood from to stamp page there other at found given here = by (same_key other to) refl
    where
      by : (b : Bool) → same_key other to ≡ b → Stands store other at found
      by true same =
          absurd (not_next at given
          (sym (get_set (map.remove store.stamps from) to store.puts other
          ∙ ap (λ b. cond b (Some store.puts) (map.get (map.remove store.stamps from) other)) same) ∙ here.stamped))
      by false apart = record {
        stamped = left store.stamps from other at
            (sym (get_set (map.remove store.stamps from) to store.puts other
            ∙ ap (λ b. cond b (Some store.puts) (map.get (map.remove store.stamps from) other)) apart) ∙ here.stamped);
        stands = left store.site.pages from other found
            (sym (ap (λ o. map.get (with_key_at store.site.pages from to o) other) there.stands
            ∙ get_set (map.remove store.site.pages from) to page other
            ∙ ap (λ b. cond b (Some page) (map.get (map.remove store.site.pages from) other)) apart) ∙ here.stands);
      }

-- the number of puts falls with no removal
puts_left_alone : (store : StoreState) (path : List ℕ) → (without_page store path).puts ≡ store.puts
puts_left_alone store path = by (map.contains_key store.site.pages path)
  where
    by : (b : Bool)
        → (if b then record { site = effect_of store.site (remove_page path); stamps = map.remove store.stamps path; puts = store.puts }
        else store).puts
        ≡ store.puts
    by true = refl
    by false = refl

one_more : (n m : ℕ) → n < m → n < m + 1
one_more n m less = lt_trans less (lt-add-one m)

edits_keep_documents : (render : Renders) (store : StoreState) (cache : Cached) → IsStore store → HasDocuments render store cache
    → EditsKeepDocuments render store cache
edits_keep_documents render store cache is has = record {
  put = λ path page pair in_cache.
      carried_on render store (with_page store path page) (put_stood store path page) (λ n. one_more n store.puts) pair.0 pair.1
      (has pair in_cache);
  removed = λ path pair in_cache.
      carried_on render store (without_page store path) (removal_stood store path)
      (λ n less. subst (λ puts. n < puts) (sym (puts_left_alone store path)) less) pair.0 pair.1 (has pair in_cache);
  moved = λ from to stamp page here pair in_cache.
      carried_on render store (with_move store from to) (move_stood store from to stamp page here) (λ n. one_more n store.puts) pair.0
      pair.1
      (has pair in_cache);
}

keeps : (render : Renders) (store : StoreState) (cache : Cached) (key : Key) (text : List ℕ) → HasDocuments render store cache
    → IsDocument render store key text → HasDocuments render store (kept_in_cache cache key text)
keeps render store cache key text has is pair in_cache =
    elim (in-kept cache key text pair in_cache) [
      | inl same ↦ subst (λ p. IsDocument render store p.0 p.1) same is
      | inr other ↦ has pair other
    ]

nothing_in : (pair : Key × List ℕ) → Contains [] pair → ⊥
nothing_in pair there = absurd (not-suc-le-zero there.1)

pub caches_have_documents : CachesHaveDocuments
caches_have_documents = record {
  empty = λ render store capacity pair there. absurd (nothing_in pair there);
  edits = edits_keep_documents;
  looks = λ render store cache key has pair there. has pair (in-looked cache key pair there);
  keeps = keeps;
}

-- ---- documents of pages

-- readers for whom a page's links are decided alike have one document of it
one_document : (render : Renders) (goals other : List ℕ → Option (List ℕ)) (path : List ℕ) (page : Page)
    → decisions goals path (render page.text) ≡ decisions other path (render page.text)
    → document_of render goals path page ≡ document_of render other path page
one_document render goals other path page same =
    ap (λ rest. codes "<!DOCTYPE html>\n<title>" ++ escaped (title_of path (render page.text).headings) ++ codes "</title>\n" ++ rest)
    (links_are_decided goals other path (render page.text) same)

made : (render : Renders) (store : StoreState) (goals : List ℕ → Option (List ℕ)) (path : List ℕ) (stamp : ℕ) (page : Page)
    (key : Key) → IsStore store → Stands store path stamp page → IsKeyOf render goals path stamp page key
    → IsDocument render store key (document_of render goals path page)
made render store goals path stamp page key is here of = record {
  given = is.below path key.stamp (here.stamped ∙ ap Some (sym of.0));
  document = λ other found other_goals stamped stands decided.
      let same_path : path ≡ other = is.different path other key.stamp (here.stamped ∙ ap Some (sym of.0)) stamped in
      let same_page : page ≡ found = some_is page found (sym here.stands ∙ ap (map.get store.site.pages) same_path ∙ stands) in
      let decided_here : decisions other_goals path (render page.text) ≡ key.decisions
      = ap (λ q. decisions other_goals q (render page.text)) same_path ∙ ap (λ p. decisions other_goals other (render p.text)) same_page
      ∙ decided in
      one_document render goals other_goals path page (sym of.1 ∙ sym decided_here)
      ∙ ap (λ q. document_of render other_goals q page) same_path ∙ ap (document_of render other_goals other) same_page;
}

found : (render : Renders) (store : StoreState) (cache : Cached) (goals : List ℕ → Option (List ℕ)) (path : List ℕ) (stamp : ℕ)
    (page : Page) (key : Key) (text : List ℕ) → HasDocuments render store cache → Stands store path stamp page
    → IsKeyOf render goals path stamp page key → text_under cache key ≡ Some text → text ≡ document_of render goals path page
found render store cache goals path stamp page key text has here of there =
    (has (key, text) (found-in cache key text there)).document path page goals (here.stamped ∙ ap Some (sym of.0)) here.stands (sym of.1)

pub documents_are_found : DocumentsAreFound
documents_are_found = record { made = made; found = found }
