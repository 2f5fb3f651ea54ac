-- Documents of pages, kept and found.
use Rattle.std.proofs.Common.{◌≡◌, ◌⊎◌, ℕ, List, ◌++◌, Bool, true, false, inl, inr, refl, ap, sym, subst, ◌∙◌}
use Rattle.std.specs.Prelude.{Option, Some, None, codes, is_some, option_map}
use Rattle.std.specs.FinMap as map
use Rattle.std.proofs.lemmas.Bool.{both_ways}
use Rattle.doc_cache.specs.Caches.{Cached, kept as kept_in_cache, looked, text_under}
use Rattle.doc_cache.specs.declared.key.Key.{Key}
use Rattle.doc_http_replies.specs.Heads.{Dress}
use Rattle.doc_index_tables.specs.Maps.{PairMap}
use Rattle.doc_links_pages.specs.declared.page_links.PageLinks.{PageLinks}
use Rattle.doc_page_parts.specs.Pages.{filled}
use Rattle.doc_media.specs.Media.{Beside, goal_beside}
use Rattle.doc_media_links.proofs.PlaceLaws.{pages_without_places}
use Rattle.doc_media_links.specs.MediaLinks.{name_places}
use Rattle.doc_page_parts.specs.Escaping.{escaped}
use Rattle.doc_resolve.specs.Links.{kinds}
use Rattle.doc_shelf_pages.specs.Templates.{body_of, title_of}
use Rattle.doc_page_parts.specs.declared.linker.Shown.{Shown}
use Rattle.doc_page_parts.specs.declared.rendered.Rendered.{Rendered}
use Rattle.doc_resolve.proofs.DecisionLaws.{decisions_are_goals}
use Rattle.doc_resolve.specs.Decisions.{decisions, goals_of}
use Rattle.doc_resolve.specs.declared.link_kind.LinkKind.{LinkKind}
use Rattle.doc_shelf_documents.specs.Documents.{IsServed, document_beside, document_reply, made_of, made_of_kept}
use Rattle.doc_shelf_documents.specs.declared.documents.Made.{Made}
use Rattle.doc_shelf_pages.proofs.Documents.{caches_have_documents, documents_are_found}
use Rattle.doc_shelf_pages.proofs.KeptEdits.{what_is_kept_is_held}
use Rattle.doc_shelf_pages.specs.EditLaws.{IsKeyOf, document_of}
use Rattle.doc_shelf_pages.specs.Shelves.{HasDocuments, IsDocument}
use Rattle.doc_shelf_pages.specs.KeptPages.{Kept, kept_of}
use Rattle.doc_shelf_pages.specs.Views.{Renders, links_in}
use Rattle.doc_store_readers.specs.Pages.{Page}
use Rattle.doc_store.specs.Store.{StoreState}

some_is : {X : Type 0} (x y : X) → Some x ≡ Some y → x ≡ y
some_is x y e = cc

-- what is one thing where a call answers true, and another where it doesn't, is one of them
pub kept_or_not : {A B : Type 0} (kept_it : Bool) → (kept_it ≡ true → A) → (kept_it ≡ false → B) → A ⊎ B
kept_or_not true done dropped = inl (done refl)
kept_or_not false done dropped = inr (dropped refl)

none_some : {X : Type 0} (x : X) → None ≡ Some x → ⊥
none_some x e = cc

-- a document has nothing of a rendering's texts
bare_document : (with_texts : Bool) (path : List ℕ) (how : List ℕ → Shown) (page : Rendered)
    → body_of path how (kept_of with_texts page) ≡ body_of path how page
unfolding filled
bare_document true path how page = refl
bare_document false path how page = refl

-- the reply and the document of what is kept
pub making_is : (dress : Dress) (head_only close : Bool) (kept : Kept) (how : List ℕ → Shown) (path : List ℕ) (stamp : ℕ)
    (found : Rendered) (document reply : List ℕ) → Some found ≡ map.get kept.renderings (path, stamp)
    → document ≡ body_of path how found → reply ≡ document_reply dress head_only close document
    → ◌≡◌ {A = Option Made} (Some (record { reply = reply; document = document }))
    (made_of_kept dress head_only close kept how path stamp)
making_is dress head_only close kept how path stamp found document reply is made written =
    (λ i. Some (record { reply = (written ∙ ap (document_reply dress head_only close) made) i; document = made i }))
    ∙ ap (option_map (λ page. made_of dress head_only close (body_of path how page))) is

module _ (render : Renders) (store : StoreState) (kept : Kept) (cache : Cached) (path : List ℕ) (stamp : ℕ) (page : Page)
    (served : IsServed render store kept cache path stamp page) where
  links_kept : map.get kept.links (path, stamp) ≡ Some (links_in path (render page.text))
  links_kept = (what_is_kept_is_held render store kept served.shelf.pages).links_of path stamp page served.stands

  rendering_kept : map.get kept.renderings (path, stamp) ≡ Some (kept_of kept.with_texts (render page.text))
  rendering_kept = (what_is_kept_is_held render store kept served.shelf.pages).rendering_of path stamp page served.stands

  -- what is kept of the page is found
  pub links_found : (index : PairMap PageLinks) → index ≡ kept.links
      → None ≡ option_map (λ (p : PageLinks). p.links) (map.get index (path, stamp)) → ⊥
  links_found index same none =
      none_some (links_in path (render page.text)).links
      (none ∙ ap (λ i. option_map (λ (p : PageLinks). p.links) (map.get i (path, stamp))) same
      ∙ ap (option_map (λ (p : PageLinks). p.links)) links_kept)

  module _ (how : List ℕ → Shown) where
    -- what is made of what is kept is the page's document, and the reply with it
    pub made_is : (dress : Dress) (head_only close : Bool) → made_of_kept dress head_only close kept how path stamp
        ≡ Some (made_of dress head_only close (body_of path how (render page.text)))
    made_is dress head_only close =
        ap (option_map (λ found. made_of dress head_only close (body_of path how found))) rendering_kept
        ∙ ap (λ document. Some (made_of dress head_only close document)) (bare_document kept.with_texts path how (render page.text))

    pub making_gives : (dress : Dress) (head_only close : Bool) (made : Made)
        → Some made ≡ made_of_kept dress head_only close kept how path stamp
        → made ≡ made_of dress head_only close (body_of path how (render page.text))
    making_gives dress head_only close made is =
        some_is made (made_of dress head_only close (body_of path how (render page.text))) (is ∙ made_is dress head_only close)

    pub making_gives_one : (dress : Dress) (head_only close : Bool) → None ≡ made_of_kept dress head_only close kept how path stamp → ⊥
    making_gives_one dress head_only close none =
        none_some (made_of dress head_only close (body_of path how (render page.text))) (none ∙ made_is dress head_only close)

    -- and so is the reply that is made anew
    pub anew_is : (dress : Dress) (head_only close : Bool)
        → option_map (λ (made : Made). made.reply) (made_of_kept dress head_only close kept how path stamp)
        ≡ Some (document_reply dress head_only close (body_of path how (render page.text)))
    anew_is dress head_only close = ap (option_map (λ (made : Made). made.reply)) (made_is dress head_only close)

  -- the links that are kept are the page's
  pub links_are : (index : PairMap PageLinks) (links : List LinkKind) → index ≡ kept.links
      → Some links ≡ option_map (λ (p : PageLinks). p.links) (map.get index (path, stamp))
      → links ≡ kinds path (render page.text).pieces
  links_are index links same found =
      some_is links (links_in path (render page.text)).links
      (found ∙ ap (λ i. option_map (λ (p : PageLinks). p.links) (map.get i (path, stamp))) same
      ∙ ap (option_map (λ (p : PageLinks). p.links)) links_kept)

  -- where none of them names a place in a medium, the document is the one by what they lead to
  pub by_goals : (goals : List ℕ → Option (List ℕ)) (media : Beside) (links : List LinkKind)
      → links ≡ kinds path (render page.text).pieces → name_places media links ≡ false
      → document_of render (goal_beside goals media) path page ≡ document_beside render goals media path page
  by_goals goals media links are none =
      ap (λ html. codes "<!DOCTYPE html>\n<title>" ++ escaped (title_of path (render page.text).headings) ++ codes "</title>\n" ++ html)
      (sym (pages_without_places goals media path (render page.text) (sym (ap (name_places media) are) ∙ none)))

  module _ (goals : List ℕ → Option (List ℕ)) where
    pub decided : (index : PairMap PageLinks) (links : List LinkKind) (all : List (Option (List ℕ))) → index ≡ kept.links
        → Some links ≡ option_map (λ (p : PageLinks). p.links) (map.get index (path, stamp)) → all ≡ goals_of goals links
        → all ≡ decisions goals path (render page.text)
    decided index links all same found are =
        are
        ∙ ap (goals_of goals) (some_is links (links_in path (render page.text)).links
        (found ∙ ap (λ i. option_map (λ (p : PageLinks). p.links) (map.get i (path, stamp))) same
        ∙ ap (option_map (λ (p : PageLinks). p.links)) links_kept))
        ∙ sym (decisions_are_goals goals path (render page.text))

    module _ (key : Key) (of : IsKeyOf render goals path stamp page key) where
      found_text : (dress : Dress) (head_only close : Bool) (text : Option (List ℕ)) → text_under cache key ≡ text
          → is_some (option_map (document_reply dress head_only close) text) ≡ true
          → option_map (document_reply dress head_only close) text
          ≡ Some (document_reply dress head_only close (document_of render goals path page))
      found_text dress head_only close None is there = absurd (both_ways false refl there)
      found_text dress head_only close (Some text) is there =
          ap (λ t. Some (document_reply dress head_only close t))
          (documents_are_found.found render store cache goals path stamp page key text served.shelf.documents served.stands of is)

      -- a document that is found is the reader's
      pub found_is : (dress : Dress) (head_only close : Bool) (found : Option (List ℕ))
          → found ≡ option_map (document_reply dress head_only close) (text_under cache key) → is_some found ≡ true
          → found ≡ Some (document_reply dress head_only close (document_of render goals path page))
      found_is dress head_only close found is there =
          is ∙ found_text dress head_only close (text_under cache key) refl (sym (ap is_some is) ∙ there)

      -- and one that is made may be kept
      pub kept_has : (new : Cached) (text : List ℕ) → text ≡ document_of render goals path page
          → (new ≡ kept_in_cache cache key text) ⊎ (new ≡ cache) → HasDocuments render store new
      kept_has new text is (inl done) =
          subst (HasDocuments render store) (sym done)
          (caches_have_documents.keeps render store cache key text served.shelf.documents
          (subst (IsDocument render store key) (sym is)
          (documents_are_found.made render store goals path stamp page key served.shelf.is_store served.stands of)))
      kept_has new text is (inr dropped) = subst (HasDocuments render store) (sym dropped) served.shelf.documents

  pub looked_has : (new : Cached) (key : Key) → new ≡ looked cache key → HasDocuments render store new
  looked_has new key is =
      subst (HasDocuments render store) (sym is) (caches_have_documents.looks render store cache key served.shelf.documents)

  pub looked_served : (new : Cached) (key : Key) → new ≡ looked cache key → IsServed render store kept new path stamp page
  looked_served new key is = record {
    shelf = record { is_store = served.shelf.is_store; pages = served.shelf.pages; documents = looked_has new key is };
    stands = served.stands;
  }
