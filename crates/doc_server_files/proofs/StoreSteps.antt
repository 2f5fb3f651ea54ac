-- The store of a configured site, beside the world of its hub.
use Rattle.std.proofs.Common.{◌≡◌, ℕ, List, [], ◌∷◌, true, cond, refl, ap, sym, ◌∙◌, subst, T}
use Rattle.std.specs.Prelude.{Option, Some, None, option_map, Result, Ok, Err, is_ok}
use Rattle.std.specs.Option.{ok_or}
use Rattle.doc_hub.specs.Worlds.{World, is_capacity, new_world, put_beside, store_of, with_store}
use Rattle.doc_store.specs.declared.store.EditError.{EditError}
use Rattle.doc_store.specs.declared.store.Put.{Put}
use Rattle.doc_store.specs.Store.{StoreState, empty_store, put_into}
use Rattle.doc_server_script.specs.Replays.{unless_refused}
use Rattle.doc_server_config.specs.declared.config.SiteConfig.{SiteConfig}
use Rattle.doc_server_config.specs.declared.page_row.PageRow.{PageRow}
use Rattle.doc_server_streams.specs.declared.fault.Fault.{Fault}
use Rattle.doc_server_streams.specs.declared.fault.Fault.TheVariants as faults
use Rattle.doc_server_restore.specs.Restores.{unstamped}
use Rattle.doc_server.specs.Sites.{accepted, site_world, text_of, texts_behind, with_page, with_pages, settings_of}
use Rattle.doc_server_files.specs.Compacting.{store_in, stored_page, stored_pages}

-- ---- one page

put_alike : (w : World) (r : StoreState × Result Put EditError)
    → option_map store_of (accepted (with_store w r.0) r.1) ≡ option_map unstamped (unless_refused r.0 r.1)
put_alike w (store, Ok put) = refl
put_alike w (store, Err e) = refl

-- where there are no media
page_alike : (w : World) (page : PageRow) (text : Option (List ℕ)) → w.media ≡ None
    → option_map store_of (with_page w page text) ≡ stored_page (store_of w) page text
page_alike w page None none = refl
page_alike w page (Some text) none =
    ap (λ media. option_map store_of (let r = put_beside media (store_of w) page.path page.groups text in accepted (with_store w r.0) r.1))
    none
    ∙ put_alike w (put_into (store_of w) page.path page.groups text)

some_is : {X : Type 0} (x y : X) → Some x ≡ Some y → x ≡ y
some_is x y e = cc

none_some : {X : Type 0} (x : X) → None ≡ Some x → ⊥
none_some x e = cc

-- and there are none behind it
media_behind : (w u v : World) (r : Result Put EditError) → u.media ≡ None → accepted u r ≡ Some v → v.media ≡ None
media_behind w u v (Ok put) none is = ap (λ (x : World). x.media) (sym (some_is u v is)) ∙ none
media_behind w u v (Err e) none is = absurd (none_some v is)

page_behind : (w v : World) (page : PageRow) (text : Option (List ℕ)) → w.media ≡ None → with_page w page text ≡ Some v → v.media ≡ None
page_behind w v page None none is = absurd (none_some v is)
page_behind w v page (Some text) none is =
    let r = put_beside w.media (store_of w) page.path page.groups text in media_behind w (with_store w r.0) v r.1 none is

-- ---- pages one after the other

abbrev world_behind : List PageRow → List (List ℕ) → Option World → Option World
world_behind more texts None = None
world_behind more texts (Some v) = with_pages v more texts

as_world_behind : (more : List PageRow) (texts : List (List ℕ)) (mid : Option World)
    → ◌≡◌ {A = Option World} (elim mid [ None ↦ None | Some v ↦ with_pages v more texts ]) (world_behind more texts mid)
as_world_behind more texts None = refl
as_world_behind more texts (Some v) = refl

abbrev store_behind : List PageRow → List (List ℕ) → Option StoreState → Option StoreState
store_behind more texts None = None
store_behind more texts (Some next) = stored_pages next more texts

as_store_behind : (more : List PageRow) (texts : List (List ℕ)) (mid : Option StoreState)
    → ◌≡◌ {A = Option StoreState} (elim mid [ None ↦ None | Some next ↦ stored_pages next more texts ]) (store_behind more texts mid)
as_store_behind more texts None = refl
as_store_behind more texts (Some next) = refl

pages_alike : (pages : List PageRow) (w : World) (texts : List (List ℕ)) → w.media ≡ None
    → option_map store_of (with_pages w pages texts) ≡ stored_pages (store_of w) pages texts
pages_alike [] w texts none = refl
pages_alike (page ∷ more) w texts none =
    ap (option_map store_of) (as_world_behind more left (with_page w page text))
    ∙ (by (with_page w page text) refl (λ v is. pages_alike more v left (page_behind w v page text none is))
    ∙ (ap (store_behind more left) (page_alike w page text none) ∙ sym (as_store_behind more left (stored_page (store_of w) page text))))
  where
    text : Option (List ℕ)
    text = text_of page.source texts

    left : List (List ℕ)
    left = texts_behind page.source texts

    by : (mid : Option World) → with_page w page text ≡ mid
        → ((v : World) → with_page w page text ≡ Some v → option_map store_of (with_pages v more left) ≡ stored_pages (store_of v) more left)
        → option_map store_of (world_behind more left mid) ≡ store_behind more left (option_map store_of mid)
    by None is each = refl
    by (Some v) is each = each v is

-- ---- the site

store_or : (o : Option World) → store_in (ok_or o faults.Refused) ≡ ok_or (option_map store_of o) faults.Refused
store_or None = refl
store_or (Some w) = refl

site_by : (config : SiteConfig) (texts : List (List ℕ)) → is_capacity config.cache ≡ true
    → store_in (site_world config texts) ≡ ok_or (stored_pages (unstamped empty_store) config.pages texts) faults.Refused
site_by config texts can =
    ap (λ t. store_in (cond t (ok_or (with_pages first config.pages texts) faults.Refused) (Err faults.Config))) can
    ∙ (store_or (with_pages first config.pages texts) ∙ ap (λ o. ok_or o faults.Refused) (pages_alike config.pages first texts refl))
  where
    first : World
    first = new_world config.readers (settings_of config) None

-- all pages of a site were put
pub site_stored : (config : SiteConfig) (texts : List (List ℕ)) (pages : List PageRow) (before after : StoreState)
    → is_capacity config.cache ≡ true → pages ≡ config.pages → before ≡ empty_store
    → stored_pages (unstamped before) pages texts ≡ Some (unstamped after)
    → store_in (site_world config texts) ≡ Ok (unstamped after)
site_stored config texts pages before after can same new is =
    site_by config texts can
    ∙ ap (λ o. ok_or o faults.Refused)
    (ap (λ ps. stored_pages (unstamped empty_store) ps texts) (sym same)
    ∙ (ap (λ s. stored_pages (unstamped s) pages texts) (sym new) ∙ is))

abbrev fault_or : Fault → Result StoreState Fault → Fault
fault_or other (Err fault) = fault
fault_or other (Ok store) = other

-- why a world isn't there, from why its store isn't
no_world : (site : Result World Fault) (fault : Fault) → store_in site ≡ Err fault → site ≡ Err fault
no_world (Err other) fault is = ap (λ r. Err (fault_or other r)) is
no_world (Ok w) fault is = absurd (subst T (ap is_ok is) tt)

-- one of them is refused
pub site_refused : (config : SiteConfig) (texts : List (List ℕ)) (pages : List PageRow) (before : StoreState) (fault : Fault)
    → is_capacity config.cache ≡ true → pages ≡ config.pages → before ≡ empty_store
    → (fault ≡ faults.Refused) × (stored_pages (unstamped before) pages texts ≡ None)
    → site_world config texts ≡ Err fault
site_refused config texts pages before fault can same new (why, none) =
    no_world (site_world config texts) fault (site_by config texts can
    ∙ (ap (λ o. ok_or o faults.Refused)
    (ap (λ ps. stored_pages (unstamped empty_store) ps texts) (sym same)
    ∙ (ap (λ s. stored_pages (unstamped s) pages texts) (sym new) ∙ none))
    ∙ ap (λ e. Err e) (sym why)))
