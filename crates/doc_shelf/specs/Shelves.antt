-- A shelf: a renderer and a store, as it is made, how often it renders, and the rows of its pages for people.
use Rattle.std.specs.Prelude.{◌≡◌, ℕ, List, Bool, true, Some, None, option_map, Result, Ok, Err}
use Rattle.std.specs.FinMap as map
use Rattle.doc_cache.specs.Caches.{Cached, cache_of}
use Rattle.doc_cache.specs.declared.failure.CacheError.{CacheError}
use Rattle.doc_people.specs.Pages.{page_body}
use Rattle.doc_people.specs.Views.{rendered_at}
use Rattle.doc_rows.specs.Rows.{IsRows, IsWider, groups_at}
use Rattle.doc_rows_links.specs.LinkRows.{AreTargets, AreTargetsAt, IsLinkRows, IsWiderByLinks, Linking}
use Rattle.doc_shelf.specs.declared.moving.MovingPage.{MovingPage}
use Rattle.doc_shelf.specs.declared.page_change.PageChange.{PageChange}
use Rattle.doc_shelf.specs.declared.people_rows.PeopleRows.{PeopleRows}
use Rattle.doc_shelf_bodies.specs.Bodies.{Keeps, Made}
use Rattle.doc_shelf_bodies.specs.declared.bodies.Bodies.{Bodies}
use Rattle.doc_shelf_documents.specs.Shelves.{IsShelf}
use Rattle.doc_shelf_pages.specs.KeptPages.{Kept}
use Rattle.doc_shelf_pages.specs.ViewLaws.{seen_in}
use Rattle.doc_shelf_pages.specs.Views.{Renders}
use Rattle.doc_shelf_views.specs.Linking.{linking}
use Rattle.doc_store_readers.specs.Maps.{TextMap}
use Rattle.doc_store_readers.specs.Pages.{Page}
use Rattle.doc_store.specs.Store.{StoreState, empty_store}
use Rattle.doc_store.specs.declared.store.EditError.{EditError}

-- the renderer and the store of a new shelf, where its cache can be made
abbrev pub made_with : {R : Type 0} → R → Result Cached CacheError → Result (R × StoreState) CacheError
made_with renderer (Ok cache) = Ok (renderer, empty_store)
made_with renderer (Err e) = Err e

abbrev pub shelf_made : {R : Type 0} → R → ℕ → Result (R × StoreState) CacheError
shelf_made renderer capacity = made_with renderer (cache_of capacity)

-- how many texts are rendered for a put that fits, or doesn't
abbrev pub rendered_for : Result (Unit {0}) EditError → ℕ
rendered_for (Ok fine) = 1
rendered_for (Err e) = 0

-- ---- rows, for people

-- rows are those of the pages: by group, and by what their links write
pub record ArePeopleRows (linking : Linking) (pages : TextMap Page) (rows : PeopleRows) : Type 0 where
  pub by_group : IsRows pages rows.by_group
  pub by_link : IsLinkRows linking pages rows.by_link

-- what a change says of the page that stands at a path, or that none does
pub record IsStanding (linking : Linking) (pages : TextMap Page) (path : List ℕ) (change : PageChange) : Type 0 where
  pub groups : groups_at pages path ≡ change.before
  pub links : AreTargetsAt linking pages path change.old

-- the rows while a page with these groups is set at a path, by what changes there: they are wider by group and by link
pub record AreWiderRows (linking : Linking) (pages : TextMap Page) (path : List ℕ) (change : PageChange) (groups : List (List ℕ))
    (rows : PeopleRows) : Type 0 where
  pub by_group : IsWider pages path change.before groups rows.by_group
  pub by_link : IsWiderByLinks linking pages path change.before change.old groups change.new rows.by_link

-- rows are those of the pages, where a shelf is for people
abbrev pub InStep : Renders → Bool → TextMap Page → PeopleRows → Type 0
InStep render for_people pages rows = for_people ≡ true → ArePeopleRows (linking render) pages rows

-- rows are wider while a page is set at a path, and it writes what the change says, where a shelf is for people
pub record IsBeingSet (render : Renders) (store : StoreState) (path : List ℕ) (page : Page) (change : PageChange) (rows : PeopleRows)
    : Type 0 where
  pub writes : AreTargets (linking render path page) change.new
  pub wider : AreWiderRows (linking render) store.site.pages path change page.groups rows

-- What is known of a page that stands at a path and is to be moved to another: its groups, its links where it stands, and of the change
-- where it goes that no page stands there, and what it writes there.
pub record IsMoving (render : Renders) (pages : TextMap Page) (from to : List ℕ) (moving : MovingPage) : Type 0 where
  pub page : Page
  pub stands : map.get pages from ≡ Some page
  pub groups : page.groups ≡ moving.groups
  pub links : linking render from page ≡ moving.links
  pub none : (moving.change.before ≡ None) × (moving.change.old ≡ map.empty)
  pub writes : AreTargets (linking render to page) moving.change.new

-- ---- bodies, for people

-- a page for people is the one that shows the page at its path to the reader that it was made for, as they see the store, where its links
-- lead to no media
abbrev pub IsBody : Renders → StoreState → Made → Type 0
IsBody render store one =
    option_map (page_body render one.browse one.body.offers (seen_in store one.body.reader) None one.path)
    (rendered_at render (seen_in store one.body.reader) one.path) ≡ Some one.body.text

-- each that is kept is that
pub record AreBodies (render : Renders) (store : StoreState) (bodies : Bodies) : Type 0 where
  pub each : (one : Made) → Keeps bodies one → IsBody render store one

-- What is kept beside the store of a shelf, and where it is for people the rows of its pages: it is for people where texts are kept.
pub record IsWhole (render : Renders) (store : StoreState) (kept : Kept) (cache : Cached) (rows : PeopleRows) (bodies : Bodies)
    : Type 0 where
  pub shelf : IsShelf render store kept cache
  pub in_step : InStep render kept.with_texts store.site.pages rows
  pub are_bodies : AreBodies render store bodies
