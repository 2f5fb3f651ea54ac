-- The store: a site, and the edits of it. All of this is this project's choice.
use Rattle.std.specs.Prelude.{◌≡◌, ℕ, ◌+◌, ◌-◌, ◌^◌, ◌<◌, List, length, Bool, false, not, ◌&&◌, ◌||◌, nat_lt, nat_le, bytes_eq, Option}
use Rattle.std.specs.Prelude.{Some, None, Result, Ok, Err, if◌then◌else◌, refl}
use Rattle.std.specs.Coded.{Coded, code_by, coded×, coded_list, coded_ℕ}
use Rattle.std.specs.FinMap as map
use Rattle.doc_store.specs.declared.moving.MoveError.{MoveError}
use Rattle.doc_store.specs.declared.moving.MoveError.TheVariants as move_errors
use Rattle.doc_store.specs.declared.site_edit.SiteEdit.{SiteEdit}
use Rattle.doc_store.specs.declared.site_edit.SiteEdit.TheVariants as site_edits
use Rattle.doc_store.specs.declared.store.EditError.{EditError}
use Rattle.doc_store.specs.declared.store.EditError.TheVariants.{TooLong, StoreFull}
use Rattle.doc_store.specs.declared.store.Put.{Put}
use Rattle.doc_store.specs.declared.store.Put.TheVariants.{Created, Replaced}
use Rattle.doc_store_readers.specs.Maps.{TextMap, map_values}
use Rattle.doc_store_readers.specs.Pages.{Page, StampedPage}
use Rattle.doc_store_readers.specs.Sites.{Site, IsSite, empty_site, site_code}

-- how many bytes the text of a page may have
unfoldable pub text_limit : ℕ
text_limit = 1048576

-- how many pages may stand
unfoldable pub page_limit : ℕ
page_limit = 10000

-- how many aliases may stand
unfoldable pub alias_limit : ℕ
alias_limit = 10000

-- how many puts and moves are accepted, ever: the last value of a `u64`
unfoldable pub put_limit : ℕ
put_limit = 2 ^ 64 - 1

-- a site, the stamp of each page by its path, and how many puts and moves were accepted so far
pub record StoreState : Type 0 where
  pub site : Site
  pub stamps : TextMap ℕ
  pub puts : ℕ

abbrev pub store_code : Coded StoreState
store_code =
    code_by (Site × (TextMap ℕ × ℕ)) (coded× site_code (coded× (map.code (coded_list coded_ℕ) coded_ℕ) coded_ℕ))
    (λ s. (s.site, (s.stamps, s.puts))) (λ p. record { site = p.0; stamps = p.1.0; puts = p.1.1 }) (λ _. refl)

-- the site of these stamped pages and these aliases
abbrev pub site_with : TextMap StampedPage → TextMap (List ℕ) → Site
site_with pages aliases = record { pages = map_values (λ p. p.page) pages; aliases = aliases }

-- the state of these stamped pages and these aliases
abbrev pub state_of : TextMap StampedPage → TextMap (List ℕ) → ℕ → StoreState
state_of pages aliases puts = record {
  site = site_with pages aliases;
  stamps = map_values (λ p. p.stamp) pages;
  puts = puts;
}

-- What every store is: its site is one, the pages alone have stamps, each stamp is below the number
-- of accepted puts and moves, and no two pages have the same.
pub record IsStore (store : StoreState) : Type 0 where
  pub site : IsSite store.site
  pub stamped : (path : List ℕ) → map.contains_key store.stamps path ≡ map.contains_key store.site.pages path
  pub below : (path : List ℕ) (stamp : ℕ) → map.get store.stamps path ≡ Some stamp → stamp < store.puts
  pub different : (path other : List ℕ) (stamp : ℕ) → map.get store.stamps path ≡ Some stamp → map.get store.stamps other ≡ Some stamp
      → path ≡ other

-- a store without pages
abbrev pub empty_store : StoreState
empty_store = record { site = empty_site; stamps = map.empty; puts = 0 }

-- whether a path is where an alias leads
abbrev pub is_goal : List ℕ → Option (List ℕ) → Bool
is_goal path None = false
is_goal path (Some goal) = bytes_eq goal path

-- the aliases but for those that lead to a path
unfoldable pub without_goal : TextMap (List ℕ) → List ℕ → TextMap (List ℕ)
without_goal aliases path = map.retain_keys aliases (λ alias. not (is_goal path (map.get aliases alias)))

-- where an alias leads after a move
abbrev pub goal_after : List ℕ → List ℕ → List ℕ → List ℕ
goal_after from to goal = if bytes_eq goal from then to else goal

-- the aliases after a move: the new path is none of them, those of the page lead to its new path, and
-- so does the old one
unfoldable pub aliases_after : TextMap (List ℕ) → List ℕ → List ℕ → TextMap (List ℕ)
aliases_after aliases from to = map.insert (map_values (goal_after from to) (map.remove aliases to)) from to

-- the edits of a site, with a page in place of its parts
abbrev pub set_page : List ℕ → Page → SiteEdit
set_page path page = site_edits.Put path page.groups page.text

abbrev pub remove_page : List ℕ → SiteEdit
remove_page path = site_edits.Remove path

abbrev pub move_page : List ℕ → List ℕ → SiteEdit
move_page from to = site_edits.Move from to

-- a map with what stands under one key under another, if anything does
abbrev pub with_key_at : {X : Type 0} → TextMap X → List ℕ → List ℕ → Option X → TextMap X
with_key_at values from to None = values
with_key_at values from to (Some value) = map.insert (map.remove values from) to value

abbrev pub with_key : {X : Type 0} → TextMap X → List ℕ → List ℕ → TextMap X
with_key values from to = with_key_at values from to (map.get values from)

-- the site after an edit: a page that is set under an alias takes it from its page, a page that is
-- removed takes its aliases with it, and one that is moved keeps them and leaves one more
abbrev pub effect_of : Site → SiteEdit → Site
effect_of site (site_edits.Put path groups text) =
    record { pages = map.insert site.pages path (record { groups = groups; text = text }); aliases = map.remove site.aliases path }
effect_of site (site_edits.Remove path) = record { pages = map.remove site.pages path; aliases = without_goal site.aliases path }
effect_of site (site_edits.Move from to) = record { pages = with_key site.pages from to; aliases = aliases_after site.aliases from to }

-- whether a put of a text is refused, from how many pages stand, whether one stands under its path, and how many puts and moves were
-- accepted
abbrev pub fits : ℕ → Bool → ℕ → List ℕ → Result (Unit {0}) EditError
fits pages stands puts text =
    if nat_lt text_limit (length text) then Err TooLong
    else (if (not stands && nat_le page_limit pages) || nat_le put_limit puts then Err StoreFull else Ok tt)

-- whether a put of a text under a path is refused
abbrev pub fits_in : StoreState → List ℕ → List ℕ → Result (Unit {0}) EditError
fits_in store path text = fits (map.len store.site.pages) (map.contains_key store.site.pages path) store.puts text

-- the store after a page is set: it has the next stamp
abbrev pub with_page : StoreState → List ℕ → Page → StoreState
with_page store path page =
    record { site = effect_of store.site (set_page path page); stamps = map.insert store.stamps path store.puts; puts = store.puts + 1 }

-- the store after a put that fits or not
abbrev pub put_by : StoreState → List ℕ → Page → Bool → Result (Unit {0}) EditError → StoreState × Result Put EditError
put_by store path page stands (Err e) = (store, Err e)
put_by store path page stands (Ok fine) = (with_page store path page, Ok (if stands then Replaced else Created))

-- a put of a page with these groups and this text under a path
abbrev pub put_into : StoreState → List ℕ → List (List ℕ) → List ℕ → StoreState × Result Put EditError
put_into store path groups text =
    put_by store path (record { groups = groups; text = text }) (map.contains_key store.site.pages path) (fits_in store path text)

-- the store after the page of a path is removed, where one stands
abbrev pub without_page : StoreState → List ℕ → StoreState
without_page store path =
    if map.contains_key store.site.pages path
    then record { site = effect_of store.site (remove_page path); stamps = map.remove store.stamps path; puts = store.puts }
    else store

-- whether a move is refused, from whether a page stands under the old and under the new path, how many
-- aliases would stand after it, and how many puts and moves were accepted
abbrev pub move_fits : Bool → Bool → ℕ → ℕ → Result (Unit {0}) MoveError
move_fits stands taken aliases puts =
    if not stands then Err move_errors.NoPage
    else (if taken then Err move_errors.Taken
    else (if nat_lt alias_limit aliases || nat_le put_limit puts then Err move_errors.StoreFull else Ok tt))

-- whether a move from one path to another is refused
abbrev pub may_move : StoreState → List ℕ → List ℕ → Result (Unit {0}) MoveError
may_move store from to =
    move_fits (map.contains_key store.site.pages from) (map.contains_key store.site.pages to)
    (map.len (aliases_after store.site.aliases from to)) store.puts

-- the store after a page is moved: it has the next stamp
abbrev pub with_move : StoreState → List ℕ → List ℕ → StoreState
with_move store from to =
    record {
      site = effect_of store.site (move_page from to);
      stamps = map.insert (map.remove store.stamps from) to store.puts;
      puts = store.puts + 1;
    }

-- the store after a move that fits or not
abbrev pub moved_by : StoreState → List ℕ → List ℕ → Result (Unit {0}) MoveError → StoreState × Result (Unit {0}) MoveError
moved_by store from to (Err e) = (store, Err e)
moved_by store from to (Ok fine) = (with_move store from to, Ok tt)

-- a move of the page of one path to another
abbrev pub moved_in : StoreState → List ℕ → List ℕ → StoreState × Result (Unit {0}) MoveError
moved_in store from to = moved_by store from to (may_move store from to)

-- the stamp that the next put or move takes, where one is left
abbrev pub stamp_after : ℕ → Option ℕ
stamp_after puts = if nat_le put_limit puts then None else Some puts
