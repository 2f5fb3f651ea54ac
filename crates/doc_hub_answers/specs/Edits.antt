-- Edits of the site that requests ask for.
use Rattle.std.specs.Prelude.{◌≡◌, ℕ, List, Bool, true, false, nat_lt, ◌&&◌, Option, Some, None, Ok, ⊤}
use Rattle.std.specs.FinMap as map
use Rattle.std.specs.Str.{is_utf8}
use Rattle.doc_store_readers.specs.Pages.{Page}
use Rattle.doc_store_readers.specs.Sites.{IsSite}
use Rattle.doc_store.specs.Store.{StoreState, alias_limit, aliases_after, fits_in, put_limit, with_move, with_page, without_page}
use Rattle.doc_hub_answers.specs.declared.edit.Edit.{Edit}
use Rattle.doc_hub_answers.specs.declared.edit.Edit.TheVariants as edits

-- whether a put is left: fewer than 2^64 - 1 puts and moves were accepted
abbrev pub puts_left : ℕ → Bool
puts_left puts = nat_lt puts put_limit

-- whether an owner's put is taken, by whether the server takes puts and by how many were accepted
abbrev pub puts_taken : Bool → ℕ → Bool
puts_taken takes puts = takes && puts_left puts

-- the store after the page of a path, if one stands there, got these groups; its text stays
abbrev pub regrouped : StoreState → List ℕ → List (List ℕ) → Option Page → StoreState
regrouped store path groups None = store
regrouped store path groups (Some page) = with_page store path (record page { groups = groups })

-- the store after the edit of a request, whose body is the text of a page that is put
abbrev pub store_after : StoreState → List ℕ → Option Edit → StoreState
store_after store text None = store
store_after store text (Some (edits.Put path groups)) = with_page store path (record { groups = groups; text = text })
store_after store text (Some (edits.Regroup path groups)) = regrouped store path groups (map.get store.site.pages path)
store_after store text (Some (edits.Move from to)) = with_move store from to
store_after store text (Some (edits.Remove path)) = without_page store path

-- a page stands there whose text may be put anew
abbrev pub CanRegroup : StoreState → List ℕ → Option Page → Type 0
CanRegroup store path None = ⊥
CanRegroup store path (Some page) = fits_in store path page.text ≡ Ok tt

-- a page stands under the old path and none under the new one, a put is left, and in a site there is room for one alias more
pub record CanMove (store : StoreState) (from to : List ℕ) : Type 0 where
  pub stands : map.contains_key store.site.pages from ≡ true
  pub free : map.contains_key store.site.pages to ≡ false
  pub left : puts_left store.puts ≡ true
  pub room : IsSite store.site → nat_lt alias_limit (map.len (aliases_after store.site.aliases from to)) ≡ false

-- a put whose text is UTF-8 and fits, other groups of a page that may be put anew, a move that is possible, a removal of a page that
-- stands, or nothing
abbrev pub CanBeMade : StoreState → List ℕ → Option Edit → Type 0
CanBeMade store text None = ⊤
CanBeMade store text (Some (edits.Put path groups)) = (is_utf8 text ≡ true) × (fits_in store path text ≡ Ok tt)
CanBeMade store text (Some (edits.Regroup path groups)) = CanRegroup store path (map.get store.site.pages path)
CanBeMade store text (Some (edits.Move from to)) = CanMove store from to
CanBeMade store text (Some (edits.Remove path)) = map.contains_key store.site.pages path ≡ true
