-- Sites, and what a reader sees of one. All of this is this project's choice.
use Rattle.std.specs.Prelude.{◌≡◌, ℕ, List, [], ◌∷◌, Bool, true, false, ◌||◌, bytes_eq, Option, Some, None, option_and_then, if◌then◌else◌}
use Rattle.std.specs.Prelude.{refl}
use Rattle.std.specs.Coded.{Coded, code_by, coded×, coded_list, coded_ℕ}
use Rattle.std.specs.FinMap as map
use Rattle.doc_store_readers.specs.declared.reader.Reader.{Reader}
use Rattle.doc_store_readers.specs.Groups.{meet}
use Rattle.doc_store_readers.specs.Maps.{TextMap}
use Rattle.doc_store_readers.specs.Pages.{Page, page_code}

-- A site: its pages by their paths, and for each alias the path of the page that it leads to. The
-- aliases of a page are those that lead to its path: two maps stand here for one map of pages, each
-- with a set of aliases.
pub record Site : Type 0 where
  pub pages : TextMap Page
  pub aliases : TextMap (List ℕ)

abbrev pub site_code : Coded Site
site_code =
    code_by (TextMap Page × TextMap (List ℕ)) (coded× (map.code (coded_list coded_ℕ) page_code)
    (map.code (coded_list coded_ℕ) (coded_list coded_ℕ)))
    (λ s. (s.pages, s.aliases)) (λ p. record { pages = p.0; aliases = p.1 }) (λ _. refl)

-- a site without pages
abbrev pub empty_site : Site
empty_site = record { pages = map.empty; aliases = map.empty }

-- what every site of a store is: no alias is the path of a page, and each leads to the path of one
pub record IsSite (site : Site) : Type 0 where
  pub apart : (alias path : List ℕ) → map.get site.aliases alias ≡ Some path → map.contains_key site.pages alias ≡ false
  pub lead : (alias path : List ℕ) → map.get site.aliases alias ≡ Some path → map.contains_key site.pages path ≡ true

-- where a path leads, from the page that stands there and where it leads as an alias: to itself where one stands
abbrev pub goal_by : List ℕ → Option Page → Option (List ℕ) → Option (List ℕ)
goal_by path None goal = goal
goal_by path (Some page) goal = Some path

-- where a path leads in a site
abbrev pub goal_of : Site → List ℕ → Option (List ℕ)
goal_of site path = goal_by path (map.get site.pages path) (map.get site.aliases path)

-- a reader may see a page as an owner, or where their groups and the page's meet; no reader may see nothing
abbrev pub may_see : Option Reader → Page → Bool
may_see None page = false
may_see (Some reader) page = reader.owner || meet reader.groups page.groups

-- the same where a page need not stand
abbrev pub may_see_at : Option Reader → Option Page → Bool
may_see_at reader None = false
may_see_at reader (Some page) = may_see reader page

-- the page that an alias leads to
abbrev pub page_of_alias : Site → List ℕ → Option Page
page_of_alias site alias = option_and_then (map.get site.pages) (map.get site.aliases alias)

-- what a reader sees of a site: the pages that they may see, and the aliases that lead to such pages
unfoldable pub visible_to : Site → Option Reader → Site
visible_to site reader = record {
  pages = map.retain_keys site.pages (λ path. may_see_at reader (map.get site.pages path));
  aliases = map.retain_keys site.aliases (λ alias. may_see_at reader (page_of_alias site alias));
}

-- A view: what a reader sees of a site, in the order of the paths: the pages, and where the aliases
-- lead. Answers are made of views alone.
pub record View : Type 0 where
  pub pages : List (List ℕ × Page)
  pub aliases : List (List ℕ × List ℕ)

abbrev pub view_code : Coded View
view_code =
    code_by (List (List ℕ × Page) × List (List ℕ × List ℕ))
    (coded× (coded_list (coded× (coded_list coded_ℕ) page_code)) (coded_list (coded× (coded_list coded_ℕ) (coded_list coded_ℕ))))
    (λ v. (v.pages, v.aliases)) (λ p. record { pages = p.0; aliases = p.1 }) (λ _. refl)

abbrev pub view_of : Site → Option Reader → View
view_of site reader = record { pages = map.entries (visible_to site reader).pages; aliases = map.entries (visible_to site reader).aliases }

-- what the entry of a path holds
abbrev pub entry_at : {X : Type 0} → List (List ℕ × X) → List ℕ → Option X
entry_at [] path = None
entry_at (entry ∷ rest) path = if bytes_eq path entry.0 then Some entry.1 else entry_at rest path

-- the page that stands under a path
abbrev pub page_at : List (List ℕ × Page) → List ℕ → Option Page
page_at pages path = entry_at pages path

-- where a path leads in a view
abbrev pub goal_in : View → List ℕ → Option (List ℕ)
goal_in view path = goal_by path (page_at view.pages path) (entry_at view.aliases path)
