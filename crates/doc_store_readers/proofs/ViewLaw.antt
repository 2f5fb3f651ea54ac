-- What a reader sees, and that the view of a view is the view.
use Rattle.std.proofs.Common.{◌≡◌, ℕ, List, [], ◌∷◌, Bool, true, false, cond, refl, ap, sym, ◌∙◌}
use Rattle.std.specs.Prelude.{Option, Some, None, option_and_then}
use Rattle.std.specs.Cmp.Lexicographic.{slice_cmp, texts_ties}
use Rattle.std.specs.FinMap as map
use Rattle.std.specs.Ordering.{nat_cmp, eq_by_cmp}
use Rattle.std.proofs.lemmas.Cmp.{nat_list_cmp_total}
use Rattle.std.proofs.lemmas.Map.Lookups.{exact_bytes}
use Rattle.doc_store_readers.specs.declared.reader.Reader.{Reader}
use Rattle.doc_store_readers.specs.Laws.{ViewOfView, NoReaderSeesNothing, GoalsOfViews}
use Rattle.doc_store_readers.specs.Maps.{TextMap}
use Rattle.doc_store_readers.specs.Pages.{Page}
use Rattle.doc_store_readers.specs.Sites.{Site, may_see_at, page_of_alias, visible_to, view_of, entry_at, page_at, goal_by}

-- what a reader sees under a path
pub get-visible_pages : (site : Site) (reader : Option Reader) (path : List ℕ)
    → map.get (visible_to site reader).pages path ≡ cond (may_see_at reader (map.get site.pages path)) (map.get site.pages path) None
unfolding visible_to
get-visible_pages site reader path =
    map.get-retain_keys site.pages (λ q. may_see_at reader (map.get site.pages q)) path
    (λ q tied. ap (may_see_at reader) (map.get_tied nat_list_cmp_total site.pages path q tied))

-- where an alias leads a reader
pub get-visible_aliases : (site : Site) (reader : Option Reader) (alias : List ℕ)
    → map.get (visible_to site reader).aliases alias ≡ cond (may_see_at reader (page_of_alias site alias)) (map.get site.aliases alias) None
unfolding visible_to
get-visible_aliases site reader alias =
    map.get-retain_keys site.aliases (λ q. may_see_at reader (page_of_alias site q)) alias
    (λ q tied. ap (λ goal. may_see_at reader (option_and_then (map.get site.pages) goal))
    (map.get_tied nat_list_cmp_total site.aliases alias q tied))

-- what is seen is seen again
seen_again : (reader : Option Reader) (page : Option Page) (sees : Bool) → may_see_at reader page ≡ sees
    → cond (may_see_at reader (cond sees page None)) (cond sees page None) None ≡ cond sees page None
seen_again reader page true e = rw e refl
seen_again reader page false e = refl

pages_again : (site : Site) (reader : Option Reader) → (visible_to (visible_to site reader) reader).pages ≡ (visible_to site reader).pages
pages_again site reader = map.same_map nat_list_cmp_total exact_bytes _ _ (λ path.
    get-visible_pages (visible_to site reader) reader path
    ∙ ap (λ page. cond (may_see_at reader page) page None) (get-visible_pages site reader path)
    ∙ seen_again reader (map.get site.pages path) (may_see_at reader (map.get site.pages path)) refl
    ∙ sym (get-visible_pages site reader path))

-- where an alias leads a reader, it leads them again
goal_again : (site : Site) (reader : Option Reader) (goal : Option (List ℕ)) (sees : Bool)
    → may_see_at reader (option_and_then (map.get site.pages) goal) ≡ sees
    → cond (may_see_at reader (option_and_then (map.get (visible_to site reader).pages) (cond sees goal None))) (cond sees goal None) None
    ≡ cond sees goal None
goal_again site reader goal false e = refl
goal_again site reader None true e = same_none (may_see_at reader None)
  where
    same_none : (b : Bool) → ◌≡◌ {A = Option (List ℕ)} (cond b None None) None
    same_none true = refl
    same_none false = refl
goal_again site reader (Some goal) true e =
    ap (λ page. cond (may_see_at reader page) (Some goal) None)
    (get-visible_pages site reader goal ∙ ap (λ b. cond b (map.get site.pages goal) None) e)
    ∙ ap (λ b. cond b (Some goal) None) e

aliases_again : (site : Site) (reader : Option Reader) → (visible_to (visible_to site reader) reader).aliases
    ≡ (visible_to site reader).aliases
aliases_again site reader = map.same_map nat_list_cmp_total exact_bytes _ _ (λ alias.
    get-visible_aliases (visible_to site reader) reader alias
    ∙ ap (λ goal. cond (may_see_at reader (option_and_then (map.get (visible_to site reader).pages) goal)) goal None)
    (get-visible_aliases site reader alias)
    ∙ goal_again site reader (map.get site.aliases alias) (may_see_at reader (page_of_alias site alias)) refl
    ∙ sym (get-visible_aliases site reader alias))

pub view_of_view : ViewOfView
view_of_view site reader = λ i. record { pages = pages_again site reader i; aliases = aliases_again site reader i }

-- ---- no reader

pub no_reader_sees_nothing : NoReaderSeesNothing
no_reader_sees_nothing site = λ i. record { pages = no_pages i; aliases = no_aliases i }
  where
    never : (page : Option Page) → may_see_at None page ≡ false
    never None = refl
    never (Some page) = refl

    no_pages : (visible_to site None).pages ≡ map.empty
    no_pages = map.same_map nat_list_cmp_total exact_bytes _ _ (λ path.
        get-visible_pages site None path ∙ ap (λ b. cond b (map.get site.pages path) None) (never (map.get site.pages path))
        ∙ sym (map.get-empty (slice_cmp nat_cmp) path))

    no_aliases : (visible_to site None).aliases ≡ map.empty
    no_aliases = map.same_map nat_list_cmp_total exact_bytes _ _ (λ alias.
        get-visible_aliases site None alias ∙ ap (λ b. cond b (map.get site.aliases alias) None) (never (page_of_alias site alias))
        ∙ sym (map.get-empty (slice_cmp nat_cmp) alias))

-- ---- views as lists

entry_at-find : {X : Type 0} (entries : List (List ℕ × X)) (path : List ℕ)
    → entry_at entries path ≡ map.find (slice_cmp nat_cmp) path entries
entry_at-find [] path = refl
entry_at-find (entry ∷ rest) path =
    ap (λ t. cond t (Some entry.1) (entry_at rest path)) (texts_ties path entry.0)
    ∙ ap (cond (eq_by_cmp (slice_cmp nat_cmp) path entry.0) (Some entry.1)) (entry_at-find rest path)

-- what the entries of a map hold is what the map has
pub entry_at-entries : {X : Type 0} (m : TextMap X) (path : List ℕ) → entry_at (map.entries m) path ≡ map.get m path
entry_at-entries m path = entry_at-find (map.entries m) path ∙ sym (map.get-entries m path)

pub goals_of_views : GoalsOfViews
goals_of_views site reader path = λ i. goal_by path (entry_at-entries (visible_to site reader).pages path i)
    (entry_at-entries (visible_to site reader).aliases path i)

-- the page that stands, where the reader may see it
pub page_at-view_of : (site : Site) (reader : Option Reader) (path : List ℕ)
    → page_at (view_of site reader).pages path ≡ cond (may_see_at reader (map.get site.pages path)) (map.get site.pages path) None
page_at-view_of site reader path = entry_at-entries (visible_to site reader).pages path ∙ get-visible_pages site reader path

-- where an alias leads, where the reader may see the page
pub alias_at-view_of : (site : Site) (reader : Option Reader) (alias : List ℕ)
    → entry_at (view_of site reader).aliases alias ≡ cond (may_see_at reader (page_of_alias site alias)) (map.get site.aliases alias) None
alias_at-view_of site reader alias = entry_at-entries (visible_to site reader).aliases alias ∙ get-visible_aliases site reader alias
