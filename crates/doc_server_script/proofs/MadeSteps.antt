-- A page is made with its aliases where it doesn't stand.
use Rattle.std.proofs.Common.{◌≡◌, ℕ, List, [], ◌∷◌, ◌++◌, Bool, true, false, cond, not, ◌||◌, bytes_eq, is_some, refl, ap, sym, subst, ◌∙◌}
use Rattle.std.specs.Prelude.{⊤, Option, Some, None, option_map}
use Rattle.std.specs.FinMap as map
use Rattle.std.specs.List.{list_any}
use Rattle.std.proofs.lemmas.Cmp.{nat_list_cmp_total}
use Rattle.std.proofs.lemmas.Map.Lookups.{exact_bytes}
use Rattle.doc_page_parts.proofs.Bools.{clash}
use Rattle.doc_store_readers.proofs.KeySteps.{same_key, same_from, same_itself, bytes_eq_is, not_none, some_is, get_set, get_taken}
use Rattle.doc_store.proofs.StoreSteps.{get-aliases_after, get-without_goal}
use Rattle.doc_store_readers.specs.Maps.{TextMap}
use Rattle.doc_store_readers.specs.Pages.{Page}
use Rattle.doc_store_readers.specs.Sites.{Site, IsSite}
use Rattle.doc_store.specs.Store.{set_page, remove_page, move_page, effect_of, is_goal, without_goal, goal_after, aliases_after}
use Rattle.doc_store.specs.Store.{with_key, with_key_at}
use Rattle.doc_server_script.specs.Compactions.{effects, made_along, moves}

-- ---- names

-- whether a name stands among some
abbrev pub is_in : List ℕ → List (List ℕ) → Bool
is_in name names = list_any (same_key name) names

-- no name stands twice
abbrev pub Once : List (List ℕ) → Type 0
Once [] = ⊤
Once (name ∷ names) = (is_in name names ≡ false) × Once names

pub first_is_in : (name : List ℕ) (names : List (List ℕ)) → is_in name (name ∷ names) ≡ true
first_is_in name names = ap (λ b. b || is_in name names) (same_itself name)

pub later_is_in : (name first : List ℕ) (names : List (List ℕ)) → is_in name names ≡ true → is_in name (first ∷ names) ≡ true
later_is_in name first names e = ap (λ b. same_key name first || b) e ∙ either (same_key name first)
  where
    either : (b : Bool) → (b || true) ≡ true
    either true = refl
    either false = refl

-- a name that stands isn't one that doesn't
pub apart_from : (name other : List ℕ) (names : List (List ℕ)) → is_in name names ≡ true → is_in other names ≡ false
    → same_key name other ≡ false
apart_from name other names there not_there = by (same_key name other) refl
  where
    by : (b : Bool) → same_key name other ≡ b → b ≡ false
    by true e = absurd (clash (is_in name names) there (ap (λ n. is_in n names) (same_from name other e) ∙ not_there))
    by false e = refl

pub is_in_with_last : (name last : List ℕ) (names : List (List ℕ))
    → is_in name (names ++ last ∷ []) ≡ (is_in name names || same_key name last)
is_in_with_last name last [] = either (same_key name last)
  where
    either : (b : Bool) → (b || false) ≡ b
    either true = refl
    either false = refl
is_in_with_last name last (first ∷ names) =
    ap (λ b. same_key name first || b) (is_in_with_last name last names) ∙ joined (same_key name first) (is_in name names)
    (same_key name last)
  where
    joined : (a b c : Bool) → (a || (b || c)) ≡ ((a || b) || c)
    joined true b c = refl
    joined false b c = refl

pub key_turned : (name other : List ℕ) → same_key name other ≡ false → same_key other name ≡ false
key_turned name other e = by (same_key other name) refl
  where
    by : (b : Bool) → same_key other name ≡ b → b ≡ false
    by true f = absurd (clash (same_key name other) (ap (same_key name) (same_from other name f) ∙ same_itself name) e)
    by false f = refl

pub once_with_last : (names : List (List ℕ)) (last : List ℕ) → Once names → is_in last names ≡ false → Once (names ++ last ∷ [])
once_with_last [] last once e = (refl, tt)
once_with_last (first ∷ names) last once e = (
  is_in_with_last first last names ∙ ap (λ b. b || same_key first last) once.0
      ∙ key_turned last first (head (same_key last first) (is_in last names) e),
  once_with_last names last once.1 (tail (same_key last first) (is_in last names) e),
)
  where
    head : (a b : Bool) → (a || b) ≡ false → a ≡ false
    head true b e = e
    head false b e = refl

    tail : (a b : Bool) → (a || b) ≡ false → b ≡ false
    tail true b e = cc
    tail false b e = e

-- ---- a page on its way

-- A site is another with a page more: under this path, and with these aliases.
pub record IsAt (rest : Site) (page : Page) (path : List ℕ) (gone : List ℕ → Bool) (now : Site) : Type 0 where
  pub pages : (q : List ℕ) → map.get now.pages q ≡ cond (same_key q path) (Some page) (map.get rest.pages q)
  pub aliases : (q : List ℕ) → map.get now.aliases q ≡ cond (gone q) (Some path) (map.get rest.aliases q)

-- a site says nothing of a name
pub record IsFree (rest : Site) (name : List ℕ) : Type 0 where
  pub page : map.get rest.pages name ≡ None
  pub alias : map.get rest.aliases name ≡ None
  pub goal : (q : List ℕ) → map.get rest.aliases q ≡ Some name → ⊥

nothing_taken : {X : Type 0} (m : TextMap X) (k q : List ℕ) → map.get m k ≡ None → cond (same_key q k) None (map.get m q) ≡ map.get m q
nothing_taken {X = X} m k q none = by (same_key q k) refl
  where
    by : (b : Bool) → same_key q k ≡ b → cond b None (map.get m q) ≡ map.get m q
    by true e = sym (ap (map.get m) (same_from q k e) ∙ none)
    by false e = refl

pub put_at : (rest : Site) (page : Page) (path : List ℕ) → IsFree rest path
    → IsAt rest page path (λ _. false) (effect_of rest (set_page path page))
put_at rest page path free = record {
  pages = λ q. get_set rest.pages path page q;
  aliases = λ q. get_taken rest.aliases path q ∙ nothing_taken rest.aliases path q free.alias;
}

module _ (rest : Site) (page : Page) (from to : List ℕ) (gone : List ℕ → Bool) (now : Site) (at : IsAt rest page from gone now)
    (old : IsFree rest from) (new : IsFree rest to) (first : gone to ≡ false) where
  pub here : map.get now.pages from ≡ Some page
  here = at.pages from ∙ ap (λ b. cond b (Some page) (map.get rest.pages from)) (same_itself from)

  page_moved : (q : List ℕ) → map.get (with_key now.pages from to) q ≡ cond (same_key q to) (Some page) (map.get rest.pages q)
  page_moved q =
      ap (λ found. map.get (with_key_at now.pages from to found) q) here
      ∙ (get_set (map.remove now.pages from) to page q
      ∙ ap (cond (same_key q to) (Some page)) (get_taken now.pages from q ∙ by (same_key q from) refl))
    where
      by : (b : Bool) → same_key q from ≡ b → cond b None (map.get now.pages q) ≡ map.get rest.pages q
      by true e = sym (ap (map.get rest.pages) (same_from q from e) ∙ old.page)
      by false e = at.pages q ∙ ap (λ b. cond b (Some page) (map.get rest.pages q)) e

  alias_kept : (q : List ℕ) (goal : Option (List ℕ)) → map.get rest.aliases q ≡ goal → option_map (goal_after from to) goal ≡ goal
  alias_kept q None e = refl
  alias_kept q (Some goal) e = by (bytes_eq goal from) refl
    where
      by : (b : Bool) → bytes_eq goal from ≡ b → ◌≡◌ {A = Option (List ℕ)} (Some (cond b to goal)) (Some goal)
      by true same = absurd (old.goal q (e ∙ ap Some (same_from goal from (sym (bytes_eq_is goal from) ∙ same))))
      by false same = refl

  alias_led : (q : List ℕ) (b : Bool) → option_map (goal_after from to) (cond b (Some from) (map.get rest.aliases q))
      ≡ cond b (Some to) (map.get rest.aliases q)
  alias_led q true = ap (λ b. Some (cond b to from)) (bytes_eq_is from from ∙ same_itself from)
  alias_led q false = alias_kept q (map.get rest.aliases q) refl

  alias_moved : (q : List ℕ) → map.get (aliases_after now.aliases from to) q
      ≡ cond (same_key q from || gone q) (Some to) (map.get rest.aliases q)
  alias_moved q = get-aliases_after now.aliases from to q ∙ by (same_key q from)
    where
      by_to : (b : Bool) → same_key q to ≡ b → option_map (goal_after from to) (cond b None (map.get now.aliases q))
          ≡ cond (gone q) (Some to) (map.get rest.aliases q)
      by_to true e = sym (ap (λ name. cond (gone name) (Some to) (map.get rest.aliases name)) (same_from q to e)
          ∙ (ap (λ b. cond b (Some to) (map.get rest.aliases to)) first ∙ new.alias))
      by_to false e = ap (option_map (goal_after from to)) (at.aliases q) ∙ alias_led q (gone q)

      by : (b : Bool) → cond b (Some to) (option_map (goal_after from to) (cond (same_key q to) None (map.get now.aliases q)))
          ≡ cond (b || gone q) (Some to) (map.get rest.aliases q)
      by true = refl
      by false = by_to (same_key q to) refl

  pub move_at : IsAt rest page to (λ q. same_key q from || gone q) (effect_of now (move_page from to))
  move_at = record { pages = page_moved; aliases = alias_moved }

-- where a page has come that is moved along some names
abbrev last_of : List ℕ → List (List ℕ) → List ℕ
last_of from [] = from
last_of from (to ∷ names) = last_of to names

-- the names that are its aliases then
abbrev gone_after : List ℕ → List (List ℕ) → (List ℕ → Bool) → List ℕ → Bool
gone_after from [] gone q = gone q
gone_after from (to ∷ names) gone q = gone_after to names (λ name. same_key name from || gone name) q

moves_at : (rest : Site) (page : Page) (from : List ℕ) (names : List (List ℕ)) (gone : List ℕ → Bool) (now : Site)
    → IsAt rest page from gone now → ((q : List ℕ) → is_in q (from ∷ names) ≡ true → IsFree rest q) → Once (from ∷ names)
    → ((q : List ℕ) → is_in q names ≡ true → gone q ≡ false)
    → IsAt rest page (last_of from names) (gone_after from names gone) (effects now (moves from names))
moves_at rest page from [] gone now at free once apart = at
moves_at rest page from (to ∷ names) gone now at free once apart =
    moves_at rest page to names (λ name. same_key name from || gone name) (effect_of now (move_page from to))
    (move_at rest page from to gone now at (free from (first_is_in from (to ∷ names)))
    (free to (later_is_in to from (to ∷ names) (first_is_in to names))) (apart to (first_is_in to names)))
    (λ q e. free q (later_is_in q from (to ∷ names) e)) once.1
    (λ q e. neither (same_key q from) (gone q) (apart_from q from (to ∷ names) (later_is_in q to names e) once.0)
    (apart q (later_is_in q to names e)))
  where
    neither : (a b : Bool) → a ≡ false → b ≡ false → (a || b) ≡ false
    neither a b e f = ap (λ a. a || b) e ∙ f

last_is : (from : List ℕ) (names : List (List ℕ)) (path : List ℕ) → last_of from (names ++ path ∷ []) ≡ path
last_is from [] path = refl
last_is from (to ∷ names) path = last_is to names path

gone_is : (from : List ℕ) (names : List (List ℕ)) (path : List ℕ) (gone : List ℕ → Bool) (q : List ℕ)
    → gone_after from (names ++ path ∷ []) gone q ≡ (is_in q (from ∷ names) || gone q)
gone_is from [] path gone q = with_none (same_key q from)
  where
    with_none : (a : Bool) → (a || gone q) ≡ ((a || false) || gone q)
    with_none true = refl
    with_none false = refl
gone_is from (to ∷ names) path gone q =
    gone_is to names path (λ name. same_key name from || gone name) q
    ∙ turned (same_key q from) (is_in q (to ∷ names)) (gone q)
  where
    turned : (a b c : Bool) → (b || (a || c)) ≡ ((a || b) || c)
    turned true true c = refl
    turned true false c = refl
    turned false b c = refl

-- ---- a page is made

-- an alias that stays where those of a page are taken leads elsewhere
pub stays : (aliases : TextMap (List ℕ)) (path alias goal : List ℕ) → map.get (without_goal aliases path) alias ≡ Some goal
    → (map.get aliases alias ≡ Some goal) × (same_key goal path ≡ false)
stays aliases path alias goal e = by (map.get aliases alias) (sym (get-without_goal aliases path alias) ∙ e)
  where
    by_goal : (b : Bool) (old : List ℕ) → bytes_eq old path ≡ b → cond (not b) (Some old) None ≡ Some goal
        → ◌≡◌ {A = Option (List ℕ)} (Some old) (Some goal) × (same_key goal path ≡ false)
    by_goal true old is e = absurd (not_none goal e)
    by_goal false old is e = (e, ap (λ g. same_key g path) (sym (some_is old goal e)) ∙ (sym (bytes_eq_is old path) ∙ is))

    by : (old : Option (List ℕ)) → cond (not (is_goal path old)) old None ≡ Some goal → (old ≡ Some goal) × (same_key goal path ≡ false)
    by None e = absurd (not_none goal e)
    by (Some old) e = by_goal (bytes_eq old path) old refl e

pub no_page : {X : Type 0} (o : Option X) → is_some o ≡ false → o ≡ None
no_page None e = refl
no_page (Some x) e = cc

-- what leads to a path leads there
pub leads : (path : List ℕ) (goal : Option (List ℕ)) → is_goal path goal ≡ true → goal ≡ Some path
leads path None e = cc
leads path (Some goal) e = ap Some (same_from goal path (sym (bytes_eq_is goal path) ∙ e))

pub site_is : (now site : Site) → ((q : List ℕ) → map.get now.pages q ≡ map.get site.pages q)
    → ((q : List ℕ) → map.get now.aliases q ≡ map.get site.aliases q) → now ≡ site
site_is now site pages aliases =
    let same_pages = map.same_map nat_list_cmp_total exact_bytes now.pages site.pages pages in
    let same_aliases = map.same_map nat_list_cmp_total exact_bytes now.aliases site.aliases aliases in
    λ i. record { pages = same_pages i; aliases = same_aliases i }

module _ (site : Site) (is : IsSite site) (path : List ℕ) (page : Page) (stands : map.get site.pages path ≡ Some page)
    (names : List (List ℕ)) (lead : (q : List ℕ) → is_in q names ≡ is_goal path (map.get site.aliases q)) (once : Once names) where
  abbrev rest : Site
  rest = effect_of site (remove_page path)

  no_alias : map.get site.aliases path ≡ None
  no_alias = by (map.get site.aliases path) refl
    where
      by : (goal : Option (List ℕ)) → map.get site.aliases path ≡ goal → goal ≡ None
      by None e = refl
      by (Some goal) e = absurd (clash (map.contains_key site.pages path) (ap is_some stands) (is.apart path goal e))

  pub path_is_free : IsFree rest path
  path_is_free = record {
    page = get_taken site.pages path path ∙ ap (λ b. cond b None (map.get site.pages path)) (same_itself path);
    alias = get-without_goal site.aliases path path ∙ ap (λ goal. cond (not (is_goal path goal)) goal None) no_alias;
    goal = λ q e. clash (same_key path path) (same_itself path) (stays site.aliases path q path e).1;
  }

  name_is_free : (q : List ℕ) → map.get site.aliases q ≡ Some path → IsFree rest q
  name_is_free q e = record {
    page = get_taken site.pages path q
        ∙ (ap (cond (same_key q path) None) (no_page (map.get site.pages q) (is.apart q path e)) ∙ either (same_key q path));
    alias = get-without_goal site.aliases path q ∙ (ap (λ goal. cond (not (is_goal path goal)) goal None) e
        ∙ ap (λ b. cond (not b) (Some path) None) (bytes_eq_is path path ∙ same_itself path));
    goal = λ other f. clash (map.contains_key site.pages q) (is.lead other q (stays site.aliases path other q f).0) (is.apart q path e);
  }
    where
      either : (b : Bool) → cond {A = Option Page} b None None ≡ None
      either true = refl
      either false = refl

  pub path_is_no_name : is_in path names ≡ false
  path_is_no_name = lead path ∙ ap (is_goal path) no_alias

  pub all_free : (q : List ℕ) → is_in q (names ++ path ∷ []) ≡ true → IsFree rest q
  all_free q e = by (is_in q names) refl (sym (is_in_with_last q path names) ∙ e)
    where
      by : (b : Bool) → is_in q names ≡ b → (b || same_key q path) ≡ true → IsFree rest q
      by true there e = name_is_free q (leads path (map.get site.aliases q) (sym (lead q) ∙ there))
      by false there e = subst (IsFree rest) (sym (same_from q path e)) path_is_free

  -- the page with all its aliases makes the site whole
  whole : (now : Site) → IsAt rest page path (λ q. is_in q names) now → now ≡ site
  whole now at = site_is now site (λ q. at.pages q ∙ page_at q) (λ q. at.aliases q ∙ alias_at q)
    where
      page_at : (q : List ℕ) → cond (same_key q path) (Some page) (map.get rest.pages q) ≡ map.get site.pages q
      page_at q = ap (cond (same_key q path) (Some page)) (get_taken site.pages path q) ∙ by (same_key q path) refl
        where
          by : (b : Bool) → same_key q path ≡ b → cond b (Some page) (cond b None (map.get site.pages q)) ≡ map.get site.pages q
          by true e = sym (ap (map.get site.pages) (same_from q path e) ∙ stands)
          by false e = refl

      alias_at : (q : List ℕ) → cond (is_in q names) (Some path) (map.get rest.aliases q) ≡ map.get site.aliases q
      alias_at q =
          ap (λ b. cond b (Some path) (map.get rest.aliases q)) (lead q)
          ∙ (ap (cond (is_goal path (map.get site.aliases q)) (Some path)) (get-without_goal site.aliases path q)
          ∙ by (is_goal path (map.get site.aliases q)) refl)
        where
          by : (b : Bool) → is_goal path (map.get site.aliases q) ≡ b
              → cond b (Some path) (cond (not b) (map.get site.aliases q) None) ≡ map.get site.aliases q
          by true e = sym (leads path (map.get site.aliases q) e)
          by false e = refl

  made_at : (some : List (List ℕ)) → ((q : List ℕ) → is_in q (some ++ path ∷ []) ≡ true → IsFree rest q) → Once (some ++ path ∷ [])
      → IsAt rest page path (λ q. is_in q some) (effects rest (made_along page (some ++ path ∷ [])))
  made_at [] free once = put_at rest page path path_is_free
  made_at (first ∷ more) free once =
      let at = moves_at rest page first (more ++ path ∷ []) (λ _. false) (effect_of rest (set_page first page))
      (put_at rest page first (free first (first_is_in first (more ++ path ∷ [])))) free once (λ q e. refl) in
      record {
        pages = λ q. at.pages q ∙ ap (λ p. cond (same_key q p) (Some page) (map.get rest.pages q)) (last_is first more path);
        aliases = λ q.
            at.aliases q
            ∙ (ap (λ b. cond b (Some (last_of first (more ++ path ∷ []))) (map.get rest.aliases q))
            (gone_is first more path (λ _. false) q ∙ either (is_in q (first ∷ more)))
            ∙ ap (λ p. cond (is_in q (first ∷ more)) (Some p) (map.get rest.aliases q)) (last_is first more path));
      }
    where
      either : (b : Bool) → (b || false) ≡ b
      either true = refl
      either false = refl

  pub page_made : effects rest (made_along page (names ++ path ∷ [])) ≡ site
  page_made = whole (effects rest (made_along page (names ++ path ∷ [])))
      (made_at names all_free (once_with_last names path once path_is_no_name))
