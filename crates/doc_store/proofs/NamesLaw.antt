-- The names of a page are the paths that lead to it.
use Rattle.std.proofs.Common.{◌≡◌, ℕ, List, [], ◌∷◌, Bool, true, false, cond, ◌||◌, bytes_eq, is_some, refl, ap, sym, subst, ◌∙◌}
use Rattle.std.specs.Prelude.{Option, Some, None, option_and_then, option_map, Result, Ok, Err, IfOk, if◌then◌else◌}
use Rattle.std.specs.FinMap as map
use Rattle.std.specs.FinMap.Entries.{find, is_some-find}
use Rattle.std.specs.List.{AllByRecursion, IsDistinct, filter, list_any}
use Rattle.std.specs.Map.{keys_of}
use Rattle.std.specs.Cmp.Lexicographic.{slice_cmp}
use Rattle.std.specs.Ordering.{nat_cmp, eq_by_cmp}
use Rattle.std.proofs.lemmas.Cmp.{nat_list_cmp_total}
use Rattle.std.proofs.lemmas.Map.Entries.{option_filter}
use Rattle.std.proofs.lemmas.Map.Keys.{IsDistinct-cons, IsDistinct-from_sorted}
use Rattle.std.proofs.lemmas.Map.Lookups.{exact_bytes}
use Rattle.std.proofs.lemmas.Option.{same_Some}
use Rattle.doc_page_parts.proofs.Bools.{clash, or_first, or_second}
use Rattle.doc_page_parts.proofs.Maps.{is_sorted_keys}
use Rattle.doc_page_parts.proofs.Texts.{bytes_eq_true}
use Rattle.doc_store_readers.proofs.FilterSteps.{some_in_order}
use Rattle.doc_store_readers.proofs.KeySteps.{bytes_eq_is}
use Rattle.doc_store_readers.proofs.MapSteps.{get_filtered}
use Rattle.doc_store_readers.proofs.MapValues.{contains-map_values}
use Rattle.doc_store_readers.proofs.ViewLaw.{get-visible_aliases, get-visible_pages, goals_of_views}
use Rattle.doc_store_readers.specs.declared.reader.Reader.{Reader}
use Rattle.doc_store.specs.Laws.{NamesOfPages}
use Rattle.doc_store_readers.specs.Maps.{TextMap}
use Rattle.doc_store.specs.Names.{aliases_of, names_of}
use Rattle.doc_store_readers.specs.Pages.{Page, StampedPage}
use Rattle.doc_store_readers.specs.Sites.{Site, IsSite, goal_by, goal_in, goal_of, may_see_at, view_of}
use Rattle.doc_store.specs.Store.{StoreState, is_goal, state_of}

-- paths among others, by their bytes and by their order
pub by_bytes : (name : List ℕ) (names : List (List ℕ))
    → list_any (bytes_eq name) names ≡ list_any (eq_by_cmp (slice_cmp nat_cmp) name) names
by_bytes name [] = refl
by_bytes name (other ∷ rest) = λ i. bytes_eq_is name other i || by_bytes name rest i

-- ---- the aliases that lead to a path

module _ (aliases : TextMap (List ℕ)) (path : List ℕ) where
  abbrev leading : List (List ℕ × List ℕ)
  leading = filter (λ entry. bytes_eq entry.1 path) (map.entries aliases)

  found : (name : List ℕ) → find (slice_cmp nat_cmp) name leading ≡ option_filter (λ goal. bytes_eq goal path) (map.get aliases name)
  found name =
      sym (map.get-from_entries nat_list_cmp_total leading name)
      ∙ get_filtered nat_list_cmp_total exact_bytes (λ goal. bytes_eq goal path) (map.entries aliases) name
      (is_sorted_keys (slice_cmp nat_cmp) (map.entries aliases) (map.entries_sorted aliases))
      ∙ ap (option_filter (λ goal. bytes_eq goal path)) (map.get-from_entries nat_list_cmp_total (map.entries aliases) name
      ∙ sym (map.get-entries aliases name))

  pub alias_leads : (name : List ℕ) → list_any (bytes_eq name) (aliases_of aliases path) ≡ is_goal path (map.get aliases name)
  alias_leads name =
      by_bytes name (aliases_of aliases path) ∙ sym (is_some-find (slice_cmp nat_cmp) name leading) ∙ ap is_some (found name)
      ∙ by (map.get aliases name)
    where
      by_goal : (b : Bool) (goal : List ℕ) → is_some (cond b (Some goal) None) ≡ b
      by_goal true goal = refl
      by_goal false goal = refl

      by : (o : Option (List ℕ)) → is_some (option_filter (λ goal. bytes_eq goal path) o) ≡ is_goal path o
      by None = refl
      by (Some goal) = by_goal (bytes_eq goal path) goal

  aliases_once : IsDistinct bytes_eq (aliases_of aliases path)
  aliases_once =
      let ties : bytes_eq ≡ eq_by_cmp (slice_cmp nat_cmp) = λ i x y. bytes_eq_is x y i in
      subst (λ eq. IsDistinct eq (aliases_of aliases path)) (sym ties)
      (IsDistinct-from_sorted (slice_cmp nat_cmp) (keys_of leading)
      (some_in_order (slice_cmp nat_cmp) (λ entry. bytes_eq entry.1 path) (map.entries aliases)
      (is_sorted_keys (slice_cmp nat_cmp) (map.entries aliases) (map.entries_sorted aliases))))

none_passes : (test : List ℕ → Bool) (names : List (List ℕ)) → list_any test names ≡ false → AllByRecursion (λ y. test y ≡ false) names
none_passes test [] e = tt
none_passes test (name ∷ rest) e = (
  or_first (test name) (list_any test rest) e,
  none_passes test rest
      (or_second (test name) (list_any test rest) e),
)

-- ---- the names of a page

module _ (site : Site) (is : IsSite site) (path : List ℕ) where
  -- the path of a page is no alias
  no_alias : (name : List ℕ) → map.contains_key site.pages name ≡ true → map.get site.aliases name ≡ None
  no_alias name stands = by (map.get site.aliases name) refl
    where
      by : (o : Option (List ℕ)) → map.get site.aliases name ≡ o → o ≡ None
      by None e = refl
      by (Some goal) e = absurd (clash (map.contains_key site.pages name) stands (is.apart name goal e))

  abbrev stands : Bool
  stands = map.contains_key site.pages path

  -- a path without a page is not that of a page
  differs : (name : List ℕ) (b : Bool) → bytes_eq name path ≡ b → stands ≡ true → map.get site.pages name ≡ None → b ≡ false
  differs name true e there none =
      absurd (clash stands there (ap (map.contains_key site.pages) (sym (bytes_eq_true name path e)) ∙ ap is_some none))
  differs name false e there none = refl

  lead_there : (name : List ℕ) (page : Option Page) → stands ≡ true → map.get site.pages name ≡ page
      → (bytes_eq name path || is_goal path (map.get site.aliases name)) ≡ is_goal path (goal_by name page (map.get site.aliases name))
  lead_there name None there e = ap (λ b. b || is_goal path (map.get site.aliases name)) (differs name (bytes_eq name path) refl there e)
  lead_there name (Some page) there e =
      ap (λ o. bytes_eq name path || is_goal path o) (no_alias name (ap is_some e)) ∙ or_false (bytes_eq name path)
    where
      or_false : (b : Bool) → (b || false) ≡ b
      or_false true = refl
      or_false false = refl

  nothing_leads : (name : List ℕ) (page : Option Page) (goal : Option (List ℕ)) → stands ≡ false → map.get site.pages name ≡ page
      → map.get site.aliases name ≡ goal → false ≡ is_goal path (goal_by name page goal)
  nothing_leads name (Some page) goal none e f = by (bytes_eq name path) refl
    where
      by : (b : Bool) → bytes_eq name path ≡ b → false ≡ b
      by true same = absurd (clash stands (ap (map.contains_key site.pages) (sym (bytes_eq_true name path same)) ∙ ap is_some e) none)
      by false same = refl
  nothing_leads name None None none e f = refl
  nothing_leads name None (Some goal) none e f = by (bytes_eq goal path) refl
    where
      by : (b : Bool) → bytes_eq goal path ≡ b → false ≡ b
      by true same = absurd (clash stands (ap (map.contains_key site.pages) (sym (bytes_eq_true goal path same))
          ∙ is.lead name goal f) none)
      by false same = refl

  all_in_site : (name : List ℕ) → list_any (bytes_eq name) (names_of site path) ≡ is_goal path (goal_of site name)
  all_in_site name = by stands refl
    where
      by : (b : Bool) → stands ≡ b → list_any (bytes_eq name) (if b then path ∷ aliases_of site.aliases path else [])
          ≡ is_goal path (goal_of site name)
      by true e = ap (λ b. bytes_eq name path || b) (alias_leads site.aliases path name) ∙ lead_there name (map.get site.pages name) e refl
      by false e = nothing_leads name (map.get site.pages name) (map.get site.aliases name) e refl refl

  names_once : IsDistinct bytes_eq (names_of site path)
  unfolding IsDistinct
  names_once = by stands refl
    where
      by : (b : Bool) → stands ≡ b → IsDistinct bytes_eq (if b then path ∷ aliases_of site.aliases path else [])
      by true e =
          IsDistinct-cons bytes_eq path (aliases_of site.aliases path) (none_passes (bytes_eq path) (aliases_of site.aliases path)
          (alias_leads site.aliases path path ∙ ap (is_goal path) (no_alias path e))) (aliases_once site.aliases path)
      by false e = tt

  module _ (reader : Option Reader) (sees : may_see_at reader (map.get site.pages path) ≡ true) where
    -- where a page is seen, what leads to it leads there in the view
    led : (name : List ℕ) (page : Option Page) (goal : Option (List ℕ)) → map.get site.pages name ≡ page → map.get site.aliases name ≡ goal
        → is_goal path (goal_by name page goal) ≡ is_goal path (goal_by name (cond (may_see_at reader page) page None)
        (cond (may_see_at reader (option_and_then (map.get site.pages) goal)) goal None))
    led name None None e f = by (may_see_at reader None)
      where
        by : (b : Bool) → false ≡ is_goal path (goal_by name (cond b None None) (cond b None None))
        by true = refl
        by false = refl
    led name None (Some goal) e f = by_goal (may_see_at reader (map.get site.pages goal)) (bytes_eq goal path) refl refl
      where
        by_goal : (can same : Bool) → may_see_at reader (map.get site.pages goal) ≡ can → bytes_eq goal path ≡ same
            → same ≡ is_goal path (cond can (Some goal) None)
        by_goal true same c s = sym s
        by_goal false true c s = absurd (clash (may_see_at reader (map.get site.pages path)) sees
            (ap (λ p. may_see_at reader (map.get site.pages p)) (sym (bytes_eq_true goal path s)) ∙ c))
        by_goal false false c s = refl
    led name (Some page) goal e f = by (may_see_at reader (Some page)) (bytes_eq name path) refl refl
      where
        hidden : (b : Bool) → is_goal path (cond b goal None) ≡ false
        hidden true = ap (is_goal path) (sym f ∙ no_alias name (ap is_some e))
        hidden false = refl

        by : (can same : Bool) → may_see_at reader (Some page) ≡ can → bytes_eq name path ≡ same
            → same ≡ is_goal path (goal_by name (cond can (Some page) None)
            (cond (may_see_at reader (option_and_then (map.get site.pages) goal)) goal None))
        by true same c s = sym s
        by false true c s = absurd (clash (may_see_at reader (map.get site.pages path)) sees
            (ap (λ p. may_see_at reader (map.get site.pages p)) (sym (bytes_eq_true name path s)) ∙ ap (may_see_at reader) e ∙ c))
        by false false c s = sym (hidden (may_see_at reader (option_and_then (map.get site.pages) goal)))

    all_in_view : (name : List ℕ) → list_any (bytes_eq name) (names_of site path) ≡ is_goal path (goal_in (view_of site reader) name)
    all_in_view name =
        all_in_site name ∙ led name (map.get site.pages name) (map.get site.aliases name) refl refl
        ∙ ap (is_goal path) (λ i. goal_by name (sym (get-visible_pages site reader name) i) (sym (get-visible_aliases site reader name) i))
        ∙ ap (is_goal path) (sym (goals_of_views site reader name))

pub names_lead : NamesOfPages
names_lead site path is = record {
  in_site = record { all = all_in_site site is path; once = names_once site is path };
  in_view = λ reader sees. record { all = all_in_view site is path reader sees; once = names_once site is path };
}

-- ---- the names as they are found

-- an answer that is the same list said otherwise
pub found_instead : {X E : Type 0} (result : Result X E) (shown : X → List (List ℕ)) (names others : List (List ℕ)) → names ≡ others
    → IfOk result (λ x. shown x ≡ names) → IfOk result (λ x. shown x ≡ others)
found_instead (Ok x) shown names others same is = is ∙ same
found_instead (Err e) shown names others same is = is

module _ (pages : TextMap StampedPage) (aliases : TextMap (List ℕ)) (puts : ℕ) (old : StoreState) (path : List ℕ)
    (view_is : state_of pages aliases puts ≡ old) where
  names_by : (b : Bool) → map.contains_key pages path ≡ b
      → (if b then path ∷ aliases_of aliases path else []) ≡ names_of old.site path
  names_by b e =
      ap (λ t. if t then path ∷ aliases_of aliases path else []) (sym (contains-map_values (λ p. p.page) pages path ∙ e))
      ∙ ap (λ s. names_of s.site path) view_is

  pub names_of_none : None ≡ map.get pages path → [] ≡ names_of old.site path
  names_of_none none = names_by false (ap is_some (sym none))

  pub names_of_page : (name : List ℕ) (page : StampedPage) → Some name ≡ option_map (λ _. path) (map.get pages path)
      → Some page ≡ map.get pages path → name ∷ aliases_of aliases name ≡ names_of old.site path
  names_of_page name page is there =
      ap (λ p. p ∷ aliases_of aliases p) (same_Some name path (is ∙ ap (option_map (λ _. path)) (sym there)))
      ∙ names_by true (ap is_some (sym there))
