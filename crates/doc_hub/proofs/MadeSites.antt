-- A site with an alias, and the site from which a move of that alias's page makes it.
use Rattle.std.proofs.Common.{◌≡◌, ◌≤◌, ◌+◌, ◌-◌, ℕ, suc, zero, List, [], ◌∷◌, Bool, true, false, cond, bytes_eq, is_some, length, refl, ap}
use Rattle.std.proofs.Common.{sym, ◌∙◌, subst, arith}
use Rattle.std.specs.Prelude.{Option, Some, None, option_map, if◌then◌else◌}
use Rattle.std.specs.FinMap as map
use Rattle.std.specs.Cmp.Lexicographic.{slice_cmp}
use Rattle.std.specs.Ordering.{nat_cmp}
use Rattle.std.proofs.lemmas.Cmp.{nat_list_cmp_total}
use Rattle.std.proofs.lemmas.Map.Lookups.{exact_bytes}
use Rattle.doc_store_readers.specs.Maps.{TextMap, map_values}
use Rattle.doc_store_readers.specs.Pages.{Page}
use Rattle.doc_store_readers.specs.Sites.{Site, IsSite}
use Rattle.doc_store.specs.Store.{aliases_after, goal_after, text_limit, with_key, with_key_at}
use Rattle.doc_store_readers.proofs.KeySteps.{same_key, same_from, same_itself, bytes_eq_is, not_none, some_is, get_set, get_taken}
use Rattle.doc_store_readers.proofs.KeySteps.{contains_taken}
use Rattle.doc_store_readers.proofs.MapValues.{get-map_values, len-map_values}
use Rattle.doc_store.proofs.StoreSteps.{get-aliases_after}
use Rattle.doc_page_parts.proofs.Bools.{clash}

pub absent : {X : Type 0} (o : Option X) → is_some o ≡ false → o ≡ None
absent None e = refl
absent (Some x) e = cc

pub standing : {X : Type 0} (o : Option X) → is_some o ≡ true → (x : X) × (o ≡ Some x)
standing None e = cc
standing (Some x) e = (x, refl)

-- ---- how many entries a map has

one_back : (n a : ℕ) → a ≡ suc n - 1 → suc n ≡ a + 1
one_back n a e = omega (arith, e)

pub len_taken : {X : Type 0} (m : TextMap X) (k : List ℕ) → map.contains_key m k ≡ true → map.len m ≡ map.len (map.remove m k) + 1
len_taken {X = X} m k stands = by (map.len m) refl
  where
    less : (n : ℕ) → map.len m ≡ n → map.len (map.remove m k) ≡ n - 1
    less n e = map.len-remove nat_list_cmp_total m k ∙ ap (λ b. cond b (map.len m - 1) (map.len m)) stands ∙ ap (λ a. a - 1) e

    none_there : (o : Option X) → o ≡ None → is_some o ≡ false
    none_there None e = refl
    none_there (Some x) e = absurd (not_none x (sym e))

    by : (n : ℕ) → map.len m ≡ n → n ≡ map.len (map.remove m k) + 1
    by zero e = absurd (clash (map.contains_key m k) stands
        (none_there (map.get m k) (ap (λ a. map.get a k) (map.empty_of_len m e) ∙ map.get-empty (slice_cmp nat_cmp) k)))
    by (suc n) e = one_back n (map.len (map.remove m k)) (less (suc n) e)

pub len_added : {X : Type 0} (m : TextMap X) (k : List ℕ) (v : X) → map.contains_key m k ≡ false
    → map.len (map.insert m k v) ≡ map.len m + 1
len_added m k v none = map.len-insert nat_list_cmp_total m k v ∙ ap (λ b. cond b (map.len m) (map.len m + 1)) none

-- ---- some entry of a map that has one

first_in : {X : Type 0} (entries : List (List ℕ × X)) → ¬ (entries ≡ [])
    → (k : List ℕ) × (v : X) × (map.find (slice_cmp nat_cmp) k entries ≡ Some v)
first_in [] some = absurd (some refl)
first_in (e ∷ es) some = (e.0, e.1, ap (λ b. cond b (Some e.1) (map.find (slice_cmp nat_cmp) e.0 es)) (same_itself e.0))

pub some_entry : {X : Type 0} (m : TextMap X) (n : ℕ) → map.len m ≡ suc n → (k : List ℕ) × (v : X) × (map.get m k ≡ Some v)
some_entry {X = X} m n e =
    let (k, v, found) = first_in (map.entries m) (λ none. no_length (sym e ∙ map.len-entries m ∙ ap length none)) in
    (k, v, map.get-entries m k ∙ found)
  where
    no_length : suc n ≡ 0 → ⊥
    no_length h = omega (arith, h)

-- ---- before a move

module _ (site : Site) (is : IsSite site) (from to : List ℕ) (page : Page) (is_alias : map.get site.aliases from ≡ Some to)
    (stands : map.get site.pages to ≡ Some page) where
  -- the page stands under the alias, to which its other aliases lead
  abbrev pub before : Site
  before = record {
    pages = map.insert (map.remove site.pages to) from page;
    aliases = map_values (goal_after to from) (map.remove site.aliases from);
  }

  no_page_there : map.get site.pages from ≡ None
  no_page_there = absent (map.get site.pages from) (is.apart from to is_alias)

  no_alias_there : map.get site.aliases to ≡ None
  no_alias_there = by (map.get site.aliases to) refl
    where
      by : (o : Option (List ℕ)) → map.get site.aliases to ≡ o → o ≡ None
      by None e = refl
      by (Some goal) e = absurd (clash (map.contains_key site.pages to) (ap is_some stands) (is.apart to goal e))

  never_same : from ≡ to → ⊥
  never_same e = not_none page (sym no_page_there ∙ ap (map.get site.pages) e ∙ stands)

  apart_keys : same_key from to ≡ false
  apart_keys = by (same_key from to) refl
    where
      by : (b : Bool) → same_key from to ≡ b → b ≡ false
      by true e = absurd (never_same (same_from from to e))
      by false e = refl

  apart_back : same_key to from ≡ false
  apart_back = by (same_key to from) refl
    where
      by : (b : Bool) → same_key to from ≡ b → b ≡ false
      by true e = absurd (never_same (sym (same_from to from e)))
      by false e = refl

  get_page : (q : List ℕ) → map.get before.pages q ≡ cond (same_key q from) (Some page) (cond (same_key q to) None (map.get site.pages q))
  get_page q = get_set (map.remove site.pages to) from page q ∙ ap (cond (same_key q from) (Some page)) (get_taken site.pages to q)

  get_alias : (q : List ℕ) → map.get before.aliases q
      ≡ option_map (goal_after to from) (cond (same_key q from) None (map.get site.aliases q))
  get_alias q = get-map_values (goal_after to from) (map.remove site.aliases from) q
      ∙ ap (option_map (goal_after to from)) (get_taken site.aliases from q)

  pub page_there : map.get before.pages from ≡ Some page
  page_there = get_page from ∙ ap (λ b. cond b (Some page) (cond (same_key from to) None (map.get site.pages from))) (same_itself from)

  pub free_there : map.get before.pages to ≡ None
  free_there =
      get_page to ∙ ap (λ b. cond b (Some page) (cond (same_key to to) None (map.get site.pages to))) apart_back
      ∙ ap (λ b. cond b None (map.get site.pages to)) (same_itself to)

  -- the move makes the site again
  pub pages_again : with_key before.pages from to ≡ site.pages
  pages_again =
      ap (with_key_at before.pages from to) page_there
      ∙ map.same_map nat_list_cmp_total exact_bytes _ _ (λ q.
      get_set (map.remove before.pages from) to page q
      ∙ ap (cond (same_key q to) (Some page)) (get_taken before.pages from q ∙ ap (cond (same_key q from) None) (get_page q))
      ∙ by q (same_key q to) (same_key q from) refl refl)
    where
      by : (q : List ℕ) (t f : Bool) → same_key q to ≡ t → same_key q from ≡ f
          → cond t (Some page) (cond f None (cond f (Some page) (cond t None (map.get site.pages q)))) ≡ map.get site.pages q
      by q true f e g = sym (ap (map.get site.pages) (same_from q to e) ∙ stands)
      by q false true e g = sym (ap (map.get site.pages) (same_from q from g) ∙ no_page_there)
      by q false false e g = refl

  goal_again : (goal : List ℕ) → map.contains_key site.pages goal ≡ true → goal_after from to (goal_after to from goal) ≡ goal
  goal_again goal there = by (bytes_eq goal to) refl
    where
      elsewhere : (b : Bool) → bytes_eq goal from ≡ b → (if b then to else goal) ≡ goal
      elsewhere true e = absurd (clash (map.contains_key site.pages goal) there
          (ap (map.contains_key site.pages) (same_from goal from (sym (bytes_eq_is goal from) ∙ e)) ∙ is.apart from to is_alias))
      elsewhere false e = refl

      by : (b : Bool) → bytes_eq goal to ≡ b → goal_after from to (if b then from else goal) ≡ goal
      by true e = ap (λ b. if b then to else from) (bytes_eq_is from from ∙ same_itself from)
          ∙ sym (same_from goal to (sym (bytes_eq_is goal to) ∙ e))
      by false e = elsewhere (bytes_eq goal from) refl

  pub aliases_again : aliases_after before.aliases from to ≡ site.aliases
  aliases_again = map.same_map nat_list_cmp_total exact_bytes _ _ (λ q.
      get-aliases_after before.aliases from to q
      ∙ ap (λ o. cond (same_key q from) (Some to) (option_map (goal_after from to) (cond (same_key q to) None o))) (get_alias q)
      ∙ by q (same_key q from) (same_key q to) refl refl)
    where
      back : (q : List ℕ) (o : Option (List ℕ)) → map.get site.aliases q ≡ o
          → option_map (goal_after from to) (option_map (goal_after to from) o) ≡ o
      back q None e = refl
      back q (Some goal) e = ap Some (goal_again goal (is.lead q goal e))

      by : (q : List ℕ) (f t : Bool) → same_key q from ≡ f → same_key q to ≡ t
          → cond f (Some to) (option_map (goal_after from to)
          (cond t None (option_map (goal_after to from) (cond f None (map.get site.aliases q))))) ≡ map.get site.aliases q
      by q true t e g = sym (ap (map.get site.aliases) (same_from q from e) ∙ is_alias)
      by q false true e g = sym (ap (map.get site.aliases) (same_from q to g) ∙ no_alias_there)
      by q false false e g = back q (map.get site.aliases q) refl

  -- an alias before the move is one after it
  old_alias : (alias goal : List ℕ) → map.get before.aliases alias ≡ Some goal
      → (old : List ℕ) × (same_key alias from ≡ false) × (map.get site.aliases alias ≡ Some old) × (goal_after to from old ≡ goal)
  old_alias alias goal e = by (same_key alias from) refl (map.get site.aliases alias) refl (sym (get_alias alias) ∙ e)
    where
      by : (f : Bool) → same_key alias from ≡ f → (o : Option (List ℕ)) → map.get site.aliases alias ≡ o
          → option_map (goal_after to from) (cond f None o) ≡ Some goal
          → (old : List ℕ) × (same_key alias from ≡ false) × (map.get site.aliases alias ≡ Some old) × (goal_after to from old ≡ goal)
      by true f o found e = absurd (not_none goal e)
      by false f None found e = absurd (not_none goal e)
      by false f (Some old) found e = (old, f, found, some_is (goal_after to from old) goal e)

  free_alias : (alias old : List ℕ) → same_key alias from ≡ false → map.get site.aliases alias ≡ Some old
      → map.contains_key before.pages alias ≡ false
  free_alias alias old other found =
      ap is_some (get_page alias ∙ ap (λ b. cond b (Some page) (cond (same_key alias to) None (map.get site.pages alias))) other
      ∙ ap (cond (same_key alias to) None) (absent (map.get site.pages alias) (is.apart alias old found)))
      ∙ nothing (same_key alias to)
    where
      nothing : (b : Bool) → is_some (cond {A = Option Page} b None None) ≡ false
      nothing true = refl
      nothing false = refl

  old_goal : (old goal : List ℕ) → map.contains_key site.pages old ≡ true → goal_after to from old ≡ goal
      → map.contains_key before.pages goal ≡ true
  old_goal old goal there e = by (bytes_eq old to) refl e
    where
      found : (f : Bool) → is_some (cond f (Some page) (map.get site.pages old)) ≡ true
      found true = refl
      found false = there

      by : (b : Bool) → bytes_eq old to ≡ b → (if b then from else old) ≡ goal → map.contains_key before.pages goal ≡ true
      by true f e = ap (map.contains_key before.pages) (sym e) ∙ ap is_some page_there
      by false f e =
          ap (map.contains_key before.pages) (sym e)
          ∙ ap is_some (get_page old ∙ ap (λ b. cond (same_key old from) (Some page) (cond b None (map.get site.pages old)))
          (sym (bytes_eq_is old to) ∙ f))
          ∙ found (same_key old from)

  pub site_before : IsSite before
  site_before = record {
    apart = λ alias goal e. let (old, other, found, is_goal) = old_alias alias goal e in free_alias alias old other found;
    lead = λ alias goal e. let (old, other, found, is_goal) = old_alias alias goal e in old_goal old goal (is.lead alias old found) is_goal;
  }

  pub pages_before : map.len before.pages ≡ map.len site.pages
  pages_before =
      len_added (map.remove site.pages to) from page (contains_taken site.pages to from
      ∙ ap (λ b. cond b false (map.contains_key site.pages from)) apart_keys ∙ is.apart from to is_alias)
      ∙ sym (len_taken site.pages to (ap is_some stands))

  pub aliases_before : map.len site.aliases ≡ map.len before.aliases + 1
  aliases_before = len_taken site.aliases from (ap is_some is_alias)
      ∙ ap (λ n. n + 1) (sym (len-map_values (goal_after to from) (map.remove site.aliases from)))

  pub texts_before : ((path : List ℕ) (p : Page) → map.get site.pages path ≡ Some p → length p.text ≤ text_limit)
      → (path : List ℕ) (p : Page) → map.get before.pages path ≡ Some p → length p.text ≤ text_limit
  texts_before short path p e = by (same_key path from) (same_key path to) (sym (get_page path) ∙ e)
    where
      by : (f t : Bool) → cond f (Some page) (cond t None (map.get site.pages path)) ≡ Some p → length p.text ≤ text_limit
      by true t e = subst (λ (x : Page). length x.text ≤ text_limit) (some_is page p e) (short to page stands)
      by false true e = absurd (not_none p e)
      by false false e = short path p e
