-- Stores stay stores: an edit keeps what every store is.
use Rattle.std.proofs.Common.{◌≡◌, ◌⊎◌, ⊎_elim, ℕ, ◌+◌, ◌<◌, List, Bool, true, false, cond, not, bytes_eq, is_some, inl, inr, refl, ap, sym}
use Rattle.std.proofs.Common.{◌∙◌, arith}
use Rattle.std.specs.Prelude.{Option, Some, None, option_map}
use Rattle.std.specs.FinMap as map
use Rattle.std.specs.Cmp.Lexicographic.{slice_cmp}
use Rattle.std.specs.Ordering.{nat_cmp}
use Rattle.std.proofs.lemmas.Cmp.{nat_list_cmp_total}
use Rattle.std.proofs.lemmas.Option.{none-some, same_Some}
use Rattle.doc_store_readers.proofs.KeySteps.{same_key, same_from, same_itself, bytes_eq_is, get_set, get_taken, stood}
use Rattle.doc_store_readers.proofs.KeySteps.{set_or_stood, contains_set, contains_taken}
use Rattle.doc_store_readers.proofs.MapValues.{get-map_values}
use Rattle.doc_store_readers.specs.Maps.{TextMap, map_values}
use Rattle.doc_store_readers.specs.Pages.{Page}
use Rattle.doc_store_readers.specs.Sites.{Site, IsSite}
use Rattle.doc_store.specs.Store.{StoreState, IsStore, empty_store, is_goal, without_goal, goal_after, aliases_after, with_page, with_move}
use Rattle.doc_store.specs.Store.{with_key_at}
use Rattle.doc_page_parts.proofs.Bools.{clash}
use Rattle.doc_page_parts.proofs.Options.{is_some_true}

-- ---- stamps

-- each stamp is below a number, and no two paths have the same
pub record AreStamps (stamps : TextMap ℕ) (puts : ℕ) : Type 0 where
  pub below : (path : List ℕ) (stamp : ℕ) → map.get stamps path ≡ Some stamp → stamp < puts
  pub different : (path other : List ℕ) (stamp : ℕ) → map.get stamps path ≡ Some stamp → map.get stamps other ≡ Some stamp → path ≡ other

less_more : (a n : ℕ) → a < n → a < n + 1
less_more a n h = omega (arith, h)

same_less_more : (a n : ℕ) → n ≡ a → a < n + 1
same_less_more a n h = omega (arith, h)

not_below_itself : (a n : ℕ) → n ≡ a → a < n → ⊥
not_below_itself a n e h = omega (arith, e, h)

pub stamps_set : (stamps : TextMap ℕ) (puts : ℕ) (k : List ℕ) → AreStamps stamps puts → AreStamps (map.insert stamps k puts) (puts + 1)
stamps_set stamps puts k are = record {
  below = λ path stamp e. ⊎_elim (λ new. same_less_more stamp puts new.1) (λ old. less_more stamp puts (are.below path stamp old.1))
      (set_or_stood stamps k puts path stamp e);
  different = λ path other stamp e f.
      ⊎_elim
      (λ new. ⊎_elim
      (λ more. same_from path k new.0 ∙ sym (same_from other k more.0))
      (λ old. absurd (not_below_itself stamp puts new.1 (are.below other stamp old.1)))
      (set_or_stood stamps k puts other stamp f))
      (λ old. ⊎_elim
      (λ more. absurd (not_below_itself stamp puts more.1 (are.below path stamp old.1)))
      (λ more. are.different path other stamp old.1 more.1)
      (set_or_stood stamps k puts other stamp f))
      (set_or_stood stamps k puts path stamp e);
}

pub stamps_taken : (stamps : TextMap ℕ) (puts : ℕ) (k : List ℕ) → AreStamps stamps puts → AreStamps (map.remove stamps k) puts
stamps_taken stamps puts k are = record {
  below = λ path stamp e. are.below path stamp (stood stamps k path stamp e).1;
  different = λ path other stamp e f. are.different path other stamp (stood stamps k path stamp e).1 (stood stamps k other stamp f).1;
}

stamps_of : (store : StoreState) → IsStore store → AreStamps store.stamps store.puts
stamps_of store is = record { below = is.below; different = is.different }

-- ---- a page is set

contains_more : (X : Type 0) (m : TextMap X) (k : List ℕ) (v : X) (q : List ℕ) → map.contains_key m q ≡ true
    → map.contains_key (map.insert m k v) q ≡ true
contains_more X m k v q e = contains_set m k v q ∙ ap (cond (same_key q k) true) e ∙ either (same_key q k)
  where
    either : (b : Bool) → cond b true true ≡ true
    either true = refl
    either false = refl

not_more : (X : Type 0) (m : TextMap X) (k : List ℕ) (v : X) (q : List ℕ) → same_key q k ≡ false → map.contains_key m q ≡ false
    → map.contains_key (map.insert m k v) q ≡ false
not_more X m k v q e f = contains_set m k v q ∙ ap (λ b. cond b true (map.contains_key m q)) e ∙ f

pub put_stays : (store : StoreState) (path : List ℕ) (page : Page) → IsStore store → IsStore (with_page store path page)
put_stays store path page is =
    let stamps = stamps_set store.stamps store.puts path (stamps_of store is) in
    record {
      site = record {
        apart = λ alias goal e. let old = stood store.site.aliases path alias goal e in not_more Page store.site.pages path page alias
            old.0 (is.site.apart alias goal old.1);
        lead = λ alias goal e. let old = stood store.site.aliases path alias goal e in contains_more Page store.site.pages path page goal
            (is.site.lead alias goal old.1);
      };
      stamped = λ q. contains_set store.stamps path store.puts q ∙ ap (cond (same_key q path) true) (is.stamped q)
          ∙ sym (contains_set store.site.pages path page q);
      below = stamps.below;
      different = stamps.different;
    }

-- ---- a page is removed

pub get-without_goal : (aliases : TextMap (List ℕ)) (path q : List ℕ)
    → map.get (without_goal aliases path) q ≡ cond (not (is_goal path (map.get aliases q))) (map.get aliases q) None
unfolding without_goal
get-without_goal aliases path q =
    map.get-retain_keys aliases (λ alias. not (is_goal path (map.get aliases alias))) q
    (λ x tied. ap (λ goal. not (is_goal path goal)) (map.get_tied nat_list_cmp_total aliases q x tied))

-- an alias that is left leads elsewhere
left : (aliases : TextMap (List ℕ)) (path alias goal : List ℕ) → map.get (without_goal aliases path) alias ≡ Some goal
    → (map.get aliases alias ≡ Some goal) × (same_key goal path ≡ false)
left aliases path alias goal e = by (map.get aliases alias) (sym (get-without_goal aliases path alias) ∙ e)
  where
    by_goal : (b : Bool) (old : List ℕ) → bytes_eq old path ≡ b → cond (not b) (Some old) None ≡ Some goal
        → ◌≡◌ {A = Option (List ℕ)} (Some old) (Some goal) × (same_key goal path ≡ false)
    by_goal true old is e = absurd (none-some goal e)
    by_goal false old is e = (e, ap (λ g. same_key g path) (sym (same_Some old goal e)) ∙ sym (bytes_eq_is old path) ∙ is)

    by : (old : Option (List ℕ)) → cond (not (is_goal path old)) old None ≡ Some goal → (old ≡ Some goal) × (same_key goal path ≡ false)
    by None e = absurd (none-some goal e)
    by (Some old) e = by_goal (bytes_eq old path) old refl e

still_there : (X : Type 0) (m : TextMap X) (k q : List ℕ) → same_key q k ≡ false → map.contains_key m q ≡ true
    → map.contains_key (map.remove m k) q ≡ true
still_there X m k q e f = contains_taken m k q ∙ ap (λ b. cond b false (map.contains_key m q)) e ∙ f

pub neither : (b : Bool) → cond b false false ≡ false
neither true = refl
neither false = refl

still_not : (X : Type 0) (m : TextMap X) (k q : List ℕ) → map.contains_key m q ≡ false → map.contains_key (map.remove m k) q ≡ false
still_not X m k q f = contains_taken m k q ∙ ap (cond (same_key q k) false) f ∙ neither (same_key q k)

abbrev pub taken_out : StoreState → List ℕ → StoreState
taken_out store path = record {
  site = record { pages = map.remove store.site.pages path; aliases = without_goal store.site.aliases path };
  stamps = map.remove store.stamps path;
  puts = store.puts;
}

pub remove_stays : (store : StoreState) (path : List ℕ) → IsStore store → IsStore (taken_out store path)
remove_stays store path is =
    let stamps = stamps_taken store.stamps store.puts path (stamps_of store is) in
    record {
      site = record {
        apart = λ alias goal e. still_not Page store.site.pages path alias
            (is.site.apart alias goal (left store.site.aliases path alias goal e).0);
        lead = λ alias goal e. let old = left store.site.aliases path alias goal e in still_there Page store.site.pages path goal old.1
            (is.site.lead alias goal old.0);
      };
      stamped = λ q. contains_taken store.stamps path q ∙ ap (cond (same_key q path) false) (is.stamped q)
          ∙ sym (contains_taken store.site.pages path q);
      below = stamps.below;
      different = stamps.different;
    }

-- ---- a page is moved

pub get-aliases_after : (aliases : TextMap (List ℕ)) (from to q : List ℕ)
    → map.get (aliases_after aliases from to) q ≡ cond (same_key q from) (Some to)
    (option_map (goal_after from to) (cond (same_key q to) None (map.get aliases q)))
unfolding aliases_after
get-aliases_after aliases from to q =
    get_set (map_values (goal_after from to) (map.remove aliases to)) from to q
    ∙ ap (cond (same_key q from) (Some to)) (get-map_values (goal_after from to) (map.remove aliases to) q
    ∙ ap (option_map (goal_after from to)) (get_taken aliases to q))

-- an alias after a move is the old path, or one from before
alias_after : (aliases : TextMap (List ℕ)) (from to alias goal : List ℕ) → map.get (aliases_after aliases from to) alias ≡ Some goal
    → ((same_key alias from ≡ true) × (to ≡ goal)) ⊎ ((old : List ℕ) × (same_key alias to ≡ false) × (map.get aliases alias ≡ Some old)
    × (goal_after from to old ≡ goal))
alias_after aliases from to alias goal e = by (same_key alias from) (sym (get-aliases_after aliases from to alias) ∙ e)
  where
    Old : Type 0
    Old = (old : List ℕ) × (same_key alias to ≡ false) × (map.get aliases alias ≡ Some old) × (goal_after from to old ≡ goal)

    by_old : (o : Option (List ℕ)) → map.get aliases alias ≡ o → same_key alias to ≡ false → option_map (goal_after from to) o ≡ Some goal
        → Old
    by_old None is apart e = absurd (none-some goal e)
    by_old (Some old) is apart e = (old, apart, is, same_Some _ goal e)

    by_to : (b : Bool) → same_key alias to ≡ b → option_map (goal_after from to) (cond b None (map.get aliases alias)) ≡ Some goal → Old
    by_to true is e = absurd (none-some goal e)
    by_to false is e = by_old (map.get aliases alias) refl is e

    by : (b : Bool) → cond b (Some to) (option_map (goal_after from to) (cond (same_key alias to) None (map.get aliases alias))) ≡ Some goal
        → ((b ≡ true) × (to ≡ goal)) ⊎ Old
    by true e = inl (refl, same_Some to goal e)
    by false e = inr (by_to (same_key alias to) refl e)

-- the pages and the stamps under other paths
module _ (X : Type 0) (m : TextMap X) (from to : List ℕ) (v : X) where
  abbrev pub renamed : TextMap X
  renamed = map.insert (map.remove m from) to v

  contains_renamed : (q : List ℕ) → map.contains_key renamed q ≡ cond (same_key q to) true
      (cond (same_key q from) false (map.contains_key m q))
  contains_renamed q = contains_set (map.remove m from) to v q ∙ ap (cond (same_key q to) true) (contains_taken m from q)

module _ (site : Site) (from to : List ℕ) (page : Page) (is : IsSite site) (stands : map.contains_key site.pages from ≡ true)
    (free : map.contains_key site.pages to ≡ false) where
  apart_paths : same_key from to ≡ false
  apart_paths = by (same_key from to) refl
    where
      by : (b : Bool) → same_key from to ≡ b → b ≡ false
      by true e = absurd (clash (map.contains_key site.pages from) stands (ap (map.contains_key site.pages) (same_from from to e) ∙ free))
      by false e = refl

  abbrev moved_site : Site
  moved_site = record { pages = renamed Page site.pages from to page; aliases = aliases_after site.aliases from to }

  old_path_is_free : (alias : List ℕ) → same_key alias from ≡ true → map.contains_key moved_site.pages alias ≡ false
  old_path_is_free alias e =
      contains_renamed Page site.pages from to page alias
      ∙ ap (λ b. cond b true (cond (same_key alias from) false (map.contains_key site.pages alias)))
      (ap (λ q. same_key q to) (same_from alias from e) ∙ apart_paths)
      ∙ ap (λ b. cond b false (map.contains_key site.pages alias)) e

  alias_is_free : (alias old : List ℕ) → same_key alias to ≡ false → map.get site.aliases alias ≡ Some old
      → map.contains_key moved_site.pages alias ≡ false
  alias_is_free alias old other e = not_more Page (map.remove site.pages from) to page alias other
      (still_not Page site.pages from alias (is.apart alias old e))

  new_path_stands : (goal : List ℕ) → to ≡ goal → map.contains_key moved_site.pages goal ≡ true
  new_path_stands goal e =
      ap (map.contains_key moved_site.pages) (sym e) ∙ contains_set (map.remove site.pages from) to page to
      ∙ ap (λ b. cond b true (map.contains_key (map.remove site.pages from) to)) (same_itself to)

  goal_stands_by : (b : Bool) (old goal : List ℕ) → bytes_eq old from ≡ b → cond b to old ≡ goal → map.contains_key site.pages old ≡ true
      → map.contains_key moved_site.pages goal ≡ true
  goal_stands_by true old goal is e there = new_path_stands goal e
  goal_stands_by false old goal is e there =
      ap (map.contains_key moved_site.pages) (sym e)
      ∙ contains_more Page (map.remove site.pages from) to page old
      (still_there Page site.pages from old (sym (bytes_eq_is old from) ∙ is) there)

  pub site_moved : IsSite moved_site
  site_moved = record {
    apart = λ alias goal e.
        ⊎_elim (λ new. old_path_is_free alias new.0) (λ old. alias_is_free alias old.0 old.1 old.2)
        (alias_after site.aliases from to alias goal e);
    lead = λ alias goal e.
        ⊎_elim (λ new. new_path_stands goal new.1) (λ old. goal_stands_by (bytes_eq old.0 from) old.0 goal refl old.3
        (is.lead alias old.0 old.2)) (alias_after site.aliases from to alias goal e);
  }

pub move_stays : (store : StoreState) (from to : List ℕ) → IsStore store → map.contains_key store.site.pages from ≡ true
    → map.contains_key store.site.pages to ≡ false → IsStore (with_move store from to)
move_stays store from to is stands free =
    let found = is_some_true (map.get store.site.pages from) stands in
    let page = found.0 in
    let stamps = stamps_set (map.remove store.stamps from) store.puts to (stamps_taken store.stamps store.puts from (stamps_of store is)) in
    let pages : with_key_at store.site.pages from to (map.get store.site.pages from)
    ≡ renamed Page store.site.pages from to page = ap (with_key_at store.site.pages from to) found.1 in
    record {
      site = rw pages (site_moved store.site from to page is.site stands free);
      stamped = λ q.
          contains_renamed ℕ store.stamps from to store.puts q
          ∙ ap (λ b. cond (same_key q to) true (cond (same_key q from) false b)) (is.stamped q)
          ∙ sym (ap (λ m. map.contains_key m q) pages ∙ contains_renamed Page store.site.pages from to page q);
      below = stamps.below;
      different = stamps.different;
    }

-- ---- a new store

pub empty_is_store : IsStore empty_store
empty_is_store =
    let no_alias : (alias goal : List ℕ) → map.get (map.empty {X = List ℕ} {R = slice_cmp nat_cmp}) alias ≡ Some goal
    → ⊥ = λ alias goal e. none-some goal (sym (map.get-empty (slice_cmp nat_cmp) alias) ∙ e) in
    let no_stamp : (path : List ℕ) (stamp : ℕ) → map.get (map.empty {X = ℕ} {R = slice_cmp nat_cmp}) path ≡ Some stamp
    → ⊥ = λ path stamp e. none-some stamp (sym (map.get-empty (slice_cmp nat_cmp) path) ∙ e) in
    record {
      site = record { apart = λ alias goal e. absurd (no_alias alias goal e); lead = λ alias goal e. absurd (no_alias alias goal e) };
      stamped = λ path. ap is_some (map.get-empty (slice_cmp nat_cmp) path)
          ∙ sym (ap is_some (map.get-empty {X = Page} (slice_cmp nat_cmp) path));
      below = λ path stamp e. absurd (no_stamp path stamp e);
      different = λ path other stamp e f. absurd (no_stamp path stamp e);
    }
