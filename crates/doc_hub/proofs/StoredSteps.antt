-- What the store of a hub holds, whatever is done to it: a site within the limits.
use Rattle.std.proofs.Common.{◌≡◌, ◌≤◌, ◌+◌, ℕ, suc, zero, List, Bool, true, false, cond, is_some, length, refl, ap, sym, ◌∙◌, subst}
use Rattle.std.proofs.Common.{arith}
use Rattle.std.specs.Prelude.{not, ◌&&◌, ◌||◌, nat_le, nat_lt, Option, Some, None, option_and_then, Result, Ok, Err, if◌then◌else◌}
use Rattle.std.specs.FinMap as map
use Rattle.std.specs.Cmp.Lexicographic.{slice_cmp}
use Rattle.std.specs.Ordering.{nat_cmp}
use Rattle.std.proofs.lemmas.Bool.Decides.{nat_tests}
use Rattle.std.proofs.lemmas.Cmp.{nat_list_cmp_total}
use Rattle.doc_store_readers.specs.Maps.{TextMap}
use Rattle.doc_store_readers.specs.Pages.{Page}
use Rattle.doc_store_readers.specs.Sites.{Site, may_see_at, page_of_alias, visible_to}
use Rattle.doc_store.specs.Store.{IsStore, StoreState, alias_limit, aliases_after, effect_of, fits, is_goal, move_fits, move_page}
use Rattle.doc_store.specs.Store.{page_limit, remove_page, set_page, text_limit, with_key_at, without_goal}
use Rattle.doc_store.specs.declared.moving.MoveError.{MoveError}
use Rattle.doc_store.specs.declared.moving.MoveError.TheVariants as move_errors
use Rattle.doc_store_readers.specs.declared.reader.Reader.{Reader}
use Rattle.doc_store.specs.declared.store.EditError.{EditError}
use Rattle.doc_store.specs.declared.store.EditError.TheVariants.{TooLong, StoreFull}
use Rattle.doc_store_readers.proofs.KeySteps.{same_key, not_none, some_is, get_set, get_taken, contains_taken}
use Rattle.doc_store.proofs.StampLaw.{move_needs}
use Rattle.doc_store.proofs.StoreSteps.{empty_is_store, get-without_goal, move_stays, neither, put_stays, remove_stays}
use Rattle.doc_store_readers.proofs.ViewLaw.{get-visible_aliases, get-visible_pages}
use Rattle.doc_hub.specs.MadeLaws.{IsWithin}
use Rattle.doc_hub.proofs.MadeSites.{absent, len_added, len_taken, some_entry, standing}

-- ---- maps that have no more than others

abbrev Below : {X Y : Type 0} → TextMap X → TextMap Y → Type 0
Below {X} m n = (q : List ℕ) (v : X) → map.get m q ≡ Some v → map.contains_key n q ≡ true

no_less_of : (a b : ℕ) → a ≤ b → a + 1 ≤ b + 1
no_less_of a b le = omega (arith, le)

below_len : {X Y : Type 0} (a : ℕ) (m : TextMap X) (n : TextMap Y) → map.len m ≡ a → Below m n → map.len m ≤ map.len n
below_len zero m n e below = subst (λ k. k ≤ map.len n) (sym e) (omega arith)
below_len {X = X} {Y = Y} (suc a) m n e below =
    let (k, v, found) = some_entry m a e in
    let count : map.len m ≡ map.len (map.remove m k) + 1 = len_taken m k (ap is_some found) in
    let others : map.len n ≡ map.len (map.remove n k) + 1 = len_taken n k (below k v found) in
    subst (λ x. x ≤ map.len n) (sym count) (subst (λ x. map.len (map.remove m k) + 1 ≤ x) (sym others)
    (no_less_of (map.len (map.remove m k)) (map.len (map.remove n k))
    (below_len a (map.remove m k) (map.remove n k) (one_less (map.len (map.remove m k)) a (sym count ∙ e)) (fewer k))))
  where
    one_less : (b c : ℕ) → b + 1 ≡ suc c → b ≡ c
    one_less b c h = omega (arith, h)

    fewer : (k : List ℕ) → Below (map.remove m k) (map.remove n k)
    fewer k q v there = by (same_key q k) refl (sym (get_taken m k q) ∙ there)
      where
        by : (b : Bool) → same_key q k ≡ b → cond b None (map.get m q) ≡ Some v → map.contains_key (map.remove n k) q ≡ true
        by true h there = absurd (not_none v there)
        by false h there = contains_taken n k q ∙ ap (λ b. cond b false (map.contains_key n q)) h ∙ below q v there

-- ---- what a put needs

err_ok : {X E : Type 0} (e : E) (x : X) → ◌≡◌ {A = Result X E} (Err e) (Ok x) → ⊥
err_ok e x is = cc

fits_needs : (long stands full out : Bool)
    → ◌≡◌ {A = Result (Unit {0}) EditError} (if long then Err TooLong else (if (not stands && full) || out then Err StoreFull else Ok tt))
    (Ok tt)
    → (long ≡ false) × (stands ≡ false → full ≡ false)
fits_needs true stands full out is = absurd (err_ok TooLong tt is)
fits_needs false true full out is = (refl, λ e. cc)
fits_needs false false true out is = absurd (err_ok StoreFull tt is)
fits_needs false false false out is = (refl, λ e. refl)

move_needs_room : (stands taken many out : Bool)
    → ◌≡◌ {A = Result (Unit {0}) MoveError} (if not stands then Err move_errors.NoPage
    else (if taken then Err move_errors.Taken else (if many || out then Err move_errors.StoreFull else Ok tt)))
    (Ok tt)
    → many ≡ false
move_needs_room false taken many out is = absurd (err_ok move_errors.NoPage tt is)
move_needs_room true true many out is = absurd (err_ok move_errors.Taken tt is)
move_needs_room true false true out is = absurd (err_ok move_errors.StoreFull tt is)
move_needs_room true false false out is = refl

at_most : (a b : ℕ) → nat_lt b a ≡ false → a ≤ b
at_most a b e = grind (arith, nat_tests)

one_more_fits : (a b : ℕ) → nat_le b a ≡ false → a + 1 ≤ b
one_more_fits a b e = grind (arith, nat_tests)

less_too : (a b n : ℕ) → a ≤ b → b ≤ n → a ≤ n
less_too a b n h k = omega (arith, h, k)

-- ---- a store of a hub

abbrev pub AreShort : TextMap Page → Type 0
AreShort pages = (path : List ℕ) (page : Page) → map.get pages path ≡ Some page → length page.text ≤ text_limit

pub record Stored (site : Site) (puts : ℕ) : Type 0 where
  pub stamps : TextMap ℕ
  pub store : IsStore (record { site = site; stamps = stamps; puts = puts })
  pub pages : map.len site.pages ≤ page_limit
  pub aliases : map.len site.aliases ≤ alias_limit
  pub texts : AreShort site.pages

pub nothing_stored : Stored (record { pages = map.empty; aliases = map.empty }) 0
nothing_stored = record {
  stamps = map.empty;
  store = empty_is_store;
  pages = subst (λ n. n ≤ page_limit) (sym (map.len-empty (slice_cmp nat_cmp) Page)) (omega arith);
  aliases = subst (λ n. n ≤ alias_limit) (sym (map.len-empty (slice_cmp nat_cmp) (List ℕ))) (omega arith);
  texts = λ path page e. absurd (not_none page (sym (map.get-empty (slice_cmp nat_cmp) path) ∙ e));
}

removed_below : {X : Type 0} (m : TextMap X) (k : List ℕ) → Below (map.remove m k) m
removed_below m k q v e = by (same_key q k) (sym (get_taken m k q) ∙ e)
  where
    by : (b : Bool) → cond b None (map.get m q) ≡ Some v → map.contains_key m q ≡ true
    by true e = absurd (not_none v e)
    by false e = ap is_some e

removed_len : {X : Type 0} (m : TextMap X) (k : List ℕ) → map.len (map.remove m k) ≤ map.len m
removed_len m k = below_len (map.len (map.remove m k)) (map.remove m k) m refl (removed_below m k)

goalless_len : (m : TextMap (List ℕ)) (path : List ℕ) → map.len (without_goal m path) ≤ map.len m
goalless_len m path = below_len (map.len (without_goal m path)) (without_goal m path) m refl
    (λ q v e. by q v (not (is_goal path (map.get m q))) (sym (get-without_goal m path q) ∙ e))
  where
    by : (q v : List ℕ) (b : Bool) → cond b (map.get m q) None ≡ Some v → map.contains_key m q ≡ true
    by q v true e = ap is_some e
    by q v false e = absurd (not_none v e)

set_len : (m : TextMap Page) (path : List ℕ) (page : Page) (stands : Bool) → map.contains_key m path ≡ stands → map.len m ≤ page_limit
    → (stands ≡ false → nat_le page_limit (map.len m) ≡ false) → map.len (map.insert m path page) ≤ page_limit
set_len m path page true is few room =
    subst (λ n. n ≤ page_limit) (sym (map.len-insert nat_list_cmp_total m path page ∙ ap (λ b. cond b (map.len m) (map.len m + 1)) is)) few
set_len m path page false is few room =
    subst (λ n. n ≤ page_limit) (sym (len_added m path page is)) (one_more_fits (map.len m) page_limit (room refl))

set_short : (m : TextMap Page) (path : List ℕ) (page : Page) → AreShort m → length page.text ≤ text_limit
    → AreShort (map.insert m path page)
set_short m path page short one q p e = by (same_key q path) (sym (get_set m path page q) ∙ e)
  where
    by : (b : Bool) → cond b (Some page) (map.get m q) ≡ Some p → length p.text ≤ text_limit
    by true e = subst (λ (x : Page). length x.text ≤ text_limit) (some_is page p e) one
    by false e = short q p e

taken_short : (m : TextMap Page) (path : List ℕ) → AreShort m → AreShort (map.remove m path)
taken_short m path short q p e = by (same_key q path) (sym (get_taken m path q) ∙ e)
  where
    by : (b : Bool) → cond b None (map.get m q) ≡ Some p → length p.text ≤ text_limit
    by true e = absurd (not_none p e)
    by false e = short q p e

pub put_stored : (site : Site) (puts : ℕ) (path : List ℕ) (page : Page)
    → fits (map.len site.pages) (map.contains_key site.pages path) puts page.text ≡ Ok tt → Stored site puts
    → Stored (effect_of site (set_page path page)) (puts + 1)
put_stored site puts path page fine is =
    let needs = fits_needs (nat_lt text_limit (length page.text)) (map.contains_key site.pages path) (nat_le page_limit
    (map.len site.pages)) _ fine in
    record {
      stamps = map.insert is.stamps path puts;
      store = put_stays (record { site = site; stamps = is.stamps; puts = puts }) path page is.store;
      pages = set_len site.pages path page (map.contains_key site.pages path) refl is.pages needs.1;
      aliases = less_too (map.len (map.remove site.aliases path)) (map.len site.aliases) alias_limit
          (removed_len site.aliases path) is.aliases;
      texts = set_short site.pages path page is.texts (at_most (length page.text) text_limit needs.0);
    }

pub remove_stored : (site : Site) (puts : ℕ) (path : List ℕ) → Stored site puts → Stored (effect_of site (remove_page path)) puts
remove_stored site puts path is = record {
  stamps = map.remove is.stamps path;
  store = remove_stays (record { site = site; stamps = is.stamps; puts = puts }) path is.store;
  pages = less_too (map.len (map.remove site.pages path)) (map.len site.pages) page_limit (removed_len site.pages path) is.pages;
  aliases = less_too (map.len (without_goal site.aliases path)) (map.len site.aliases) alias_limit
      (goalless_len site.aliases path) is.aliases;
  texts = taken_short site.pages path is.texts;
}

pub move_stored : (site : Site) (puts : ℕ) (from to : List ℕ)
    → move_fits (map.contains_key site.pages from) (map.contains_key site.pages to) (map.len
    (aliases_after site.aliases from to)) puts ≡ Ok tt
    → Stored site puts → Stored (effect_of site (move_page from to)) (puts + 1)
move_stored site puts from to fine is =
    let store : StoreState = record { site = site; stamps = is.stamps; puts = puts } in
    let aliases = aliases_after site.aliases from to in
    let (stands, free) = move_needs (map.contains_key site.pages from) (map.contains_key site.pages to) (map.len aliases) puts fine in
    let (page, found) = standing (map.get site.pages from) stands in
    let others = map.remove site.pages from in
    let moved = ap (with_key_at site.pages from to) found in
    record {
      stamps = map.insert (map.remove is.stamps from) to puts;
      store = move_stays store from to is.store stands free;
      pages = subst (λ m. map.len m ≤ page_limit) (sym moved) (subst (λ n. n ≤ page_limit) (len_taken site.pages from stands
          ∙ sym (len_added others to page (contains_taken site.pages from to ∙ ap (cond (same_key to from) false) free
          ∙ neither (same_key to from)))) is.pages);
      aliases = at_most (map.len aliases) alias_limit (move_needs_room (map.contains_key site.pages from) (map.contains_key site.pages to)
          (nat_lt alias_limit (map.len aliases)) _ fine);
      texts = subst AreShort (sym moved) (set_short others to page (taken_short site.pages from is.texts) (is.texts from page found));
    }

-- ---- the cut of a site

pub cut_within : (site : Site) (reader : Option Reader) → IsWithin site → IsWithin (visible_to site reader)
cut_within site reader is = record {
  is_site = record {
    apart = λ alias goal e. no_page alias goal (seen_alias alias goal e).0;
    lead = λ alias goal e. let (found, sees) = seen_alias alias goal e in still_seen alias goal found sees;
  };
  pages = less_too (map.len (visible_to site reader).pages) (map.len site.pages) page_limit
      (below_len (map.len (visible_to site reader).pages) (visible_to site reader).pages site.pages refl
      (λ q p e. ap is_some (seen_page q p e))) is.pages;
  aliases = less_too (map.len (visible_to site reader).aliases) (map.len site.aliases) alias_limit
      (below_len (map.len (visible_to site reader).aliases) (visible_to site reader).aliases site.aliases refl
      (λ q v e. ap is_some (seen_alias q v e).0)) is.aliases;
  texts = λ q p e. is.texts q p (seen_page q p e);
}
  where
    seen_page : (q : List ℕ) (p : Page) → map.get (visible_to site reader).pages q ≡ Some p → map.get site.pages q ≡ Some p
    seen_page q p e = by (may_see_at reader (map.get site.pages q)) (sym (get-visible_pages site reader q) ∙ e)
      where
        by : (b : Bool) → cond b (map.get site.pages q) None ≡ Some p → map.get site.pages q ≡ Some p
        by true e = e
        by false e = absurd (not_none p e)

    seen_alias : (q goal : List ℕ) → map.get (visible_to site reader).aliases q ≡ Some goal
        → (map.get site.aliases q ≡ Some goal) × (may_see_at reader (page_of_alias site q) ≡ true)
    seen_alias q goal e = by (may_see_at reader (page_of_alias site q)) (sym (get-visible_aliases site reader q) ∙ e)
      where
        by : (b : Bool) → cond b (map.get site.aliases q) None ≡ Some goal → (map.get site.aliases q ≡ Some goal) × (b ≡ true)
        by true e = (e, refl)
        by false e = absurd (not_none goal e)

    no_page : (alias goal : List ℕ) → map.get site.aliases alias ≡ Some goal → map.contains_key (visible_to site reader).pages alias ≡ false
    no_page alias goal found =
        ap is_some (get-visible_pages site reader alias
        ∙ ap (λ o. cond (may_see_at reader o) o None) (absent (map.get site.pages alias) (is.is_site.apart alias goal found)))

    still_seen : (alias goal : List ℕ) → map.get site.aliases alias ≡ Some goal → may_see_at reader (page_of_alias site alias) ≡ true
        → map.contains_key (visible_to site reader).pages goal ≡ true
    still_seen alias goal found sees =
        let also : may_see_at reader (map.get site.pages goal) ≡ true =
        ap (λ g. may_see_at reader (option_and_then (map.get site.pages) g)) (sym found) ∙ sees in
        ap is_some (get-visible_pages site reader goal ∙ ap (λ b. cond b (map.get site.pages goal) None) also)
        ∙ is.is_site.lead alias goal found
