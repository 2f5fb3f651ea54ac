-- What a reader's sight sees stands in the reader's view.
use Rattle.std.proofs.Common.{◌≡◌, ℕ, suc, List, [], ◌∷◌, Bool, true, false, cond, T, is_some, length, map as mapped, refl, ap, sym, ◌∙◌}
use Rattle.std.specs.Prelude.{Option, Some, None, option_map}
use Rattle.std.specs.FinMap as map
use Rattle.std.specs.FinMap.Entries.{find-where_key, is_sorted, is_sorted-where_key}
use Rattle.std.specs.List.{filter}
use Rattle.std.specs.List.Sorted.{IsStrictlySortedBy}
use Rattle.std.specs.Map.{keys_of, values_of}
use Rattle.std.specs.Cmp.Lexicographic.{slice_cmp}
use Rattle.std.specs.Ordering.{nat_cmp}
use Rattle.std.specs.declared.cmp.Ordering.TheVariants.{Equal}
use Rattle.std.proofs.lemmas.Cmp.{nat_list_cmp_total}
use Rattle.std.proofs.lemmas.Map.Entries.{option_filter}
use Rattle.std.proofs.lemmas.Map.Lookups.{exact_bytes}
use Rattle.doc_page_parts.proofs.Maps.{len-sorted, is_sorted_keys}
use Rattle.doc_page_parts.specs.Sights.{leads_to_itself, seen}
use Rattle.doc_store_readers.proofs.FilterSteps.{some_in_order}
use Rattle.doc_store_readers.proofs.MapSteps.{get_filtered}
use Rattle.doc_store_readers.proofs.MapValues.{get-map_values, len-map_values}
use Rattle.doc_store.proofs.SightSteps.{itself_is}
use Rattle.doc_store_readers.proofs.ViewLaw.{get-visible_pages, page_at-view_of}
use Rattle.doc_store_readers.specs.declared.reader.Reader.{Reader}
use Rattle.doc_store.specs.Laws.{WhatIsSeen}
use Rattle.doc_store_readers.specs.Maps.{TextMap, map_values}
use Rattle.doc_store_readers.specs.Pages.{Page, StampedPage}
use Rattle.doc_store_readers.specs.Sites.{Site, IsSite, View, goal_in, may_see, may_see_at, view_of, visible_to}
use Rattle.doc_store.specs.Store.{site_with}

-- the entries of a map with some keys alone are those entries of the map
pub entries-retain_keys : {X : Type 0} (m : TextMap X) (p : List ℕ → Bool)
    → map.entries (map.retain_keys m p) ≡ filter (λ entry. p entry.0) (map.entries m)
entries-retain_keys {X = X} m p =
    let alike : (q x : List ℕ) → slice_cmp nat_cmp q x ≡ Equal → p x ≡ p q = λ q x tied. ap p (sym (exact_bytes q x tied)) in
    let some : List (List ℕ × X) = filter (λ entry. p entry.0) (map.entries m) in
    let sorted : T (is_sorted (slice_cmp nat_cmp) some) = is_sorted-where_key (slice_cmp nat_cmp) p (map.entries m)
    (map.entries_sorted m) in
    ap map.entries (map.same_map nat_list_cmp_total exact_bytes (map.retain_keys m p) (map.from_sorted some) (λ q.
    map.get-retain_keys m p q (alike q)
    ∙ ap (λ found. cond (p q) found None) (map.get-entries m q)
    ∙ sym (find-where_key (slice_cmp nat_cmp) p q (alike q) (map.entries m))
    ∙ sym (map.get-from_sorted (slice_cmp nat_cmp) some q sorted)))
    ∙ map.entries-from_sorted (slice_cmp nat_cmp) some sorted

-- tests that agree keep the same
same_kept : {X : Type 0} (p q : List ℕ → Bool) → ((path : List ℕ) → p path ≡ q path) → (entries : List (List ℕ × X))
    → filter (λ entry. p entry.0) entries ≡ filter (λ entry. q entry.0) entries
same_kept p q same [] = refl
same_kept p q same (entry ∷ rest) = λ i. cond (same entry.0 i) (entry ∷ same_kept p q same rest i) (same_kept p q same rest i)

module _ (site : Site) (reader : Reader) (is : IsSite site) where
  abbrev view : View
  view = view_of site (Some reader)

  pub seen_pages : seen (goal_in view) (map.entries site.pages) ≡ view.pages
  unfolding visible_to
  seen_pages =
      same_kept (λ path. leads_to_itself (goal_in view path) path) (λ path. may_see_at (Some reader) (map.get site.pages path))
      (itself_is site is reader) (map.entries site.pages)
      ∙ sym (entries-retain_keys site.pages (λ path. may_see_at (Some reader) (map.get site.pages path)))

-- what is seen of pages with what is known of each
seen-known : {X Y : Type 0} (goals : List ℕ → Option (List ℕ)) (known : List ℕ × X → Y) (pages : List (List ℕ × X))
    → seen goals (mapped (λ page. (page.0, known page)) pages) ≡ mapped (λ page. (page.0, known page)) (seen goals pages)
seen-known goals known [] = refl
seen-known {X = X} {Y = Y} goals known (page ∷ rest) =
    ap (cons (leads_to_itself (goals page.0) page.0)) (seen-known goals known rest)
    ∙ by (leads_to_itself (goals page.0) page.0) (seen goals rest)
  where
    one : List ℕ × Y
    one = (page.0, known page)

    cons : Bool → List (List ℕ × Y) → List (List ℕ × Y)
    cons b more = cond b (one ∷ more) more

    by : (b : Bool) (more : List (List ℕ × X))
        → cons b (mapped (λ p. (p.0, known p)) more) ≡ mapped (λ p. (p.0, known p)) (cond b (page ∷ more) more)
    by true more = refl
    by false more = refl

-- Of all pages of a site, each with what is known of it, those that a reader sees are the pages of the
-- reader's view, each with what is known of it.
pub seen_of_known : {X : Type 0} (known : List ℕ × Page → X) (site : Site) (reader : Reader) → IsSite site
    → seen (goal_in (view_of site (Some reader))) (mapped (λ page. (page.0, known page)) (map.entries site.pages))
    ≡ mapped (λ page. (page.0, known page)) (view_of site (Some reader)).pages
seen_of_known known site reader is =
    seen-known (goal_in (view_of site (Some reader))) known (map.entries site.pages)
    ∙ ap (mapped (λ page. (page.0, known page))) (seen_pages site reader is)

pub sees_the_view : WhatIsSeen
sees_the_view site reader is = record {
  path = λ path.
      itself_is site is reader path ∙ by (may_see_at (Some reader) (map.get site.pages path)) (map.get site.pages path) refl
      ∙ sym (ap is_some (page_at-view_of site (Some reader) path));
  pages = seen_pages site reader is;
}
  where
    by : (b : Bool) (o : Option Page) → may_see_at (Some reader) o ≡ b → b ≡ is_some (cond b o None)
    by true None e = sym e
    by true (Some page) e = refl
    by false o e = refl

-- ---- how many pages are seen

values_kept : (p : StampedPage → Bool) (entries : List (List ℕ × StampedPage))
    → length (filter p (values_of entries)) ≡ length (filter (λ entry. p entry.1) entries)
values_kept p [] = refl
values_kept p (entry ∷ rest) = by (p entry.1) (filter p (values_of rest)) (filter (λ e. p e.1) rest) (values_kept p rest)
  where
    by : (b : Bool) (some : List StampedPage) (others : List (List ℕ × StampedPage)) → length some ≡ length others
        → length (cond b (entry.1 ∷ some) some) ≡ length (cond b (entry ∷ others) others)
    by true some others e = ap (λ n. suc n) e
    by false some others e = e

pub count_of_seen : (reader : Option Reader) (pages : TextMap StampedPage) (aliases : TextMap (List ℕ))
    → length (filter (λ page. may_see reader page.page) (map.values pages)) ≡ length (view_of (site_with pages aliases) reader).pages
count_of_seen reader pages aliases =
    let some : List (List ℕ × StampedPage) = filter (λ entry. may_see reader entry.1.page) (map.entries pages) in
    let sorted : IsStrictlySortedBy (slice_cmp nat_cmp) (keys_of (map.entries pages))
    = is_sorted_keys (slice_cmp nat_cmp) (map.entries pages) (map.entries_sorted pages) in
    values_kept (λ page. may_see reader page.page) (map.entries pages)
    ∙ len-sorted nat_list_cmp_total exact_bytes some
    (some_in_order (slice_cmp nat_cmp) (λ entry. may_see reader entry.1.page) (map.entries pages) sorted)
    ∙ sym (len-map_values (λ p. p.page) (map.from_entries some))
    ∙ ap map.len (map.same_map nat_list_cmp_total exact_bytes (map_values (λ p. p.page) (map.from_entries some))
    (visible_to (site_with pages aliases) reader).pages (λ q.
    get-map_values (λ p. p.page) (map.from_entries some) q
    ∙ ap (option_map (λ p. p.page)) (get_filtered nat_list_cmp_total exact_bytes (λ page. may_see reader page.page) (map.entries pages)
    q sorted
    ∙ ap (option_filter (λ page. may_see reader page.page)) (map.get-from_entries nat_list_cmp_total (map.entries pages) q
    ∙ sym (map.get-entries pages q)))
    ∙ by (map.get pages q)
    ∙ ap (λ o. cond (may_see_at reader o) o None) (sym (get-map_values (λ p. p.page) pages q))
    ∙ sym (get-visible_pages (site_with pages aliases) reader q)))
    ∙ map.len-entries (visible_to (site_with pages aliases) reader).pages
  where
    by_page : (b : Bool) (page : StampedPage) → option_map (λ p. p.page) (cond b (Some page) None) ≡ cond b (Some page.page) None
    by_page true page = refl
    by_page false page = refl

    by : (o : Option StampedPage) → option_map (λ p. p.page) (option_filter (λ page. may_see reader page.page) o)
        ≡ cond (may_see_at reader (option_map (λ p. p.page) o)) (option_map (λ p. p.page) o) None
    by None = refl
    by (Some page) = by_page (may_see reader page.page) page
