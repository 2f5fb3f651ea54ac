-- The pages that write a target, and what a reader sees of them.
use Rattle.std.proofs.Common.{◌≡◌, ℕ, List, [], ◌∷◌, Bool, true, false, cond, T, refl, ap, sym, subst, ◌∙◌}
use Rattle.std.specs.Prelude.{Option, Some, None, filter, map as mapped, option_map, is_some}
use Rattle.std.specs.Cmp.Lexicographic.{slice_cmp}
use Rattle.std.specs.FinMap as map
use Rattle.std.specs.FinMap.Entries.{find-where_key, is_sorted, is_sorted-where_key}
use Rattle.std.specs.List.{AllByRecursion, list_any}
use Rattle.std.specs.List.Sorted.{IsStrictlySortedBy}
use Rattle.std.specs.Map.{keys_of}
use Rattle.std.specs.Ordering.{is_eq, nat_cmp, ordering_reverse}
use Rattle.std.specs.declared.cmp.Ordering.TheVariants.{Equal, Less}
use Rattle.std.proofs.lemmas.Bool.{true≢false}
use Rattle.std.proofs.lemmas.Cmp.{nat_list_cmp_total}
use Rattle.std.proofs.lemmas.Map.Lookups.{exact_bytes}
use Rattle.doc_links_pages.specs.Names.{writes}
use Rattle.doc_rows.specs.Looks.{first_from}
use Rattle.doc_rows.specs.Rows.{IsRows, RowMap, TextSet, all_row, groups_at, is_among, paths_in, rows_of, rows_of_some, set_or_empty, stands}
use Rattle.doc_rows.proofs.RowsSteps.{no_keys}
use Rattle.doc_rows.proofs.SeenLaws.{in_order, same_keys}
use Rattle.doc_rows_links.specs.LinkRows.{IsLinkRows, LinkRowMap, Linking, groups_if, paths_writing, rows_or_none, writes_at, writing}
use Rattle.doc_store_readers.proofs.KeySteps.{same_key, same_from, same_itself, bytes_eq_is, get_set, get_taken}
use Rattle.doc_store_readers.proofs.ViewLaw.{entry_at-entries, get-visible_pages}
use Rattle.doc_store_readers.specs.Maps.{TextMap}
use Rattle.doc_store_readers.specs.Pages.{Page}
use Rattle.doc_store_readers.specs.Sites.{Site, entry_at, may_see_at, view_of, visible_to}
use Rattle.doc_store_readers.specs.declared.reader.Reader.{Reader}

-- ---- what stands at a path

module _ (linking : Linking) (target : List ℕ) where
  -- what stands at a path, where it writes the target
  abbrev pub kept_at : List ℕ → Option Page → Option Page
  kept_at path page = cond (writes_at linking target path page) page None

  pub get-writing : (pages : TextMap Page) (q : List ℕ) → map.get (writing linking pages target) q ≡ kept_at q (map.get pages q)
  get-writing pages q =
      map.get-retain_keys pages (λ path. writes_at linking target path (map.get pages path)) q
      (λ x tied. ap (λ p. writes_at linking target p (map.get pages p)) (sym (exact_bytes q x tied)))

  -- the groups of what stands, where it writes the target
  pub groups_at_writing : (pages : TextMap Page) (path : List ℕ) → groups_at (writing linking pages target) path
      ≡ groups_if (writes_at linking target path (map.get pages path)) (groups_at pages path)
  groups_at_writing pages path =
      ap (option_map (λ page. page.groups)) (get-writing pages path)
      ∙ by (writes_at linking target path (map.get pages path)) (map.get pages path)
    where
      by : (b : Bool) (page : Option Page) → option_map (λ page. page.groups) (cond b page None)
          ≡ groups_if b (option_map (λ page. page.groups) page)
      by true page = refl
      by false page = refl

  -- ---- after an edit

  module _ (pages : TextMap Page) (path : List ℕ) where
    -- where the new page writes the target
    pub set_writing : (page : Page) → list_any (writes target) (linking path page) ≡ true → (q : List ℕ)
        → map.get (map.insert (writing linking pages target) path page) q ≡ map.get (writing linking (map.insert pages path page) target) q
    set_writing page wrote q =
        get_set (writing linking pages target) path page q ∙ ap (cond (same_key q path) (Some page)) (get-writing pages q)
        ∙ by (same_key q path) refl ∙ sym (get-writing (map.insert pages path page) q ∙ ap (kept_at q) (get_set pages path page q))
      where
        by : (b : Bool) → same_key q path ≡ b
            → cond b (Some page) (kept_at q (map.get pages q)) ≡ kept_at q (cond b (Some page) (map.get pages q))
        by true e = sym (ap (λ b. cond b (Some page) None) (ap (λ p. list_any (writes target) (linking p page)) (same_from q path e)
            ∙ wrote))
        by false e = refl

    -- where it doesn't
    pub set_not_writing : (page : Page) → list_any (writes target) (linking path page) ≡ false → (q : List ℕ)
        → map.get (map.remove (writing linking pages target) path) q ≡ map.get (writing linking (map.insert pages path page) target) q
    set_not_writing page wrote q =
        get_taken (writing linking pages target) path q ∙ ap (cond (same_key q path) None) (get-writing pages q)
        ∙ by (same_key q path) refl ∙ sym (get-writing (map.insert pages path page) q ∙ ap (kept_at q) (get_set pages path page q))
      where
        by : (b : Bool) → same_key q path ≡ b
            → cond b None (kept_at q (map.get pages q)) ≡ kept_at q (cond b (Some page) (map.get pages q))
        by true e = sym (ap (λ b. cond b (Some page) None) (ap (λ p. list_any (writes target) (linking p page)) (same_from q path e)
            ∙ wrote))
        by false e = refl

    pub taken_writing : (q : List ℕ)
        → map.get (map.remove (writing linking pages target) path) q ≡ map.get (writing linking (map.remove pages path) target) q
    taken_writing q =
        get_taken (writing linking pages target) path q ∙ ap (cond (same_key q path) None) (get-writing pages q)
        ∙ by (same_key q path) ∙ sym (get-writing (map.remove pages path) q ∙ ap (kept_at q) (get_taken pages path q))
      where
        by : (b : Bool) → cond b None (kept_at q (map.get pages q)) ≡ kept_at q (cond b None (map.get pages q))
        by true = refl
        by false = refl

    -- a page that doesn't write the target is none of those that do
    pub not_writing : writes_at linking target path (map.get pages path) ≡ false → (q : List ℕ)
        → map.get (writing linking pages target) q ≡ map.get (map.remove (writing linking pages target) path) q
    not_writing wrote q =
        by (same_key q path) refl ∙ sym (get_taken (writing linking pages target) path q)
      where
        by : (b : Bool) → same_key q path ≡ b
            → map.get (writing linking pages target) q ≡ cond b None (map.get (writing linking pages target) q)
        by true e =
            ap (map.get (writing linking pages target)) (same_from q path e) ∙ get-writing pages path
            ∙ ap (λ b. cond b (map.get pages path) None) wrote
        by false e = refl

-- the rows of pages are those of pages that stand alike
pub rows_alike : (pages others : TextMap Page) (rows : RowMap) → ((q : List ℕ) → map.get pages q ≡ map.get others q)
    → IsRows pages rows → IsRows others rows
rows_alike pages others rows same are = record {
  each = λ row q. are.each row q ∙ ap (λ page. is_among row (rows_of_some (option_map (λ page. page.groups) page))) (same q);
}

-- ---- what a reader sees

-- the entries of a map with some keys alone are those entries of the map
entries-retain_keys : {X : Type 0} (m : TextMap X) (p : List ℕ → Bool)
    → map.entries (map.retain_keys m p) ≡ filter (λ entry. p entry.0) (map.entries m)
entries-retain_keys {X = X} m p =
    let alike : (q x : List ℕ) → slice_cmp nat_cmp q x ≡ Equal → p x ≡ p q = λ q x tied. ap p (sym (exact_bytes q x tied)) in
    let some : List (List ℕ × X) = filter (λ entry. p entry.0) (map.entries m) in
    let sorted : T (is_sorted (slice_cmp nat_cmp) some) = is_sorted-where_key (slice_cmp nat_cmp) p (map.entries m)
    (map.entries_sorted m) in
    ap map.entries (map.same_map nat_list_cmp_total exact_bytes (map.retain_keys m p) (map.from_sorted some) (λ q.
    map.get-retain_keys m p q (alike q)
    ∙ ap (λ found. cond (p q) found None) (map.get-entries m q)
    ∙ sym (find-where_key (slice_cmp nat_cmp) p q (alike q) (map.entries m))
    ∙ sym (map.get-from_sorted (slice_cmp nat_cmp) some q sorted)))
    ∙ map.entries-from_sorted (slice_cmp nat_cmp) some sorted

-- tests by what stands at a key, and by the entries, keep the same
kept_same : (test : List ℕ → Option Page → Bool) (get : List ℕ → Option Page) (es : List (List ℕ × Page))
    → AllByRecursion (λ e. get e.0 ≡ Some e.1) es
    → filter (λ e. test e.0 (get e.0)) es ≡ filter (λ e. test e.0 (Some e.1)) es
kept_same test get [] all = refl
kept_same test get (e ∷ es) all = λ i. cond (test e.0 (all.0 i)) (e ∷ kept_same test get es all.1 i) (kept_same test get es all.1 i)

-- what the entries hold at the key of each is its value
all_found : (es : List (List ℕ × Page)) → IsStrictlySortedBy (slice_cmp nat_cmp) (keys_of es)
    → AllByRecursion (λ e. entry_at es e.0 ≡ Some e.1) es
unfolding IsStrictlySortedBy
all_found [] sorted = tt
all_found (e ∷ es) sorted = (
  ap (λ b. cond b (Some e.1) (entry_at es e.0)) (bytes_eq_is e.0 e.0 ∙ same_itself e.0),
  behind es sorted.0 (all_found es sorted.1),
)
  where
    behind : (fs : List (List ℕ × Page)) → AllByRecursion (λ k. slice_cmp nat_cmp e.0 k ≡ Less) (keys_of fs)
        → AllByRecursion (λ f. entry_at es f.0 ≡ Some f.1) fs → AllByRecursion (λ f. entry_at (e ∷ es) f.0 ≡ Some f.1) fs
    behind [] less found = tt
    behind (f ∷ fs) less found = (
      ap (λ b. cond b (Some e.1) (entry_at es f.0))
          (bytes_eq_is f.0 e.0 ∙ ap is_eq (nat_list_cmp_total.antisymm f.0 e.0 ∙ ap ordering_reverse less.0)) ∙ found.0,
      behind fs less.1 found.1,
    )

same_found : (one other : List ℕ → Option Page) → ((q : List ℕ) → one q ≡ other q) → (es : List (List ℕ × Page))
    → AllByRecursion (λ e. one e.0 ≡ Some e.1) es → AllByRecursion (λ e. other e.0 ≡ Some e.1) es
same_found one other same [] all = tt
same_found one other same (e ∷ es) all = (sym (same e.0) ∙ all.0, same_found one other same es all.1)

-- the pages that write a target are those entries
pub entries-writing : (linking : Linking) (pages : TextMap Page) (target : List ℕ) → map.entries (writing linking pages target)
    ≡ filter (λ page. list_any (writes target) (linking page.0 page.1)) (map.entries pages)
entries-writing linking pages target =
    entries-retain_keys pages (λ path. writes_at linking target path (map.get pages path))
    ∙ kept_same (writes_at linking target) (map.get pages) (map.entries pages)
    (same_found (entry_at (map.entries pages)) (map.get pages) (entry_at-entries pages) (map.entries pages)
    (all_found (map.entries pages) (in_order pages)))

-- two tests that nothing passes, one after the other
in_turn : (one other : Option Page → Bool) → (page : Option Page)
    → cond (one (cond (other page) page None)) (cond (other page) page None) None
    ≡ cond (other (cond (one page) page None)) (cond (one page) page None) None
in_turn one other page = by (other page) (one page) refl refl
  where
    none : (b : Bool) → ◌≡◌ {A = Option Page} (cond b None None) None
    none true = refl
    none false = refl

    by : (b a : Bool) → other page ≡ b → one page ≡ a
        → cond (one (cond b page None)) (cond b page None) None ≡ cond (other (cond a page None)) (cond a page None) None
    by true true e f = ap (λ x. cond x page None) (f ∙ sym e)
    by true false e f = ap (λ x. cond x page None) f ∙ sym (none (other None))
    by false true e f = none (one None) ∙ sym (ap (λ x. cond x page None) e)
    by false false e f = none (one None) ∙ sym (none (other None))

module _ (linking : Linking) (target : List ℕ) (site : Site) (reader : Reader) where
  -- a site with the pages alone that write the target
  abbrev pub those : Site
  those = record { pages = writing linking site.pages target; aliases = site.aliases }

  abbrev shown : TextMap Page
  shown = (visible_to site (Some reader)).pages

  shown_writing : (visible_to those (Some reader)).pages ≡ writing linking shown target
  shown_writing = map.same_map nat_list_cmp_total exact_bytes _ _ (λ q.
      get-visible_pages those (Some reader) q
      ∙ ap (λ page. cond (may_see_at (Some reader) page) page None) (get-writing linking target site.pages q)
      ∙ in_turn (may_see_at (Some reader)) (writes_at linking target q) (map.get site.pages q)
      ∙ sym (get-writing linking target shown q ∙ ap (kept_at linking target q) (get-visible_pages site (Some reader) q)))

  -- the paths of the view that write the target are those of the view of such a site
  pub paths_are_writing : paths_in (view_of those (Some reader)) ≡ paths_writing linking (view_of site (Some reader)) target
  paths_are_writing = ap (mapped (λ page. page.0)) (ap map.entries shown_writing ∙ entries-writing linking shown target)

  -- where nothing stands in the rows, none of the view writes the target
  pub none_writing : IsRows those.pages map.empty → paths_writing linking (view_of site (Some reader)) target ≡ []
  none_writing are =
      sym paths_are_writing ∙ same_keys (visible_to those (Some reader)).pages nothing (λ q.
      ap is_some (get-visible_pages those (Some reader) q ∙ hidden q (map.get those.pages q) refl)
      ∙ sym (ap is_some (map.get-empty (slice_cmp nat_cmp) q)))
      ∙ no_keys
    where
      nothing : TextSet
      nothing = map.empty

      no_rows : RowMap
      no_rows = map.empty

      hidden : (q : List ℕ) (page : Option Page) → map.get those.pages q ≡ page
          → cond (may_see_at (Some reader) (map.get those.pages q)) (map.get those.pages q) None ≡ None
      hidden q None e = ap (λ page. cond (may_see_at (Some reader) page) page None) e
      hidden q (Some page) e =
          absurd (true≢false (sym (ap (λ page. is_among all_row (rows_of_some (option_map (λ page. page.groups) page))) e ∙ one page)
          ∙ sym (are.each all_row q) ∙ stands_nowhere all_row q))
        where
          one : (page : Page) → is_among all_row (rows_of page.groups) ≡ true
          one page = refl

          stands_nowhere : (row q : List ℕ) → stands no_rows row q ≡ false
          stands_nowhere row q =
              ap (λ (o : Option TextSet). map.contains_key (set_or_empty o) q) (map.get-empty (slice_cmp nat_cmp) row)
              ∙ ap is_some (map.get-empty (slice_cmp nat_cmp) q)

  module _ (link_rows : LinkRowMap) (from : List ℕ) (are : IsLinkRows linking site.pages link_rows) where
    -- the first one from a text on, where the target has rows
    pub seen_of_some : (rows : RowMap) (found : Option (List ℕ)) → map.get link_rows target ≡ Some rows
        → (IsRows those.pages rows → found ≡ first_from from (paths_in (view_of those (Some reader))))
        → found ≡ first_from from (paths_writing linking (view_of site (Some reader)) target)
    seen_of_some rows found stands look =
        look (subst (IsRows those.pages) (ap rows_or_none stands) (are.each target)) ∙ ap (first_from from) paths_are_writing

    -- and where it has none
    pub seen_of_none : map.get link_rows target ≡ None → None ≡ first_from from (paths_writing linking (view_of site (Some reader)) target)
    seen_of_none stands =
        ap (first_from from) (sym (none_writing (subst (IsRows those.pages) (ap rows_or_none stands) (are.each target))))
