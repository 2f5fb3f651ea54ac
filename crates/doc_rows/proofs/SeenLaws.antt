-- What a reader sees, by rows: the paths that stand in some of their rows are those of their view.
use Rattle.std.proofs.Common.{◌≡◌, ℕ, ◌+◌, ◌<◌, List, [], ◌∷◌, ◌++◌, take, get_or, Bool, true, false, cond, refl, ap, sym, subst, ◌∙◌}
use Rattle.std.specs.Prelude.{◌&&◌, ◌||◌, Option, Some, None, bytes_eq, is_some, map as mapped, length, option_map, if◌then◌else◌}
use Rattle.std.specs.Cmp.Lexicographic.{slice_cmp}
use Rattle.std.specs.FinMap as map
use Rattle.std.specs.List.{list_all, list_any}
use Rattle.std.specs.List.Sorted.{IsStrictlySortedBy}
use Rattle.std.specs.Map.{keys_of}
use Rattle.std.specs.Ordering.{nat_cmp}
use Rattle.std.proofs.lemmas.Bool.{and_parts, true≢false}
use Rattle.std.proofs.lemmas.Cmp.{nat_list_cmp_total}
use Rattle.std.proofs.lemmas.List.{take_more}
use Rattle.std.proofs.lemmas.List.Folds.{list_any-append}
use Rattle.std.proofs.lemmas.Map.Lookups.{exact_bytes}
use Rattle.doc_page_parts.proofs.Maps.{is_sorted_keys}
use Rattle.doc_store_readers.proofs.KeySteps.{same_key, same_from, same_itself, bytes_eq_is, contains_set}
use Rattle.doc_store_readers.proofs.MapValues.{get-map_values, entries-map_values}
use Rattle.doc_store_readers.proofs.ViewLaw.{get-visible_pages}
use Rattle.doc_store_readers.specs.Groups.{IsGroups, is_group, meet}
use Rattle.doc_store_readers.specs.Maps.{TextMap, map_values}
use Rattle.doc_store_readers.specs.Pages.{Page}
use Rattle.doc_store_readers.specs.Sites.{Site, may_see, may_see_at, view_of, visible_to}
use Rattle.doc_store_readers.specs.declared.reader.Reader.{Reader}
use Rattle.doc_rows.specs.Looks.{first_from, greater, last_before, lesser}
use Rattle.doc_rows.specs.Rows.{IsRows, RowMap, TextSet, all_row, groups_at, is_among, paths_among, paths_in, row_at, rows_of, rows_of_reader}
use Rattle.doc_rows.specs.Rows.{rows_of_some, stands, with_texts}
use Rattle.doc_rows.proofs.LookLaws.{first_alike, first_is_first, greater_is_last, is_from, is_one, is_short}
use Rattle.doc_rows.proofs.LookLaws.{last_alike, last_is_last, lesser_is_first, one_first, one_last}
use Rattle.doc_rows.proofs.RowsSteps.{no_keys}

-- ---- sets of texts

pub in_order : {X : Type 0} (m : TextMap X) → IsStrictlySortedBy (slice_cmp nat_cmp) (map.keys m)
in_order m = is_sorted_keys (slice_cmp nat_cmp) (map.entries m) (map.entries_sorted m)

found : {X : Type 0} (m : TextMap X) (q : List ℕ) → is_one (map.keys m) q ≡ map.contains_key m q
found m q = sym (map.contains_key-keys m q)

-- maps with the same keys have them in the same order
pub same_keys : {X Y : Type 0} (m : TextMap X) (n : TextMap Y)
    → ((q : List ℕ) → map.contains_key m q ≡ map.contains_key n q) → map.keys m ≡ map.keys n
same_keys m n same =
    sym (unmarked (map.entries m)) ∙ ap keys_of (sym (entries-map_values (λ _. tt) m))
    ∙ ap map.keys (map.same_map nat_list_cmp_total exact_bytes (map_values (λ _. tt) m) (map_values (λ _. tt) n) (λ q.
    get-map_values (λ _. tt) m q ∙ marked (map.get m q) (map.get n q) (same q) ∙ sym (get-map_values (λ _. tt) n q)))
    ∙ ap keys_of (entries-map_values (λ _. tt) n) ∙ unmarked (map.entries n)
  where
    unmarked : {X : Type 0} (es : List (List ℕ × X)) → keys_of (mapped (λ e. (e.0, tt {0})) es) ≡ keys_of es
    unmarked [] = refl
    unmarked (e ∷ es) = ap (λ ks. e.0 ∷ ks) (unmarked es)

    marked : {X Y : Type 0} (a : Option X) (b : Option Y) → is_some a ≡ is_some b → option_map (λ _. tt {0}) a ≡ option_map (λ _. tt {0}) b
    marked None None e = refl
    marked None (Some y) e = absurd (true≢false (sym e))
    marked (Some x) None e = absurd (true≢false e)
    marked (Some x) (Some y) e = refl

contains_with_texts : (set : TextSet) (texts : List (List ℕ)) (q : List ℕ)
    → map.contains_key (with_texts set texts) q ≡ (is_one texts q || map.contains_key set q)
contains_with_texts set [] q = refl
contains_with_texts set (text ∷ texts) q =
    contains_set (with_texts set texts) text tt q ∙ ap (cond (same_key q text) true) (contains_with_texts set texts q)
    ∙ by (same_key q text) (is_one texts q) (map.contains_key set q)
  where
    by : (a b c : Bool) → cond a true (b || c) ≡ ((a || b) || c)
    by true b c = refl
    by false b c = refl

-- a path stands in some of the rows
contains_among : (rows : RowMap) (names : List (List ℕ)) (q : List ℕ)
    → map.contains_key (paths_among rows names) q ≡ list_any (λ name. stands rows name q) names
contains_among rows [] q = ap is_some (map.get-empty (slice_cmp nat_cmp) q)
contains_among rows (name ∷ names) q =
    contains_with_texts (paths_among rows names) (map.keys (row_at rows name)) q
    ∙ (λ i. found (row_at rows name) q i || contains_among rows names q i)

-- ---- looks into two sets

module _ (whole one other : TextSet)
    (parts : (q : List ℕ) → map.contains_key whole q ≡ (map.contains_key one q || map.contains_key other q)) where
  split : (test : List ℕ → Bool) (q : List ℕ)
      → ((is_one (map.keys one) q && test q) || (is_one (map.keys other) q && test q)) ≡ (is_one (map.keys whole) q && test q)
  split test q =
      (λ i. (found one q i && test q) || (found other q i && test q))
      ∙ by (map.contains_key one q) (map.contains_key other q) (test q) ∙ ap (λ b. b && test q) (sym (found whole q ∙ parts q))
    where
      by : (a b c : Bool) → ((a && c) || (b && c)) ≡ ((a || b) && c)
      by true true true = refl
      by true true false = refl
      by true false true = refl
      by true false false = refl
      by false b c = refl

  first_of_both : (from : List ℕ)
      → lesser (first_from from (map.keys one)) (first_from from (map.keys other)) ≡ first_from from (map.keys whole)
  first_of_both from =
      one_first (λ q. is_one (map.keys whole) q && is_from from q) _ _
      (first_alike (λ q. (is_one (map.keys one) q && is_from from q) || (is_one (map.keys other) q && is_from from q))
      (λ q. is_one (map.keys whole) q && is_from from q) (split (is_from from)) _
      (lesser_is_first (λ q. is_one (map.keys one) q && is_from from q) (λ q. is_one (map.keys other) q && is_from from q) _ _
      (first_is_first from (map.keys one) (in_order one)) (first_is_first from (map.keys other) (in_order other))))
      (first_is_first from (map.keys whole) (in_order whole))

  last_of_both : (before : List ℕ)
      → greater (last_before before (map.keys one)) (last_before before (map.keys other)) ≡ last_before before (map.keys whole)
  last_of_both before =
      one_last (λ q. is_one (map.keys whole) q && is_short before q) _ _
      (last_alike (λ q. (is_one (map.keys one) q && is_short before q) || (is_one (map.keys other) q && is_short before q))
      (λ q. is_one (map.keys whole) q && is_short before q) (split (is_short before)) _
      (greater_is_last (λ q. is_one (map.keys one) q && is_short before q) (λ q. is_one (map.keys other) q && is_short before q) _ _
      (last_is_last before (map.keys one) (in_order one)) (last_is_last before (map.keys other) (in_order other))))
      (last_is_last before (map.keys whole) (in_order whole))

module _ (rows : RowMap) (names : List (List ℕ)) (name : List ℕ) where
  with_one_more : (q : List ℕ) → map.contains_key (paths_among rows (names ++ name ∷ [])) q
      ≡ (map.contains_key (paths_among rows names) q || map.contains_key (row_at rows name) q)
  with_one_more q =
      contains_among rows (names ++ name ∷ []) q ∙ list_any-append (λ other. stands rows other q) names (name ∷ [])
      ∙ (λ i. sym (contains_among rows names q) i || plain (stands rows name q) i)
    where
      plain : (b : Bool) → (b || false) ≡ b
      plain true = refl
      plain false = refl

  -- the first path of some rows and of one more
  pub first_of_more : (from : List ℕ)
      → lesser (first_from from (map.keys (paths_among rows names))) (first_from from (map.keys (row_at rows name)))
      ≡ first_from from (map.keys (paths_among rows (names ++ name ∷ [])))
  first_of_more from =
      first_of_both (paths_among rows (names ++ name ∷ [])) (paths_among rows names) (row_at rows name) with_one_more from

  pub last_of_more : (before : List ℕ)
      → greater (last_before before (map.keys (paths_among rows names))) (last_before before (map.keys (row_at rows name)))
      ≡ last_before before (map.keys (paths_among rows (names ++ name ∷ [])))
  last_of_more before =
      last_of_both (paths_among rows (names ++ name ∷ [])) (paths_among rows names) (row_at rows name) with_one_more before

-- of one row alone
pub of_one_row : (rows : RowMap) (name : List ℕ) → map.keys (row_at rows name) ≡ map.keys (paths_among rows (name ∷ []))
of_one_row rows name =
    same_keys (row_at rows name) (paths_among rows (name ∷ [])) (λ q. plain (stands rows name q) ∙ sym (contains_among rows (name ∷ []) q))
  where
    plain : (b : Bool) → b ≡ (b || false)
    plain true = refl
    plain false = refl

-- of no row
pub of_no_row : (rows : RowMap) → map.keys (paths_among rows []) ≡ []
of_no_row rows = no_keys

-- ---- the rows of a reader

-- the row of all pages is no group's
no_group_is_all : (names : List (List ℕ)) → list_all is_group names ≡ true → is_among all_row names ≡ false
no_group_is_all [] good = refl
no_group_is_all (name ∷ names) good =
    let parts = and_parts (is_group name) (list_all is_group names) good in
    (λ i. apart (bytes_eq name all_row) refl parts.0 i || no_group_is_all names parts.1 i)
  where
    apart : (b : Bool) → bytes_eq name all_row ≡ b → is_group name ≡ true → bytes_eq name all_row ≡ false
    apart true same group =
        absurd (true≢false (sym group ∙ ap is_group (same_from name all_row (sym (bytes_eq_is name all_row) ∙ same))))
    apart false same group = same

turned : (a b : List ℕ) → bytes_eq a b ≡ bytes_eq b a
turned a b = by (bytes_eq a b) refl (bytes_eq b a) refl
  where
    back : (a b : List ℕ) → bytes_eq a b ≡ true → bytes_eq b a ≡ true
    back a b e = ap (bytes_eq b) (same_from a b (sym (bytes_eq_is a b) ∙ e)) ∙ bytes_eq_is b b ∙ same_itself b

    by : (x : Bool) → bytes_eq a b ≡ x → (y : Bool) → bytes_eq b a ≡ y → x ≡ y
    by true e true f = refl
    by true e false f = absurd (true≢false (sym (back a b e) ∙ f))
    by false e true f = absurd (true≢false (sym (back b a f) ∙ e))
    by false e false f = refl

-- of a reader who is no owner: a page stands in some of their rows where it and they have a group in common
met : (ours theirs : List (List ℕ)) → is_among all_row ours ≡ false
    → list_any (λ name. is_among name (rows_of theirs)) ours ≡ meet ours theirs
met [] theirs none = refl
met (name ∷ ours) theirs none =
    by (bytes_eq name all_row) (is_among all_row ours) none refl (is_among name theirs)
    ∙ ap (λ b. is_among name theirs || b) (met ours theirs (rest (bytes_eq name all_row) (is_among all_row ours) none))
  where
    rest : (a b : Bool) → (a || b) ≡ false → b ≡ false
    rest true b e = absurd (true≢false e)
    rest false b e = e

    by : (a b : Bool) → (a || b) ≡ false → bytes_eq name all_row ≡ a → (c : Bool)
        → ((bytes_eq all_row name || c) || list_any (λ name. is_among name (rows_of theirs)) ours)
        ≡ (c || list_any (λ name. is_among name (rows_of theirs)) ours)
    by true b e f c = absurd (true≢false e)
    by false b e f c = ap (λ x. (x || c) || list_any (λ name. is_among name (rows_of theirs)) ours) (turned all_row name ∙ f)

nothing_met : (ours : List (List ℕ)) → list_any (λ name. is_among name []) ours ≡ false
nothing_met [] = refl
nothing_met (name ∷ ours) = nothing_met ours

module _ (reader : Reader) (good : IsGroups reader.groups) where
  shown : (page : Page) → (o : Bool) → reader.owner ≡ o
      → list_any (λ name. is_among name (rows_of page.groups)) (if o then all_row ∷ [] else reader.groups)
      ≡ (o || meet reader.groups page.groups)
  shown page true e = refl
  shown page false e = met reader.groups page.groups (no_group_is_all reader.groups good.good)

  hidden : (o : Bool) → list_any (λ name. is_among name []) (if o then all_row ∷ [] else reader.groups) ≡ false
  hidden true = refl
  hidden false = nothing_met reader.groups

  seen_at : (page : Option Page)
      → list_any (λ name. is_among name (rows_of_some (option_map (λ page. page.groups) page))) (rows_of_reader reader)
      ≡ is_some (cond (may_see_at (Some reader) page) page None)
  seen_at None = hidden reader.owner
  seen_at (Some page) = shown page reader.owner refl ∙ by (may_see (Some reader) page)
    where
      by : (b : Bool) → b ≡ is_some (cond b (Some page) None)
      by true = refl
      by false = refl

  -- the paths of a reader's rows are those of their view
  pub paths_are : (site : Site) (rows : RowMap) → IsRows site.pages rows
      → map.keys (paths_among rows (rows_of_reader reader)) ≡ paths_in (view_of site (Some reader))
  paths_are site rows are =
      same_keys (paths_among rows (rows_of_reader reader)) (visible_to site (Some reader)).pages (λ q.
      contains_among rows (rows_of_reader reader) q ∙ each q (rows_of_reader reader) ∙ seen_at (map.get site.pages q)
      ∙ ap is_some (sym (get-visible_pages site (Some reader) q)))
    where
      each : (q : List ℕ) (names : List (List ℕ))
          → list_any (λ name. stands rows name q) names ≡ list_any (λ name. is_among name (rows_of_some (groups_at site.pages q))) names
      each q [] = refl
      each q (name ∷ names) = λ i. are.each name q i || each q names i

-- ---- what the looks of a reader find

module _ (rows : RowMap) (names : List (List ℕ)) (i : ℕ) (x row : List ℕ) (within : i < length names) (at : x ≡ get_or names i x)
    (is : row ≡ x) where
  so_far : take i names ++ row ∷ [] ≡ take (i + 1) names
  so_far = ap (λ r. take i names ++ r ∷ []) (is ∙ at) ∙ sym (take_more names i x within)

  pub first_of_next : (from : List ℕ) (best found : Option (List ℕ)) → best ≡ first_from from (map.keys (paths_among rows (take i names)))
      → found ≡ first_from from (map.keys (row_at rows row))
      → lesser best found ≡ first_from from (map.keys (paths_among rows (take (i + 1) names)))
  first_of_next from best found e f =
      (λ j. lesser (e j) (f j)) ∙ first_of_more rows (take i names) row from
      ∙ ap (λ ns. first_from from (map.keys (paths_among rows ns))) so_far

  pub last_of_next : (before : List ℕ) (best found : Option (List ℕ))
      → best ≡ last_before before (map.keys (paths_among rows (take i names)))
      → found ≡ last_before before (map.keys (row_at rows row))
      → greater best found ≡ last_before before (map.keys (paths_among rows (take (i + 1) names)))
  last_of_next before best found e f =
      (λ j. greater (e j) (f j)) ∙ last_of_more rows (take i names) row before
      ∙ ap (λ ns. last_before before (map.keys (paths_among rows ns))) so_far

module _ (reader : Reader) (names : List (List ℕ)) (same : names ≡ reader.groups) (groups : IsGroups names) (site : Site) (rows : RowMap)
    (are : IsRows site.pages rows) where
  good : IsGroups reader.groups
  good = subst IsGroups same groups

  pub seen_by_owner : reader.owner ≡ true → map.keys (row_at rows all_row) ≡ paths_in (view_of site (Some reader))
  seen_by_owner owner =
      of_one_row rows all_row ∙ ap (λ o. map.keys (paths_among rows (if o then all_row ∷ [] else reader.groups))) (sym owner)
      ∙ paths_are reader good site rows are

  pub seen_by_others : reader.owner ≡ false → map.keys (paths_among rows names) ≡ paths_in (view_of site (Some reader))
  seen_by_others other =
      ap (λ ns. map.keys (paths_among rows ns)) same
      ∙ ap (λ o. map.keys (paths_among rows (if o then all_row ∷ [] else reader.groups))) (sym other)
      ∙ paths_are reader good site rows are
