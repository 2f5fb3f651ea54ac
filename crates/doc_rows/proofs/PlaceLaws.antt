-- A path more or less in some rows, and the rows of a site's pages.
use Rattle.std.proofs.Common.{◌≡◌, ◌⊎◌, inl, inr, ℕ, ◌+◌, ◌<◌, List, [], ◌∷◌, ◌++◌, length, take, drop, get_or, Bool, true, false, cond, not, refl, ap, sym, subst, ◌∙◌}
use Rattle.std.specs.Prelude.{◌&&◌, ◌||◌, ◌==◌, Option, Some, None, Result, Ok, Err, OnErr, bytes_eq, option_map, is_some, if◌then◌else◌}
use Rattle.std.specs.Borrow.{Bor}
use Rattle.std.specs.Cmp.{eq_by_cmp_equiv}
use Rattle.std.specs.Cmp.Lexicographic.{slice_cmp}
use Rattle.std.specs.FinMap as map
use Rattle.std.specs.Ordering.{nat_cmp}
use Rattle.std.proofs.lemmas.Bool.{cond_both, eqb-true}
use Rattle.std.proofs.lemmas.Cmp.{nat_list_cmp_total}
use Rattle.std.proofs.lemmas.List.Elements.{filter-append}
use Rattle.std.proofs.lemmas.List.{append-nil, map-append, take_more, take-append-drop}
use Rattle.std.proofs.lemmas.List.Folds.{list_any-append}
use Rattle.doc_store_readers.proofs.KeySteps.{same_key, same_from, same_itself, bytes_eq_is, contains_set, contains_taken, get_set, get_taken}
use Rattle.doc_store_readers.specs.Groups.{texts_of}
use Rattle.doc_store_readers.specs.Maps.{TextMap}
use Rattle.doc_store_readers.specs.Pages.{Page}
use Rattle.doc_rows.specs.Rows.{HasLess, HasMore, IsRows, IsWider, RowMap, TextSet, all_row, groups_at, is_among, left_in_row, row_at, rows_beside}
use Rattle.doc_rows.specs.Rows.{rows_of, rows_of_some, set_or_empty, stands, with_path, without_path}

-- ---- keys that are the same or not

itself : (r : List ℕ) → bytes_eq r r ≡ true
itself r = bytes_eq_is r r ∙ same_itself r

turned : (r row : List ℕ) → bytes_eq r row ≡ same_key row r
turned r row = bytes_eq_is r row ∙ (eq_by_cmp_equiv nat_list_cmp_total).symm r row

-- ---- one path more, and one less

more_there : (a b : Bool) → cond a true b ≡ (b || (a && true))
more_there true true = refl
more_there true false = refl
more_there false true = refl
more_there false false = refl

more_elsewhere : (a b : Bool) → b ≡ (b || (a && false))
more_elsewhere true true = refl
more_elsewhere true false = refl
more_elsewhere false true = refl
more_elsewhere false false = refl

less_there : (a b : Bool) → cond a false b ≡ (b && not (a && true))
less_there true true = refl
less_there true false = refl
less_there false true = refl
less_there false false = refl

less_elsewhere : (a b : Bool) → b ≡ (b && not (a && false))
less_elsewhere true true = refl
less_elsewhere true false = refl
less_elsewhere false true = refl
less_elsewhere false false = refl

module _ (rows : RowMap) (r p row q : List ℕ) where
  abbrev added : Bool
  added = stands rows row q || (bytes_eq q p && bytes_eq r row)

  abbrev taken : Bool
  taken = stands rows row q && not (bytes_eq q p && bytes_eq r row)

  add_elsewhere : same_key row r ≡ false → stands rows row q ≡ added
  add_elsewhere e =
      more_elsewhere (bytes_eq q p) (stands rows row q)
      ∙ ap (λ b. stands rows row q || (bytes_eq q p && b)) (sym (turned r row ∙ e))

  take_elsewhere : same_key row r ≡ false → stands rows row q ≡ taken
  take_elsewhere e =
      less_elsewhere (bytes_eq q p) (stands rows row q)
      ∙ ap (λ b. stands rows row q && not (bytes_eq q p && b)) (sym (turned r row ∙ e))

module _ (rows : RowMap) (r p row q : List ℕ) where
  pub stands_with : stands (with_path rows r p) row q ≡ added rows r p row q
  stands_with =
      ap (λ o. map.contains_key (set_or_empty o) q) (get_set rows r (map.insert (row_at rows r) p tt) row) ∙ by (same_key row r) refl
    where
      there : map.contains_key (map.insert (row_at rows r) p tt) q ≡ added rows r p r q
      there =
          contains_set (row_at rows r) p tt q ∙ more_there (same_key q p) (stands rows r q)
          ∙ (λ i. stands rows r q || (sym (bytes_eq_is q p) i && sym (itself r) i))

      by : (b : Bool) → same_key row r ≡ b
          → map.contains_key (set_or_empty (cond b (Some (map.insert (row_at rows r) p tt)) (map.get rows row))) q ≡ added rows r p row q
      by true e = there ∙ ap (λ t. added rows r p t q) (sym (same_from row r e))
      by false e = add_elsewhere rows r p row q e

  left_has : map.contains_key (left_in_row rows r p) q ≡ taken rows r p r q
  left_has =
      contains_taken (row_at rows r) p q ∙ less_there (same_key q p) (stands rows r q)
      ∙ (λ i. stands rows r q && not (sym (bytes_eq_is q p) i && sym (itself r) i))

  pub stands_without : stands (without_path rows r p) row q ≡ taken rows r p row q
  stands_without =
      cond_both (map.len (left_in_row rows r p) == 0) (map.remove rows r) (map.insert rows r (left_in_row rows r p))
      (λ m. stands m row q ≡ taken rows r p row q)
      (λ none. ap (λ o. map.contains_key (set_or_empty o) q) (get_taken rows r row) ∙ gone none (same_key row r) refl)
      (λ some. ap (λ o. map.contains_key (set_or_empty o) q) (get_set rows r (left_in_row rows r p) row) ∙ kept (same_key row r) refl)
    where
      empty : (map.len (left_in_row rows r p) == 0) ≡ true → map.contains_key (left_in_row rows r p) q ≡ false
      empty none =
          ap (λ s. map.contains_key s q) (map.empty_of_len (left_in_row rows r p) (eqb-true (map.len (left_in_row rows r p)) 0 none))
          ∙ ap is_some (map.get-empty (slice_cmp nat_cmp) q)

      gone : (map.len (left_in_row rows r p) == 0) ≡ true → (b : Bool) → same_key row r ≡ b
          → map.contains_key (set_or_empty (cond b None (map.get rows row))) q ≡ taken rows r p row q
      gone none true e =
          ap is_some (map.get-empty (slice_cmp nat_cmp) q) ∙ sym (empty none) ∙ left_has
          ∙ ap (λ t. taken rows r p t q) (sym (same_from row r e))
      gone none false e = take_elsewhere rows r p row q e

      kept : (b : Bool) → same_key row r ≡ b
          → map.contains_key (set_or_empty (cond b (Some (left_in_row rows r p)) (map.get rows row))) q ≡ taken rows r p row q
      kept true e = left_has ∙ ap (λ t. taken rows r p t q) (sym (same_from row r e))
      kept false e = take_elsewhere rows r p row q e

-- ---- row by row

pub no_more : (old : RowMap) (p : List ℕ) → HasMore old p [] old
no_more old p = λ row q. more_elsewhere (bytes_eq q p) (stands old row q)

pub no_less : (old : RowMap) (p : List ℕ) → HasLess old p [] old
no_less old p = λ row q. less_elsewhere (bytes_eq q p) (stands old row q)

one_among : (row : List ℕ) (names : List (List ℕ)) (r : List ℕ) → is_among row (names ++ r ∷ []) ≡ (is_among row names || bytes_eq r row)
one_among row names r =
    list_any-append (λ other. bytes_eq other row) names (r ∷ []) ∙ ap (λ b. is_among row names || b) (plain (bytes_eq r row))
  where
    plain : (b : Bool) → (b || false) ≡ b
    plain true = refl
    plain false = refl

module _ (old mid new : RowMap) (p : List ℕ) (names : List (List ℕ)) (r : List ℕ) where
  pub more_of_one : HasMore old p names mid → new ≡ with_path mid r p → HasMore old p (names ++ r ∷ []) new
  more_of_one more is = λ row q.
      ap (λ m. stands m row q) is ∙ stands_with mid r p row q ∙ ap (λ b. b || (bytes_eq q p && bytes_eq r row)) (more row q)
      ∙ by (stands old row q) (bytes_eq q p) (is_among row names) (bytes_eq r row)
      ∙ ap (λ b. stands old row q || (bytes_eq q p && b)) (sym (one_among row names r))
    where
      by : (s e a b : Bool) → ((s || (e && a)) || (e && b)) ≡ (s || (e && (a || b)))
      by true e a b = refl
      by false true a b = refl
      by false false a b = refl

  pub less_of_one : HasLess old p names mid → new ≡ without_path mid r p → HasLess old p (names ++ r ∷ []) new
  less_of_one less is = λ row q.
      ap (λ m. stands m row q) is ∙ stands_without mid r p row q ∙ ap (λ b. b && not (bytes_eq q p && bytes_eq r row)) (less row q)
      ∙ by (stands old row q) (bytes_eq q p) (is_among row names) (bytes_eq r row)
      ∙ ap (λ b. stands old row q && not (bytes_eq q p && b)) (sym (one_among row names r))
    where
      by : (s e a b : Bool) → ((s && not (e && a)) && not (e && b)) ≡ (s && not (e && (a || b)))
      by false e a b = refl
      by true true true b = refl
      by true true false b = refl
      by true false a b = refl

module _ (old mid new : RowMap) (p : List ℕ) where
  -- some are taken out of all
  pub undone : (names rest all : List (List ℕ)) → names ++ rest ≡ all → HasMore old p names mid → HasLess mid p all new
      → HasLess old p all new
  undone names rest all parts more less = λ row q.
      less row q ∙ ap (λ b. b && not (bytes_eq q p && is_among row all)) (more row q)
      ∙ by (stands old row q) (bytes_eq q p) (is_among row names) (is_among row rest) (is_among row all)
      (sym (list_any-append (λ other. bytes_eq other row) names rest) ∙ ap (is_among row) parts)
    where
      by : (s e a b c : Bool) → (a || b) ≡ c → ((s || (e && a)) && not (e && c)) ≡ (s && not (e && c))
      by true e a b c is = refl
      by false false a b c is = refl
      by false true true b c is = ap not (sym is)
      by false true false b c is = refl

  -- out of some rows, then out of others
  pub less_of_both : (names others : List (List ℕ)) → HasLess old p names mid → HasLess mid p others new
      → HasLess old p (names ++ others) new
  less_of_both names others less more = λ row q.
      more row q ∙ ap (λ b. b && not (bytes_eq q p && is_among row others)) (less row q)
      ∙ by (stands old row q) (bytes_eq q p) (is_among row names) (is_among row others)
      ∙ ap (λ b. stands old row q && not (bytes_eq q p && b)) (sym (list_any-append (λ other. bytes_eq other row) names others))
    where
      by : (s e a b : Bool) → ((s && not (e && a)) && not (e && b)) ≡ (s && not (e && (a || b)))
      by false e a b = refl
      by true true true b = refl
      by true true false b = refl
      by true false a b = refl

  -- the row of all pages, then those of groups
  pub less_of_all : (names : List (List ℕ)) → mid ≡ without_path old all_row p → HasLess mid p names new → HasLess old p (rows_of names) new
  less_of_all names is less = λ row q.
      less row q ∙ ap (λ b. b && not (bytes_eq q p && is_among row names)) (ap (λ m. stands m row q) is
      ∙ stands_without old all_row p row q)
      ∙ by (stands old row q) (bytes_eq q p) (bytes_eq all_row row) (is_among row names)
    where
      by : (s e a b : Bool) → ((s && not (e && a)) && not (e && b)) ≡ (s && not (e && (a || b)))
      by false e a b = refl
      by true true true b = refl
      by true true false b = refl
      by true false a b = refl

-- ---- the rows of pages

among_beside : (row : List ℕ) (rows others : List (List ℕ)) → is_among row (rows_beside rows others)
    ≡ (is_among row rows && not (is_among row others))
among_beside row [] others = refl
among_beside row (r ∷ rows) others =
    cond_both (not (is_among r others)) (r ∷ rows_beside rows others) (rows_beside rows others)
    (λ them. is_among row them ≡ (is_among row (r ∷ rows) && not (is_among row others)))
    (λ kept. ap (λ b. bytes_eq r row || b) (among_beside row rows others) ∙ here (bytes_eq r row) refl kept)
    (λ left. among_beside row rows others ∙ gone (bytes_eq r row) refl left)
  where
    same : bytes_eq r row ≡ true → r ≡ row
    same e = same_from r row (sym (bytes_eq_is r row) ∙ e)

    here : (b : Bool) → bytes_eq r row ≡ b → not (is_among r others) ≡ true
        → (b || (is_among row rows && not (is_among row others))) ≡ ((b || is_among row rows) && not (is_among row others))
    here true e kept = sym (ap (λ t. not (is_among t others)) (sym (same e)) ∙ kept)
    here false e kept = refl

    none : (a b : Bool) → b ≡ false → (a && b) ≡ (true && b)
    none true b e = refl
    none false b e = sym e

    gone : (b : Bool) → bytes_eq r row ≡ b → not (is_among r others) ≡ false
        → (is_among row rows && not (is_among row others)) ≡ ((b || is_among row rows) && not (is_among row others))
    gone true e left = none (is_among row rows) (not (is_among row others)) (ap (λ t. not (is_among t others)) (sym (same e)) ∙ left)
    gone false e left = refl

module _ (pages : TextMap Page) (path : List ℕ) (before : Option (List (List ℕ))) (old : RowMap) (stood : groups_at pages path ≡ before)
    (are : IsRows pages old) where
  -- what stood in a row, of the path and of another
  stood_at : (row q : List ℕ) → same_key q path ≡ true → stands old row q ≡ is_among row (rows_of_some before)
  stood_at row q e =
      are.each row q ∙ ap (λ t. is_among row (rows_of_some (groups_at pages t))) (same_from q path e)
      ∙ ap (λ g. is_among row (rows_of_some g)) stood

  module _ (groups : List (List ℕ)) where
    pub placed : (mid new : RowMap) (page : Page) → page.groups ≡ groups
        → HasMore old path (rows_beside (rows_of groups) (rows_of_some before)) mid
        → HasLess mid path (rows_beside (rows_of_some before) (rows_of groups)) new → IsRows (map.insert pages path page) new
    placed mid new page has more less = record {
      each = λ row q.
          less row q ∙ ap (λ b. b && not (bytes_eq q path && is_among row (rows_beside (rows_of_some before) (rows_of groups))))
          (more row q)
          ∙ (λ i. (stands old row q || (bytes_eq_is q path i && among_beside row (rows_of groups) (rows_of_some before) i))
          && not (bytes_eq_is q path i && among_beside row (rows_of_some before) (rows_of groups) i))
          ∙ by row q (same_key q path) refl
          ∙ ap (λ page. is_among row (rows_of_some (option_map (λ page. page.groups) page))) (sym (get_set pages path page q));
    }
      where
        all : (b n : Bool) → ((b || (n && not b)) && not (b && not n)) ≡ n
        all true true = refl
        all true false = refl
        all false true = refl
        all false false = refl

        other : (s : Bool) → ((s || false) && true) ≡ s
        other true = refl
        other false = refl

        by : (row q : List ℕ) (e : Bool) → same_key q path ≡ e
            → ((stands old row q || (e && (is_among row (rows_of groups) && not (is_among row (rows_of_some before)))))
            && not (e && (is_among row (rows_of_some before) && not (is_among row (rows_of groups)))))
            ≡ is_among row (rows_of_some (option_map (λ page. page.groups) (cond e (Some page) (map.get pages q))))
        by row q true e =
            ap (λ s. (s || (is_among row (rows_of groups) && not (is_among row (rows_of_some before))))
            && not (is_among row (rows_of_some before) && not (is_among row (rows_of groups)))) (stood_at row q e)
            ∙ all (is_among row (rows_of_some before)) (is_among row (rows_of groups)) ∙ ap (λ g. is_among row (rows_of g)) (sym has)
        by row q false e = other (stands old row q) ∙ are.each row q

    pub refused : (new : RowMap) → HasLess old path (rows_beside (rows_of groups) (rows_of_some before)) new → IsRows pages new
    refused new less = record {
      each = λ row q.
          less row q
          ∙ (λ i. stands old row q && not (bytes_eq_is q path i && among_beside row (rows_of groups) (rows_of_some before) i))
          ∙ by row q (same_key q path) refl ∙ are.each row q;
    }
      where
        all : (b n : Bool) → (b && not (n && not b)) ≡ b
        all true true = refl
        all true false = refl
        all false n = refl

        other : (s : Bool) → (s && true) ≡ s
        other true = refl
        other false = refl

        by : (row q : List ℕ) (e : Bool) → same_key q path ≡ e
            → (stands old row q && not (e && (is_among row (rows_of groups) && not (is_among row (rows_of_some before)))))
            ≡ stands old row q
        by row q true e =
            ap (λ s. s && not (is_among row (rows_of groups) && not (is_among row (rows_of_some before)))) (stood_at row q e)
            ∙ all (is_among row (rows_of_some before)) (is_among row (rows_of groups)) ∙ sym (stood_at row q e)
        by row q false e = other (stands old row q)

    pub not_wider : (new : RowMap) → (new ≡ old) ⊎ HasLess old path (rows_beside (rows_of groups) (rows_of_some before)) new
        → IsRows pages new
    not_wider new (inl same) = subst (IsRows pages) (sym same) are
    not_wider new (inr less) = refused new less

-- ---- while a page is set

module _ (pages : TextMap Page) (path : List ℕ) (before : Option (List (List ℕ))) (groups : List (List ℕ)) where
  pub wider : (old new : RowMap) → groups_at pages path ≡ before → IsRows pages old
      → HasMore old path (rows_beside (rows_of groups) (rows_of_some before)) new → IsWider pages path before groups new
  wider old new stood are more = record { old = old; stood = stood; are = are; more = more }

  module _ (mid new : RowMap) (wide : IsWider pages path before groups mid) where
    pub narrowed : (page : Page) → page.groups ≡ groups → HasLess mid path (rows_beside (rows_of_some before) (rows_of groups)) new
        → IsRows (map.insert pages path page) new
    narrowed page has less = placed pages path before wide.old wide.stood wide.are groups mid new page has wide.more less

    pub narrowed_back : HasLess mid path (rows_beside (rows_of groups) (rows_of_some before)) new → IsRows pages new
    narrowed_back less =
        refused pages path before wide.old wide.stood wide.are groups new
        (undone wide.old mid new path (rows_beside (rows_of groups) (rows_of_some before)) []
        (rows_beside (rows_of groups) (rows_of_some before)) (append-nil (rows_beside (rows_of groups)
        (rows_of_some before))) wide.more less)

-- none of no rows are beside others, and all are beside none
pub all_beside : (rows : List (List ℕ)) → rows_beside rows [] ≡ rows
all_beside [] = refl
all_beside (row ∷ rows) = ap (λ rs. row ∷ rs) (all_beside rows)

-- out of one row, where it is none of the others
pub less_unless : (old new : RowMap) (p row : List ℕ) (others : List (List ℕ)) → is_among row others ≡ false → new ≡ without_path old row p
    → HasLess old p (rows_beside (row ∷ []) others) new
less_unless old new p row others none is =
    subst (λ names. HasLess old p names new) (ap (λ b. if not b then row ∷ [] else []) (sym none))
    (less_of_one old old new p [] row (no_less old p) is)

pub none_less : (old : RowMap) (p row : List ℕ) (others : List (List ℕ)) → is_among row others ≡ true
    → HasLess old p (rows_beside (row ∷ []) others) old
none_less old p row others one =
    subst (λ names. HasLess old p names old) (ap (λ b. if not b then row ∷ [] else []) (sym one)) (no_less old p)

-- out of one row more
pub less_of_next : (old mid new : RowMap) (p : List ℕ) (names others : List (List ℕ)) (i : ℕ) (x row : List ℕ) → i < length names
    → x ≡ get_or names i x → row ≡ x → HasLess old p (rows_beside (take i names) others) mid
    → HasLess mid p (rows_beside (row ∷ []) others) new → HasLess old p (rows_beside (take (i + 1) names) others) new
less_of_next old mid new p names others i x row within at same less more =
    subst (λ ns. HasLess old p ns new)
    (sym (filter-append (λ row. not (is_among row others)) (take i names) (row ∷ []))
    ∙ ap (λ ns. rows_beside ns others) (ap (λ r. take i names ++ r ∷ []) (same ∙ at) ∙ sym (take_more names i x within)))
    (less_of_both old mid new p (rows_beside (take i names) others) (rows_beside (row ∷ []) others) less more)

pub lifted : (pages : TextMap Page) (path : List ℕ) (groups : List (List ℕ)) (old new : RowMap) → HasLess old path (rows_of groups) new
    → groups_at pages path ≡ Some groups → IsRows pages old → IsRows (map.remove pages path) new
lifted pages path groups old new less stood are = record {
  each = λ row q.
      less row q ∙ ap (λ e. stands old row q && not (e && is_among row (rows_of groups))) (bytes_eq_is q path)
      ∙ by row q (same_key q path) refl
      ∙ ap (λ page. is_among row (rows_of_some (option_map (λ page. page.groups) page))) (sym (get_taken pages path q));
}
  where
    all : (b : Bool) → (b && not b) ≡ false
    all true = refl
    all false = refl

    other : (s : Bool) → (s && true) ≡ s
    other true = refl
    other false = refl

    by : (row q : List ℕ) (e : Bool) → same_key q path ≡ e → (stands old row q && not (e && is_among row (rows_of groups)))
        ≡ is_among row (rows_of_some (option_map (λ page. page.groups) (cond e None (map.get pages q))))
    by row q true e =
        ap (λ s. s && not (is_among row (rows_of groups))) (stood_at pages path (Some groups) old stood are row q e)
        ∙ all (is_among row (rows_of groups))
    by row q false e = other (stands old row q) ∙ are.each row q

-- no pages make no rows
pub no_rows : (pages : TextMap Page) (rows : RowMap) → pages ≡ map.empty → rows ≡ map.empty → IsRows pages rows
no_rows pages rows e f = record {
  each = λ row q.
      ap (λ m. stands m row q) f ∙ ap (λ (o : Option TextSet). map.contains_key (set_or_empty o) q) (map.get-empty (slice_cmp nat_cmp) row)
      ∙ ap is_some (map.get-empty (slice_cmp nat_cmp) q)
      ∙ sym (ap (λ m. is_among row (rows_of_some (groups_at m q))) e
      ∙ ap (λ (o : Option Page). is_among row (rows_of_some (option_map (λ page. page.groups) o))) (map.get-empty (slice_cmp nat_cmp) q));
}

-- the same rows
pub same_rows : (pages : TextMap Page) (old new : RowMap) → new ≡ old → IsRows pages old → IsRows pages new
same_rows pages old new same are = subst (IsRows pages) (sym same) are

-- ---- steps of loops over rows

module _ (old mid new : RowMap) (p : List ℕ) where
  texts_so_far : (rows : List (Bor (List ℕ))) (i : ℕ) (d : Bor (List ℕ)) → i < length rows
      → texts_of (take i rows) ++ (get_or rows i d).now ∷ [] ≡ texts_of (take (i + 1) rows)
  texts_so_far rows i d within =
      sym (map-append (λ text. text.now) (take i rows) (get_or rows i d ∷ [])) ∙ ap texts_of (sym (take_more rows i d within))

  pub more_of_item : (rows : List (Bor (List ℕ))) (i : ℕ) (d : Bor (List ℕ)) → i < length rows → HasMore old p (texts_of (take i rows)) mid
      → new ≡ with_path mid (get_or rows i d).now p → HasMore old p (texts_of (take (i + 1) rows)) new
  more_of_item rows i d within more is =
      subst (λ names. HasMore old p names new) (texts_so_far rows i d within)
      (more_of_one old mid new p (texts_of (take i rows)) (get_or rows i d).now more is)

  pub less_of_item : (rows : List (Bor (List ℕ))) (i : ℕ) (d : Bor (List ℕ)) → i < length rows → HasLess old p (texts_of (take i rows)) mid
      → new ≡ without_path mid (get_or rows i d).now p → HasLess old p (texts_of (take (i + 1) rows)) new
  less_of_item rows i d within less is =
      subst (λ names. HasLess old p names new) (texts_so_far rows i d within)
      (less_of_one old mid new p (texts_of (take i rows)) (get_or rows i d).now less is)

  pub less_of_name : (names : List (List ℕ)) (i : ℕ) (x row : List ℕ) → i < length names → x ≡ get_or names i x → row ≡ x
      → HasLess old p (take i names) mid → new ≡ without_path mid row p → HasLess old p (take (i + 1) names) new
  less_of_name names i x row within at same less is =
      subst (λ names. HasLess old p names new) (ap (λ r. take i names ++ r ∷ []) (same ∙ at) ∙ sym (take_more names i x within))
      (less_of_one old mid new p (take i names) row less is)

  pub undone_items : (rows : List (Bor (List ℕ))) (i : ℕ) → HasMore old p (texts_of (take i rows)) mid → HasLess mid p (texts_of rows) new
      → HasLess old p (texts_of rows) new
  undone_items rows i more less =
      undone old mid new p (texts_of (take i rows)) (texts_of (drop i rows)) (texts_of rows)
      (sym (map-append (λ text. text.now) (take i rows) (drop i rows)) ∙ ap texts_of (take-append-drop i rows)) more less

-- ---- the rows that a call makes of lists

pub beside_are : (a made n news o olds : List (Bor (List ℕ))) (rows others : List (List ℕ)) → a ≡ made
    → texts_of made ≡ rows_beside (texts_of n) (texts_of o) → n ≡ news → texts_of news ≡ rows → o ≡ olds → texts_of olds ≡ others
    → texts_of a ≡ rows_beside rows others
beside_are a made n news o olds rows others e f g h k l =
    ap texts_of e ∙ f ∙ (λ i. rows_beside ((ap texts_of g ∙ h) i) ((ap texts_of k ∙ l) i))

pub less_by : (old new : RowMap) (p : List ℕ) (names others : List (List ℕ)) → names ≡ others → HasLess old p names new
    → HasLess old p others new
less_by old new p names others same less = subst (λ ns. HasLess old p ns new) same less

pub more_by : (old new : RowMap) (p : List ℕ) (names others : List (List ℕ)) → names ≡ others → HasMore old p names new
    → HasMore old p others new
more_by old new p names others same more = subst (λ ns. HasMore old p ns new) same more

pub on_any_err : {X E P : Type 0} (r : Result X E) → P → OnErr r P
on_any_err (Ok x) h = tt
on_any_err (Err e) h = h
