-- A path more or less in the rows of each target.
use Rattle.std.proofs.Common.{◌≡◌, ◌⊎◌, inl, inr, ℕ, ◌+◌, ◌<◌, ◌≤◌, List, [], ◌∷◌, ◌++◌, length, take, get_or, Bool, true, false, cond, not, refl, ap, sym, subst, ◌∙◌}
use Rattle.std.specs.Prelude.{◌&&◌, ◌||◌, ◌==◌, Option, Some, None, bytes_eq, is_some}
use Rattle.std.specs.Cmp.Lexicographic.{slice_cmp}
use Rattle.std.specs.FinMap as map
use Rattle.std.specs.List.{list_any}
use Rattle.std.specs.Ordering.{nat_cmp}
use Rattle.std.proofs.lemmas.Bool.{eqb-true}
use Rattle.std.proofs.Common.{append_assoc}
use Rattle.std.proofs.lemmas.Bool.{true≢false}
use Rattle.std.proofs.lemmas.List.{append-nil, take_all, take_more}
use Rattle.std.proofs.lemmas.List.Folds.{list_any-append}
use Rattle.doc_index_tables.proofs.TableSteps.{set_again}
use Rattle.doc_links_pages.specs.Names.{writes}
use Rattle.doc_resolve.specs.declared.link_kind.LinkKind.{LinkKind}
use Rattle.doc_resolve.specs.declared.link_kind.LinkKind.TheVariants.{External, Page, Nowhere}
use Rattle.doc_rows.specs.Rows.{HasLess, HasMore, RowMap, TextSet, is_among, rows_beside, rows_of, set_or_empty, stands}
use Rattle.doc_rows.proofs.LookLaws.{is_one, or_left, or_right}
use Rattle.doc_rows.proofs.PlaceLaws.{less_by, less_of_both, no_less, no_more}
use Rattle.doc_rows_links.specs.LinkRows.{LinkRowMap, rows_at, rows_or_none}
use Rattle.doc_rows_links.specs.LinkSteps.{AllHaveLess, AllHaveMore, Named, lifted, names_if, only_at}
use Rattle.doc_store_readers.proofs.KeySteps.{same_key, same_from, same_itself, bytes_eq_is, get_set, get_taken}

-- ---- by names

module _ (old new : RowMap) (p : List ℕ) (names others : List (List ℕ)) (same : (row : List ℕ)
    → is_among row names ≡ is_among row others) where
  pub less_alike : HasLess old p names new → HasLess old p others new
  less_alike less = λ row q. less row q ∙ ap (λ b. stands old row q && not (bytes_eq q p && b)) (same row)

  pub more_alike : HasMore old p names new → HasMore old p others new
  more_alike more = λ row q. more row q ∙ ap (λ b. stands old row q || (bytes_eq q p && b)) (same row)

module _ (old mid new : RowMap) (p : List ℕ) (names others : List (List ℕ)) where
  pub more_of_both : HasMore old p names mid → HasMore mid p others new → HasMore old p (names ++ others) new
  more_of_both first more = λ row q.
      more row q ∙ ap (λ b. b || (bytes_eq q p && is_among row others)) (first row q)
      ∙ by (stands old row q) (bytes_eq q p) (is_among row names) (is_among row others)
      ∙ ap (λ b. stands old row q || (bytes_eq q p && b)) (sym (list_any-append (λ other. bytes_eq other row) names others))
    where
      by : (s e a b : Bool) → ((s || (e && a)) || (e && b)) ≡ (s || (e && (a || b)))
      by true e a b = refl
      by false true a b = refl
      by false false a b = refl

  module _ (within : (row : List ℕ) → is_among row names ≡ true → is_among row others ≡ true) where
    -- out of some, then out of all
    pub less_within : HasLess old p names mid → HasLess mid p others new → HasLess old p others new
    less_within first less = λ row q.
        less row q ∙ ap (λ b. b && not (bytes_eq q p && is_among row others)) (first row q)
        ∙ by (stands old row q) (bytes_eq q p) (is_among row names) (is_among row others) (within row)
      where
        by : (s e a b : Bool) → (a ≡ true → b ≡ true) → ((s && not (e && a)) && not (e && b)) ≡ (s && not (e && b))
        by false e a b h = refl
        by true false a b h = refl
        by true true true b h = sym (ap not (h refl))
        by true true false b h = refl

    -- into some, then out of all
    pub undone_within : HasMore old p names mid → HasLess mid p others new → HasLess old p others new
    undone_within first less = λ row q.
        less row q ∙ ap (λ b. b && not (bytes_eq q p && is_among row others)) (first row q)
        ∙ by (stands old row q) (bytes_eq q p) (is_among row names) (is_among row others) (within row)
      where
        by : (s e a b : Bool) → (a ≡ true → b ≡ true) → ((s || (e && a)) && not (e && b)) ≡ (s && not (e && b))
        by true e a b h = refl
        by false false a b h = refl
        by false true true b h = ap not (h refl)
        by false true false b h = refl

-- ---- one target more

-- the names for those targets that were seen
abbrev pub names_seen : List (List ℕ) → Named → Named
names_seen seen names target = names_if (is_one seen target) (names target)

or_same : (b : Bool) → (b || b) ≡ b
or_same true = refl
or_same false = refl

module _ (row : List ℕ) where
  pub joined : (s e : Bool) (ours theirs : List (List ℕ)) → (e ≡ true → ours ≡ theirs)
      → is_among row (names_if s ours ++ names_if e theirs) ≡ is_among row (names_if (s || e) ours)
  joined true true ours theirs same =
      list_any-append (λ other. bytes_eq other row) ours theirs
      ∙ ap (λ them. is_among row ours || is_among row them) (sym (same refl)) ∙ or_same (is_among row ours)
  joined true false ours theirs same = ap (is_among row) (append-nil ours)
  joined false true ours theirs same = ap (is_among row) (sym (same refl))
  joined false false ours theirs same = refl

module _ (names : Named) (seen : List (List ℕ)) (k : List ℕ) where
  one_seen : (t row : List ℕ) → is_among row (names_seen seen names t ++ only_at k (names k) t)
      ≡ is_among row (names_seen (seen ++ k ∷ []) names t)
  one_seen t row =
      joined row (is_one seen t) (bytes_eq t k) (names t) (names k) (λ e. ap names (same_from t k (sym (bytes_eq_is t k) ∙ e)))
      ∙ ap (λ b. is_among row (names_if b (names t))) ((λ i. is_one seen t || (bytes_eq_is t k ∙ plain (same_key t k)) i)
      ∙ sym (list_any-append (same_key t) seen (k ∷ [])))
    where
      plain : (b : Bool) → b ≡ (b || false)
      plain true = refl
      plain false = refl

  module _ (old mid new : LinkRowMap) (p : List ℕ) where
    pub less_of_next : AllHaveLess old p (names_seen seen names) mid → AllHaveLess mid p (only_at k (names k)) new
        → AllHaveLess old p (names_seen (seen ++ k ∷ []) names) new
    less_of_next first less = λ t.
        less_alike (rows_at old t) (rows_at new t) p _ _ (one_seen t)
        (less_of_both (rows_at old t) (rows_at mid t) (rows_at new t) p (names_seen seen names t) (only_at k (names k) t) (first t)
        (less t))

    pub more_of_next : AllHaveMore old p (names_seen seen names) mid → AllHaveMore mid p (only_at k (names k)) new
        → AllHaveMore old p (names_seen (seen ++ k ∷ []) names) new
    more_of_next first more = λ t.
        more_alike (rows_at old t) (rows_at new t) p _ _ (one_seen t)
        (more_of_both (rows_at old t) (rows_at mid t) (rows_at new t) p (names_seen seen names t) (only_at k (names k) t) (first t)
        (more t))

pub none_less : (old : LinkRowMap) (p : List ℕ) (names : Named) → AllHaveLess old p (names_seen [] names) old
none_less old p names = λ t. no_less (rows_at old t) p

pub none_more : (old : LinkRowMap) (p : List ℕ) (names : Named) → AllHaveMore old p (names_seen [] names) old
none_more old p names = λ t. no_more (rows_at old t) p

-- ---- all targets of a set

-- the targets of a set of which some were seen
abbrev pub AreLeft : TextSet → List (List ℕ) → List (List ℕ) → Type 0
AreLeft set seen left = seen ++ left ≡ map.keys set

module _ (set : TextSet) (names : Named) where
  -- those that are named for the targets of the set
  abbrev pub names_of : Named
  names_of target = names_if (map.contains_key set target) (names target)

  all_seen : (seen : List (List ℕ)) → AreLeft set seen [] → (t : List ℕ) → names_seen seen names t ≡ names_of t
  all_seen seen all t =
      ap (λ b. names_if b (names t)) (ap (λ ks. is_one ks t) (sym (append-nil seen) ∙ all) ∙ sym (map.contains_key-keys set t))

  module _ (old new : LinkRowMap) (p : List ℕ) (seen : List (List ℕ)) (all : AreLeft set seen []) where
    pub less_of_set : AllHaveLess old p (names_seen seen names) new → AllHaveLess old p names_of new
    less_of_set less = λ t. less_alike (rows_at old t) (rows_at new t) p _ _ (λ row. ap (is_among row) (all_seen seen all t)) (less t)

    pub more_of_set : AllHaveMore old p (names_seen seen names) new → AllHaveMore old p names_of new
    more_of_set more = λ t. more_alike (rows_at old t) (rows_at new t) p _ _ (λ row. ap (is_among row) (all_seen seen all t)) (more t)

  module _ (seen left : List (List ℕ)) (k : List ℕ) (are : AreLeft set seen (k ∷ left)) where
    has : (t : List ℕ) → map.contains_key set t ≡ (is_one seen t || (same_key t k || is_one left t))
    has t = map.contains_key-keys set t ∙ ap (λ ks. is_one ks t) (sym are) ∙ list_any-append (same_key t) seen (k ∷ left)

    among_if : (row : List ℕ) (a b : Bool) (these : List (List ℕ)) → (a ≡ true → b ≡ true)
        → is_among row (names_if a these) ≡ true → is_among row (names_if b these) ≡ true
    among_if row true b these h e = ap (λ b. is_among row (names_if b these)) (h refl) ∙ e
    among_if row false b these h e = absurd (true≢false (sym e))

    seen_within : (t row : List ℕ) → is_among row (names_seen seen names t) ≡ true → is_among row (names_of t) ≡ true
    seen_within t row =
        among_if row (is_one seen t) (map.contains_key set t) (names t) (λ e. has t ∙ or_left (is_one seen t) _ e)

    one_within : (t row : List ℕ) → is_among row (only_at k (names k) t) ≡ true → is_among row (names_of t) ≡ true
    one_within t row = by (bytes_eq t k) refl
      where
        by : (b : Bool) → bytes_eq t k ≡ b → is_among row (names_if b (names k)) ≡ true → is_among row (names_of t) ≡ true
        by true same e =
            let is : same_key t k ≡ true = sym (bytes_eq_is t k) ∙ same in
            (λ i. is_among row (names_if ((has t ∙ or_right (is_one seen t) _ (or_left (same_key t k) (is_one left t) is)) i)
            (names (same_from t k is i)))) ∙ e
        by false same e = absurd (true≢false (sym e))

    -- a path was added for some targets and refused for one, and then left all
    pub all_undone : (old mid held new : LinkRowMap) (p : List ℕ) → AllHaveMore old p (names_seen seen names) mid
        → (held ≡ mid) ⊎ AllHaveLess mid p (only_at k (names k)) held → AllHaveLess held p names_of new → AllHaveLess old p names_of new
    all_undone old mid held new p more refused less = λ t.
        undone_within (rows_at old t) (rows_at mid t) (rows_at new t) p (names_seen seen names t) (names_of t) (seen_within t) (more t)
        (by t refused)
      where
        by : (t : List ℕ) → (held ≡ mid) ⊎ AllHaveLess mid p (only_at k (names k)) held
            → HasLess (rows_at mid t) p (names_of t) (rows_at new t)
        by t (inl same) = subst (λ m. HasLess (rows_at m t) p (names_of t) (rows_at new t)) same (less t)
        by t (inr first) =
            less_within (rows_at mid t) (rows_at held t) (rows_at new t) p (only_at k (names k) t) (names_of t) (one_within t) (first t)
            (less t)

-- ---- the rows of one target

module _ (old : LinkRowMap) (k : List ℕ) (p : List ℕ) (names : List (List ℕ)) where
  module _ (rows : RowMap) where
    rows_set : (t : List ℕ) → rows_at (map.insert old k rows) t ≡ cond (same_key t k) rows (rows_at old t)
    rows_set t = ap rows_or_none (get_set old k rows t) ∙ by (same_key t k)
      where
        by : (b : Bool) → rows_or_none (cond b (Some rows) (map.get old t)) ≡ cond b rows (rows_at old t)
        by true = refl
        by false = refl

    pub set_less : HasLess (rows_at old k) p names rows → AllHaveLess old p (only_at k names) (map.insert old k rows)
    set_less less = λ t.
        subst (HasLess (rows_at old t) p (only_at k names t)) (sym (rows_set t))
        (subst (λ b. HasLess (rows_at old t) p (names_if b names) (cond (same_key t k) rows (rows_at old t))) (sym (bytes_eq_is t k))
        (by t (same_key t k) refl))
      where
        by : (t : List ℕ) (b : Bool) → same_key t k ≡ b → HasLess (rows_at old t) p (names_if b names) (cond b rows (rows_at old t))
        by t true e = subst (λ x. HasLess (rows_at old x) p names rows) (sym (same_from t k e)) less
        by t false e = no_less (rows_at old t) p

    pub set_more : HasMore (rows_at old k) p names rows → AllHaveMore old p (only_at k names) (map.insert old k rows)
    set_more more = λ t.
        subst (HasMore (rows_at old t) p (only_at k names t)) (sym (rows_set t))
        (subst (λ b. HasMore (rows_at old t) p (names_if b names) (cond (same_key t k) rows (rows_at old t))) (sym (bytes_eq_is t k))
        (by t (same_key t k) refl))
      where
        by : (t : List ℕ) (b : Bool) → same_key t k ≡ b → HasMore (rows_at old t) p (names_if b names) (cond b rows (rows_at old t))
        by t true e = subst (λ x. HasMore (rows_at old x) p names rows) (sym (same_from t k e)) more
        by t false e = no_more (rows_at old t) p

    pub at_set : rows_at (map.insert old k rows) k ≡ rows
    at_set = rows_set k ∙ ap (λ b. cond b rows (rows_at old k)) (same_itself k)

  -- where a target has no rows the path leaves none
  pub unset_less : map.get old k ≡ None → AllHaveLess old p (only_at k names) old
  unset_less none = λ t. by t (bytes_eq t k) refl
    where
      nowhere : (row q : List ℕ) → stands (rows_or_none None) row q ≡ false
      nowhere row q =
          ap (λ (o : Option TextSet). map.contains_key (set_or_empty o) q) (map.get-empty (slice_cmp nat_cmp) row)
          ∙ ap is_some (map.get-empty (slice_cmp nat_cmp) q)

      empty : HasLess (rows_or_none None) p names (rows_or_none None)
      empty = λ row q. nowhere row q ∙ sym (ap (λ b. b && not (bytes_eq q p && is_among row names)) (nowhere row q))

      by : (t : List ℕ) (b : Bool) → bytes_eq t k ≡ b → HasLess (rows_at old t) p (names_if b names) (rows_at old t)
      by t true e =
          subst (λ o. HasLess (rows_or_none o) p names (rows_or_none o))
          (sym (ap (map.get old) (same_from t k (sym (bytes_eq_is t k) ∙ e)) ∙ none)) empty
      by t false e = no_less (rows_at old t) p

  -- rows that are empty go
  pub emptied : (mid new : LinkRowMap) → AllHaveLess old p (only_at k names) mid → rows_at mid k ≡ map.empty → new ≡ map.remove mid k
      → AllHaveLess old p (only_at k names) new
  emptied mid new less none is = λ t.
      subst (HasLess (rows_at old t) p (only_at k names t)) (sym (ap (λ m. rows_at m t) is ∙ ap rows_or_none (get_taken mid k t)
      ∙ by t (same_key t k) refl)) (less t)
    where
      by : (t : List ℕ) (b : Bool) → same_key t k ≡ b → rows_or_none (cond b None (map.get mid t)) ≡ rows_at mid t
      by t true e = sym (ap (rows_at mid) (same_from t k e) ∙ none)
      by t false e = refl

-- none are left
pub none_left : (rows : RowMap) (b : Bool) → b ≡ (map.len rows == 0) → b ≡ true → rows ≡ map.empty
none_left rows b is e = map.empty_of_len rows (eqb-true (map.len rows) 0 (sym is ∙ e))

-- ---- links

module _ (old mid new : LinkRowMap) (p : List ℕ) (groups : List (List ℕ)) where
  pub lifted_next : (links : List LinkKind) (i : ℕ) (x : LinkKind) → i < length links → x ≡ get_or links i x
      → AllHaveLess old p (lifted groups (take i links)) mid → AllHaveLess mid p (lifted groups (x ∷ [])) new
      → AllHaveLess old p (lifted groups (take (i + 1) links)) new
  lifted_next links i x within at first less = λ t.
      less_alike (rows_at old t) (rows_at new t) p _ _ (λ row.
      joined row (list_any (writes t) (take i links)) (list_any (writes t) (x ∷ [])) (rows_beside (rows_of groups) [])
      (rows_beside (rows_of groups) []) (λ _. refl)
      ∙ ap (λ b. is_among row (names_if b (rows_beside (rows_of groups) [])))
      (sym (list_any-append (writes t) (take i links) (x ∷ []))
      ∙ ap (list_any (writes t)) (ap (λ r. take i links ++ r ∷ []) at ∙ sym (take_more links i x within))))
      (less_of_both (rows_at old t) (rows_at mid t) (rows_at new t) p (lifted groups (take i links) t) (lifted groups (x ∷ []) t)
      (first t) (less t))

pub nothing_lifted : (old : LinkRowMap) (p : List ℕ) (groups : List (List ℕ)) → AllHaveLess old p (lifted groups []) old
nothing_lifted old p groups = λ t. no_less (rows_at old t) p

-- ---- loops over the targets of a set

-- the path has left the rows that are named for those targets that aren't left
pub record HasLeft (set : TextSet) (names : Named) (old : LinkRowMap) (p : List ℕ) (left : List (List ℕ)) (new : LinkRowMap) : Type 0 where
  pub seen : List (List ℕ)
  pub are : AreLeft set seen left
  pub less : AllHaveLess old p (names_seen seen names) new

-- the path stands besides in the rows that are named for those targets that aren't left
pub record HasCome (set : TextSet) (names : Named) (old : LinkRowMap) (p : List ℕ) (left : List (List ℕ)) (new : LinkRowMap) : Type 0 where
  pub seen : List (List ℕ)
  pub are : AreLeft set seen left
  pub more : AllHaveMore old p (names_seen seen names) new

module _ (set : TextSet) (names : Named) (old : LinkRowMap) (p : List ℕ) where
  pub none_left_yet : (left : List (List ℕ)) → left ≡ map.keys set → HasLeft set names old p left old
  none_left_yet left all = record { seen = []; are = all; less = none_less old p names }

  pub none_come_yet : (left : List (List ℕ)) → left ≡ map.keys set → HasCome set names old p left old
  none_come_yet left all = record { seen = []; are = all; more = none_more old p names }

  pub next_left : (k : List ℕ) (all left : List (List ℕ)) (mid new : LinkRowMap) (these : List (List ℕ)) → all ≡ k ∷ left → these ≡ names k
      → HasLeft set names old p all mid → AllHaveLess mid p (only_at k these) new → HasLeft set names old p left new
  next_left k all left mid new these step same so_far less = record {
    seen = so_far.seen ++ k ∷ [];
    are = append_assoc so_far.seen (k ∷ []) left ∙ ap (λ ks. so_far.seen ++ ks) (sym step) ∙ so_far.are;
    less = less_of_next names so_far.seen k old mid new p so_far.less (subst (λ ns. AllHaveLess mid p (only_at k ns) new) same less);
  }

  pub next_come : (k : List ℕ) (all left : List (List ℕ)) (mid new : LinkRowMap) (these : List (List ℕ)) → all ≡ k ∷ left → these ≡ names k
      → HasCome set names old p all mid → AllHaveMore mid p (only_at k these) new → HasCome set names old p left new
  next_come k all left mid new these step same so_far more = record {
    seen = so_far.seen ++ k ∷ [];
    are = append_assoc so_far.seen (k ∷ []) left ∙ ap (λ ks. so_far.seen ++ ks) (sym step) ∙ so_far.are;
    more = more_of_next names so_far.seen k old mid new p so_far.more (subst (λ ns. AllHaveMore mid p (only_at k ns) new) same more);
  }

  pub all_left : (left : List (List ℕ)) (new : LinkRowMap) → left ≡ [] → HasLeft set names old p left new
      → AllHaveLess old p (names_of set names) new
  all_left left new none so_far =
      less_of_set set names old new p so_far.seen (ap (λ ks. so_far.seen ++ ks) (sym none) ∙ so_far.are) so_far.less

  pub all_come : (left : List (List ℕ)) (new : LinkRowMap) → left ≡ [] → HasCome set names old p left new
      → AllHaveMore old p (names_of set names) new
  all_come left new none so_far =
      more_of_set set names old new p so_far.seen (ap (λ ks. so_far.seen ++ ks) (sym none) ∙ so_far.are) so_far.more

  pub one_refused : (k : List ℕ) (all left : List (List ℕ)) (mid held new : LinkRowMap) (these : List (List ℕ)) → all ≡ k ∷ left
      → these ≡ names k → HasCome set names old p all mid → (held ≡ mid) ⊎ AllHaveLess mid p (only_at k these) held
      → AllHaveLess held p (names_of set names) new → AllHaveLess old p (names_of set names) new
  one_refused k all left mid held new these step same so_far refused less =
      all_undone set names so_far.seen left k (ap (λ ks. so_far.seen ++ ks) (sym step) ∙ so_far.are) old mid held new p so_far.more
      (subst (λ ns. (held ≡ mid) ⊎ AllHaveLess mid p (only_at k ns) held) same refused) less

-- ---- rows that a look-up found

module _ (old : LinkRowMap) (k : List ℕ) (p : List ℕ) (names : List (List ℕ)) (found rows : RowMap) (new : LinkRowMap)
    (stands : map.get old k ≡ Some found) (is : new ≡ map.insert old k rows) where
  pub set_found_more : HasMore found p names rows → AllHaveMore old p (only_at k names) new
  set_found_more more =
      subst (λ m. AllHaveMore old p (only_at k names) m) (sym is)
      (set_more old k p names rows (subst (λ r. HasMore r p names rows) (sym (ap rows_or_none stands)) more))

  pub set_found_less : HasLess found p names rows → AllHaveLess old p (only_at k names) new
  set_found_less less =
      subst (λ m. AllHaveLess old p (only_at k names) m) (sym is)
      (set_less old k p names rows (subst (λ r. HasLess r p names rows) (sym (ap rows_or_none stands)) less))

  pub set_again_or_less : (rows ≡ found) ⊎ HasLess found p names rows → (new ≡ old) ⊎ AllHaveLess old p (only_at k names) new
  set_again_or_less (inl same) = inl (is ∙ ap (map.insert old k) same ∙ set_again old k found stands)
  set_again_or_less (inr less) = inr (set_found_less less)

-- the first rows of a target
pub set_first : (old : LinkRowMap) (k p : List ℕ) (names : List (List ℕ)) (first rows : RowMap) (new : LinkRowMap) → map.get old k ≡ None
    → first ≡ map.empty → new ≡ map.insert old k rows → HasMore first p names rows → AllHaveMore old p (only_at k names) new
set_first old k p names first rows new none empty is more =
    subst (λ m. AllHaveMore old p (only_at k names) m) (sym is)
    (set_more old k p names rows (subst (λ r. HasMore r p names rows) (empty ∙ sym (ap rows_or_none none)) more))

pub none_kept : (old : LinkRowMap) (k : List ℕ) (rows : RowMap) (new : LinkRowMap) (b : Bool) → new ≡ map.insert old k rows
    → b ≡ (map.len rows == 0) → b ≡ true → rows_at new k ≡ map.empty
none_kept old k rows new b is counted e = ap (λ m. rows_at m k) is ∙ at_set old k [] [] rows ∙ none_left rows b counted e

-- ---- one link

pub not_page : (link : LinkKind) → ((path : List ℕ) (anchor : Option (List ℕ)) → link ≡ Page path anchor → ⊥) → (t : List ℕ)
    → writes t link ≡ false
not_page External none t = refl
not_page (Page path anchor) none t = absurd (none path anchor refl)
not_page Nowhere none t = refl

module _ (old : LinkRowMap) (p : List ℕ) (groups : List (List ℕ)) (link : LinkKind) where
  plain_writes : (t : List ℕ) → writes t link ≡ (writes t link || false)
  plain_writes t = by (writes t link)
    where
      by : (b : Bool) → b ≡ (b || false)
      by true = refl
      by false = refl

  pub one_link : (new : LinkRowMap) (path : List ℕ) → ((t : List ℕ) → writes t link ≡ bytes_eq t path)
      → AllHaveLess old p (only_at path (rows_beside (rows_of groups) [])) new → AllHaveLess old p (lifted groups (link ∷ [])) new
  one_link new path wrote less = λ t.
      less_by (rows_at old t) (rows_at new t) p _ _ (ap (λ b. names_if b (rows_beside (rows_of groups) [])) (sym (wrote t)
      ∙ plain_writes t))
      (less t)

  pub no_link : ((path : List ℕ) (anchor : Option (List ℕ)) → link ≡ Page path anchor → ⊥)
      → AllHaveLess old p (lifted groups (link ∷ [])) old
  no_link none = λ t.
      less_by (rows_at old t) (rows_at old t) p [] _
      (ap (λ b. names_if b (rows_beside (rows_of groups) [])) (sym (not_page link none t) ∙ plain_writes t)) (no_less (rows_at old t) p)

pub lifted_all : (old new : LinkRowMap) (p : List ℕ) (groups : List (List ℕ)) (links : List LinkKind) (i : ℕ) → length links ≤ i
    → AllHaveLess old p (lifted groups (take i links)) new → AllHaveLess old p (lifted groups links) new
lifted_all old new p groups links i all less = subst (λ ls. AllHaveLess old p (lifted groups ls) new) (take_all i links all) less
