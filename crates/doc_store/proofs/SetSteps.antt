-- Steps of the aliases and of the sets of them.
use Rattle.std.proofs.Common.{◌≡◌, ◌≢◌, ℕ, List, [], ◌∷◌, ◌++◌, Bool, true, false, cond, not, ◌||◌, bytes_eq, is_some, length, map as mapped, refl, ap, sym, subst, ◌∙◌, arith}
use Rattle.std.specs.Prelude.{Option, Some, None, option_map, Result, Ok, Err, IfOk, OnOk, if◌then◌else◌}
use Rattle.std.specs.FinMap as map
use Rattle.std.specs.Map.{keys_of}
use Rattle.std.specs.List.{list_any}
use Rattle.std.specs.List.Sorted.{IsStrictlySortedBy}
use Rattle.std.specs.Cmp.{eq_by_cmp_equiv}
use Rattle.std.specs.Cmp.Lexicographic.{slice_cmp}
use Rattle.std.specs.Ordering.{nat_cmp, eq_by_cmp}
use Rattle.std.proofs.lemmas.Cmp.{nat_list_cmp_total}
use Rattle.std.proofs.lemmas.Map.Lookups.{exact_bytes}
use Rattle.std.proofs.lemmas.Option.{same_Some}
use Rattle.doc_page_parts.proofs.Bools.{clash}
use Rattle.doc_page_parts.proofs.Maps.{entries_in_order, is_sorted_keys}
use Rattle.doc_store_readers.proofs.FilterSteps.{some_in_order}
use Rattle.doc_store_readers.proofs.KeySteps.{same_key, same_from, same_itself, bytes_eq_is, get_set, get_taken, contains_set, contains_taken}
use Rattle.doc_store_readers.proofs.MapValues.{get-map_values}
use Rattle.doc_store.proofs.NamesLaw.{alias_leads, by_bytes}
use Rattle.doc_store.proofs.StoreSteps.{get-without_goal, get-aliases_after}
use Rattle.doc_store.specs.AliasSteps.{TextSet, set_at, has_alias, AreSets, with_value, with_all, without_all}
use Rattle.doc_store_readers.specs.Maps.{TextMap, map_values}
use Rattle.doc_store.specs.Names.{aliases_of}
use Rattle.doc_store.specs.Store.{is_goal, without_goal, goal_after, aliases_after}

turned : (q k : List ℕ) → same_key q k ≡ same_key k q
turned q k = (eq_by_cmp_equiv nat_list_cmp_total).symm q k

-- a path against a goal
goal_is : (goal g : List ℕ) → bytes_eq goal g ≡ same_key g goal
goal_is goal g = bytes_eq_is goal g ∙ turned goal g

differ : (x y : List ℕ) → x ≢ y → same_key x y ≡ false
differ x y apart = by (same_key x y) refl
  where
    by : (b : Bool) → same_key x y ≡ b → b ≡ false
    by true e = absurd (apart (same_from x y e))
    by false e = refl

-- ---- lists of keys

-- what is said of the keys of sorted entries is said of those of their map
pub said_of_keys : {X E A Y : Type 0} (result : Result X E) (shown : X → Y) (said : List (List ℕ) → Y) (entries : List (List ℕ × A))
    (m : TextMap A) → map.from_entries entries ≡ m → OnOk result (IsStrictlySortedBy (slice_cmp nat_cmp) (keys_of entries))
    → IfOk result (λ x. shown x ≡ said (keys_of entries)) → IfOk result (λ x. shown x ≡ said (map.keys m))
said_of_keys (Ok x) shown said entries m is sorted found =
    found ∙ ap said (ap keys_of (sym (entries_in_order nat_list_cmp_total exact_bytes entries sorted)) ∙ ap map.keys is)
said_of_keys (Err e) shown said entries m is sorted found = found

-- the keys of sorted entries are those of their map
pub keys_are : {A : Type 0} (entries : List (List ℕ × A)) (m : TextMap A) → IsStrictlySortedBy (slice_cmp nat_cmp) (keys_of entries)
    → map.from_entries entries ≡ m → keys_of entries ≡ map.keys m
keys_are entries m sorted is = ap keys_of (sym (entries_in_order nat_list_cmp_total exact_bytes entries sorted)) ∙ ap map.keys is

pub no_keys : (A : Type 0) → map.keys (map.empty {X = A} {R = slice_cmp nat_cmp}) ≡ []
no_keys A = ap keys_of (nothing (map.entries (map.empty {X = A} {R = slice_cmp nat_cmp}))
    (sym (map.len-entries (map.empty {X = A} {R = slice_cmp nat_cmp})) ∙ map.len-empty (slice_cmp nat_cmp) A))
  where
    nothing : (es : List (List ℕ × A)) → length es ≡ 0 → es ≡ []
    nothing [] e = refl
    nothing (e ∷ es) is = absurd (omega arith)

-- the last of some copies, and those before it
pub last_copy : (to : List ℕ) (rest : List (List ℕ)) (before : List (List ℕ)) (last : List ℕ)
    → to ∷ mapped (λ _. to) rest ≡ before ++ last ∷ [] → (last ≡ to) × (before ≡ mapped (λ _. to) rest)
last_copy to [] [] last e = ((cc), refl)
last_copy to [] (x ∷ []) last e = cc
last_copy to [] (x ∷ y ∷ more) last e = cc
last_copy to (r ∷ rest) [] last e = cc
last_copy to (r ∷ rest) (x ∷ before) last e =
    let tail : to ∷ mapped (λ _. to) rest ≡ before ++ last ∷ [] = cc in
    let more = last_copy to rest before last tail in
    let head : x ≡ to = cc in
    (more.0, λ i. head i ∷ more.1 i)

-- keys in order that are the same keys are the same list
abbrev marked : List (List ℕ) → List (List ℕ × Unit {0})
marked keys = mapped (λ key. (key, tt)) keys

keys_of-marked : (keys : List (List ℕ)) → keys_of (marked keys) ≡ keys
keys_of-marked [] = refl
keys_of-marked (key ∷ keys) = ap (λ rest. key ∷ rest) (keys_of-marked keys)

find-marked : (q : List ℕ) (keys : List (List ℕ)) → map.find (slice_cmp nat_cmp) q (marked keys)
    ≡ cond (list_any (eq_by_cmp (slice_cmp nat_cmp) q) keys) (Some tt) None
find-marked q [] = refl
find-marked q (key ∷ keys) =
    ap (cond (eq_by_cmp (slice_cmp nat_cmp) q key) (Some tt)) (find-marked q keys)
    ∙ by (eq_by_cmp (slice_cmp nat_cmp) q key) (list_any (eq_by_cmp (slice_cmp nat_cmp) q) keys)
  where
    by : (b c : Bool) → ◌≡◌ {A = Option (Unit {0})} (cond b (Some tt) (cond c (Some tt) None)) (cond (b || c) (Some tt) None)
    by true c = refl
    by false c = refl

entries-marked : (keys : List (List ℕ)) → IsStrictlySortedBy (slice_cmp nat_cmp) keys
    → map.entries (map.from_entries {R = slice_cmp nat_cmp} (marked keys)) ≡ marked keys
entries-marked keys sorted = entries_in_order nat_list_cmp_total exact_bytes (marked keys)
    (subst (IsStrictlySortedBy (slice_cmp nat_cmp)) (sym (keys_of-marked keys)) sorted)

same_keys : (keys others : List (List ℕ)) → IsStrictlySortedBy (slice_cmp nat_cmp) keys → IsStrictlySortedBy (slice_cmp nat_cmp) others
    → ((q : List ℕ) → list_any (eq_by_cmp (slice_cmp nat_cmp) q) keys ≡ list_any (eq_by_cmp (slice_cmp nat_cmp) q) others)
    → keys ≡ others
same_keys keys others sorted ordered same =
    let one : map.from_entries {R = slice_cmp nat_cmp} (marked keys) ≡ map.from_entries (marked others) =
    map.same_map nat_list_cmp_total exact_bytes _ _ (λ q.
    map.get-from_entries nat_list_cmp_total (marked keys) q ∙ find-marked q keys ∙ ap (λ b. cond b (Some tt) None) (same q)
    ∙ sym (find-marked q others) ∙ sym (map.get-from_entries nat_list_cmp_total (marked others) q)) in
    sym (keys_of-marked keys)
    ∙ ap keys_of (sym (entries-marked keys sorted) ∙ ap map.entries one ∙ entries-marked others ordered)
    ∙ keys_of-marked others

-- ---- values at keys

get-with_value : {X : Type 0} (m : TextMap X) (k : List ℕ) (v : X) (q : List ℕ)
    → map.get (with_value m k v) q ≡ cond (same_key q k) (option_map (λ _. v) (map.get m q)) (map.get m q)
get-with_value {X = X} m k v q = by (map.get m k) refl
  where
    tied : (found : Option X) → map.get m k ≡ found → (b : Bool) → same_key q k ≡ b
        → cond b (option_map (λ _. v) found) (map.get m q) ≡ cond b (option_map (λ _. v) (map.get m q)) (map.get m q)
    tied found e true is = ap (option_map (λ _. v)) (sym e ∙ ap (map.get m) (sym (same_from q k is)))
    tied found e false is = refl

    nothing : (b : Bool) (o : Option X) → (b ≡ true → o ≡ None) → o ≡ cond b None o
    nothing true o none = none refl
    nothing false o none = refl

    by : (found : Option X) → map.get m k ≡ found
        → map.get (if is_some found then map.insert m k v else m) q ≡ cond (same_key q k) (option_map (λ _. v) (map.get m q)) (map.get m q)
    by None e =
        nothing (same_key q k) (map.get m q) (λ is. ap (map.get m) (same_from q k is) ∙ e)
        ∙ tied None e (same_key q k) refl
    by (Some old) e = get_set m k v q ∙ tied (Some old) e (same_key q k) refl

pub value_set : {X : Type 0} (m : TextMap X) (k : List ℕ) (v : X) → true ≡ map.contains_key m k → map.insert m k v ≡ with_value m k v
value_set m k v stands = ap (λ b. if b then map.insert m k v else m) stands

pub value_not_set : {X : Type 0} (m : TextMap X) (k : List ℕ) (v : X) → false ≡ map.contains_key m k → m ≡ with_value m k v
value_not_set m k v none = ap (λ b. if b then map.insert m k v else m) none

-- whether a key is among some
abbrev among : List ℕ → List (List ℕ) → Bool
among q keys = list_any (eq_by_cmp (slice_cmp nat_cmp) q) keys

get-with_all : (m : TextMap (List ℕ)) (keys : List (List ℕ)) (v q : List ℕ)
    → map.get (with_all m keys v) q ≡ cond (among q keys) (option_map (λ _. v) (map.get m q)) (map.get m q)
get-with_all m [] v q = refl
get-with_all m (k ∷ keys) v q =
    get-with_all (with_value m k v) keys v q
    ∙ ap (λ o. cond (among q keys) (option_map (λ _. v) o) o) (get-with_value m k v q)
    ∙ by (same_key q k) (among q keys) (map.get m q)
  where
    again : (o : Option (List ℕ)) → option_map (λ _. v) (option_map (λ _. v) o) ≡ option_map (λ _. v) o
    again None = refl
    again (Some x) = refl

    by : (b c : Bool) (o : Option (List ℕ))
        → cond c (option_map (λ _. v) (cond b (option_map (λ _. v) o) o)) (cond b (option_map (λ _. v) o) o)
        ≡ cond (b || c) (option_map (λ _. v) o) o
    by true true o = again o
    by true false o = refl
    by false c o = refl

get-without_all : (m : TextMap (List ℕ)) (keys : List (List ℕ)) (q : List ℕ)
    → map.get (without_all m keys) q ≡ cond (among q keys) None (map.get m q)
get-without_all m [] q = refl
get-without_all m (k ∷ keys) q =
    get-without_all (map.remove m k) keys q ∙ ap (cond (among q keys) None) (get_taken m k q)
    ∙ by (same_key q k) (among q keys) (map.get m q)
  where
    by : (b c : Bool) (o : Option (List ℕ)) → cond c None (cond b None o) ≡ cond (b || c) None o
    by true true o = refl
    by true false o = refl
    by false c o = refl

-- a value that stands is set again
pub set_again : {X : Type 0} (m : TextMap X) (k : List ℕ) (v : X) → Some v ≡ map.get m k → map.insert m k v ≡ m
set_again {X = X} m k v there = map.same_map nat_list_cmp_total exact_bytes _ _ (λ q. get_set m k v q ∙ by q (same_key q k) refl)
  where
    by : (q : List ℕ) (b : Bool) → same_key q k ≡ b → cond b (Some v) (map.get m q) ≡ map.get m q
    by q true e = there ∙ ap (map.get m) (sym (same_from q k e))
    by q false e = refl

-- a key that is none is taken out
pub none_taken : {X : Type 0} (m : TextMap X) (k : List ℕ) → None ≡ map.get m k → map.remove m k ≡ m
none_taken {X = X} m k none = map.same_map nat_list_cmp_total exact_bytes _ _ (λ q. get_taken m k q ∙ by q (same_key q k) refl)
  where
    by : (q : List ℕ) (b : Bool) → same_key q k ≡ b → cond b None (map.get m q) ≡ map.get m q
    by q true e = none ∙ ap (map.get m) (sym (same_from q k e))
    by q false e = refl

-- where no set stands there are no keys
pub no_keys_at : (found : Option TextSet) → None ≡ found → [] ≡ map.keys (set_at found)
no_keys_at found none = sym (no_keys (Unit {0})) ∙ ap (λ o. map.keys (set_at o)) none

-- ---- no aliases

pub empty_sets : (goals : TextMap (List ℕ)) (sets : TextMap TextSet) → goals ≡ map.empty → sets ≡ map.empty → AreSets goals sets
empty_sets goals sets g s = record {
  each = λ goal alias.
      ap (λ m. has_alias m goal alias) s ∙ ap (λ o. map.contains_key (set_at o) alias) (map.get-empty (slice_cmp nat_cmp) goal)
      ∙ ap is_some (map.get-empty (slice_cmp nat_cmp) alias)
      ∙ sym (ap (is_goal goal) (ap (λ m. map.get m alias) g ∙ map.get-empty (slice_cmp nat_cmp) alias));
}

module _ (goals : TextMap (List ℕ)) (sets : TextMap TextSet) (are : AreSets goals sets) where
  -- the same maps
  pub sets_same : (others : TextMap (List ℕ)) (backs : TextMap TextSet) → others ≡ goals → backs ≡ sets → AreSets others backs
  sets_same others backs e f = record {
    each = λ g q. ap (λ m. has_alias m g q) f ∙ are.each g q ∙ ap (λ m. is_goal g (map.get m q)) (sym e);
  }

  -- ---- one alias more

  pub set_added : (alias goal : List ℕ) → map.get goals alias ≡ None
      → AreSets (map.insert goals alias goal) (map.insert sets goal (map.insert (set_at (map.get sets goal)) alias tt))
  set_added alias goal none = record {
    each = λ g q.
        ap (λ o. map.contains_key (set_at o) q) (get_set sets goal more g)
        ∙ by g q (same_key g goal) (same_key q alias) refl refl
        ∙ ap (is_goal g) (sym (get_set goals alias goal q));
  }
    where
      more : TextSet
      more = map.insert (set_at (map.get sets goal)) alias tt

      by : (g q : List ℕ) (b c : Bool) → same_key g goal ≡ b → same_key q alias ≡ c
          → map.contains_key (set_at (cond b (Some more) (map.get sets g))) q ≡ is_goal g (cond c (Some goal) (map.get goals q))
      by g q true true e f =
          contains_set (set_at (map.get sets goal)) alias tt q
          ∙ ap (λ t. cond t true (map.contains_key (set_at (map.get sets goal)) q)) f ∙ sym (goal_is goal g ∙ e)
      by g q true false e f =
          contains_set (set_at (map.get sets goal)) alias tt q
          ∙ ap (λ t. cond t true (map.contains_key (set_at (map.get sets goal)) q)) f ∙ are.each goal q
          ∙ ap (λ x. is_goal x (map.get goals q)) (sym (same_from g goal e))
      by g q false true e f =
          are.each g q ∙ ap (is_goal g) (ap (map.get goals) (same_from q alias f) ∙ none) ∙ sym (goal_is goal g ∙ e)
      by g q false false e f = are.each g q

  -- ---- one alias less

  pub set_taken : (alias goal : List ℕ) → map.get goals alias ≡ Some goal
      → AreSets (map.remove goals alias) (with_value sets goal (map.remove (set_at (map.get sets goal)) alias))
  set_taken alias goal stands = record {
    each = λ g q.
        ap (λ o. map.contains_key (set_at o) q) (get-with_value sets goal fewer g)
        ∙ by g q (same_key g goal) (same_key q alias) refl refl
        ∙ ap (is_goal g) (sym (get_taken goals alias q));
  }
    where
      fewer : TextSet
      fewer = map.remove (set_at (map.get sets goal)) alias

      -- without a set there was no alias
      left : (o : Option TextSet) (q : List ℕ) (c : Bool) → map.get sets goal ≡ o → same_key q alias ≡ c
          → map.contains_key (set_at (option_map (λ _. fewer) o)) q ≡ cond c false (map.contains_key (set_at o) q)
      left None q true e f = ap is_some (map.get-empty (slice_cmp nat_cmp) q)
      left None q false e f = refl
      left (Some s) q c e f =
          ap (λ x. map.contains_key (map.remove (set_at x) alias) q) e ∙ contains_taken s alias q
          ∙ ap (λ t. cond t false (map.contains_key s q)) f

      here : (q : List ℕ) (c : Bool) (b : Bool) (o : Option (List ℕ)) → b ≡ is_goal goal o → cond c false b ≡ is_goal goal (cond c None o)
      here q true b o e = refl
      here q false b o e = e

      by : (g q : List ℕ) (b c : Bool) → same_key g goal ≡ b → same_key q alias ≡ c
          → map.contains_key (set_at (cond b (option_map (λ _. fewer) (map.get sets g)) (map.get sets g))) q
          ≡ is_goal g (cond c None (map.get goals q))
      by g q true c e f =
          ap (λ x. map.contains_key (set_at (option_map (λ _. fewer) (map.get sets x))) q) (same_from g goal e)
          ∙ left (map.get sets goal) q c refl f
          ∙ here q c (map.contains_key (set_at (map.get sets goal)) q) (map.get goals q) (are.each goal q)
          ∙ ap (λ x. is_goal x (cond c None (map.get goals q))) (sym (same_from g goal e))
      by g q false true e f =
          are.each g q ∙ ap (is_goal g) (ap (map.get goals) (same_from q alias f) ∙ stands) ∙ goal_is goal g ∙ e
      by g q false false e f = are.each g q

  -- ---- the aliases of a path

  among_set : (path q : List ℕ) → among q (map.keys (set_at (map.get sets path))) ≡ is_goal path (map.get goals q)
  among_set path q = sym (map.contains_key-keys (set_at (map.get sets path)) q) ∙ are.each path q

  abbrev rest_of : List ℕ → TextMap (List ℕ)
  rest_of path = without_all goals (map.keys (set_at (map.get sets path)))

  pub goals_left : (path : List ℕ) → rest_of path ≡ without_goal goals path
  goals_left path = map.same_map nat_list_cmp_total exact_bytes _ _ (λ q.
      get-without_all goals (map.keys (set_at (map.get sets path))) q
      ∙ ap (λ b. cond b None (map.get goals q)) (among_set path q)
      ∙ by (is_goal path (map.get goals q)) (map.get goals q)
      ∙ sym (get-without_goal goals path q))
    where
      by : (b : Bool) (o : Option (List ℕ)) → cond b None o ≡ cond (not b) o None
      by true o = refl
      by false o = refl

  pub sets_left : (path : List ℕ) → AreSets (without_goal goals path) (map.remove sets path)
  sets_left path = record {
    each = λ g q.
        ap (λ o. map.contains_key (set_at o) q) (get_taken sets path g)
        ∙ by g q (same_key g path) (map.get goals q) refl refl
        ∙ ap (is_goal g) (sym (get-without_goal goals path q));
  }
    where
      kept : (g : List ℕ) (b same : Bool) (goal : List ℕ) → bytes_eq goal path ≡ b → bytes_eq goal g ≡ same → same_key g path ≡ false
          → same ≡ is_goal g (cond (not b) (Some goal) None)
      kept g true true goal e f apart =
          absurd (clash (same_key g path) (ap (λ x. same_key x path) (sym (same_from goal g (sym (bytes_eq_is goal g) ∙ f)))
          ∙ sym (bytes_eq_is goal path) ∙ e) apart)
      kept g true false goal e f apart = refl
      kept g false same goal e f apart = sym f

      none_left : (b : Bool) (o : Option (List ℕ)) → is_goal path o ≡ b → false ≡ is_goal path (cond (not b) o None)
      none_left true o e = refl
      none_left false o e = sym e

      by : (g q : List ℕ) (b : Bool) (o : Option (List ℕ)) → same_key g path ≡ b → map.get goals q ≡ o
          → map.contains_key (set_at (cond b None (map.get sets g))) q ≡ is_goal g (cond (not (is_goal path o)) o None)
      by g q true o e f =
          ap is_some (map.get-empty (slice_cmp nat_cmp) q) ∙ none_left (is_goal path o) o refl
          ∙ ap (λ x. is_goal x (cond (not (is_goal path o)) o None)) (sym (same_from g path e))
      by g q false None e f = are.each g q ∙ ap (is_goal g) f
      by g q false (Some goal) e f =
          are.each g q ∙ ap (is_goal g) f ∙ kept g (bytes_eq goal path) (bytes_eq goal g) goal refl refl e

  pub none_left_out : (path : List ℕ) → None ≡ map.get sets path → goals ≡ without_goal goals path
  none_left_out path none = ap (without_all goals) (no_keys_at (map.get sets path) none) ∙ goals_left path

  -- ---- the aliases of a path lead elsewhere

  module _ (from to : List ℕ) (apart : from ≢ to) (free : (alias : List ℕ) → map.get goals alias ≢ Some to) where
    abbrev led : TextMap (List ℕ)
    led = with_all goals (map.keys (set_at (map.get sets from))) to

    changed : (o : Option (List ℕ)) → cond (is_goal from o) (option_map (λ _. to) o) o ≡ option_map (goal_after from to) o
    changed None = refl
    changed (Some goal) = by (bytes_eq goal from)
      where
        by : (b : Bool) → cond b (Some to) (Some goal) ≡ Some (if b then to else goal)
        by true = refl
        by false = refl

    pub goals_led : led ≡ map_values (goal_after from to) goals
    goals_led = map.same_map nat_list_cmp_total exact_bytes _ _ (λ q.
        get-with_all goals (map.keys (set_at (map.get sets from))) to q
        ∙ ap (λ b. cond b (option_map (λ _. to) (map.get goals q)) (map.get goals q)) (among_set from q)
        ∙ changed (map.get goals q)
        ∙ sym (get-map_values (goal_after from to) goals q))

    -- where a goal leads after the change
    goal_to : (q : List ℕ) (o : Option (List ℕ)) → map.get goals q ≡ o → is_goal from o ≡ is_goal to (option_map (goal_after from to) o)
    goal_to q None e = refl
    goal_to q (Some goal) e = by (bytes_eq goal from) (bytes_eq goal to) refl refl
      where
        by : (b c : Bool) → bytes_eq goal from ≡ b → bytes_eq goal to ≡ c → b ≡ bytes_eq (if b then to else goal) to
        by true c f g = sym (bytes_eq_is to to ∙ same_itself to)
        by false true f g = absurd (free q (e ∙ ap Some (same_from goal to (sym (bytes_eq_is goal to) ∙ g))))
        by false false f g = sym g

    goal_from : (o : Option (List ℕ)) → false ≡ is_goal from (option_map (goal_after from to) o)
    goal_from None = refl
    goal_from (Some goal) = by (bytes_eq goal from) refl
      where
        by : (b : Bool) → bytes_eq goal from ≡ b → false ≡ bytes_eq (if b then to else goal) from
        by true f = sym (goal_is to from ∙ differ from to apart)
        by false f = sym f

    goal_other : (g : List ℕ) (o : Option (List ℕ)) → same_key g to ≡ false → same_key g from ≡ false
        → is_goal g o ≡ is_goal g (option_map (goal_after from to) o)
    goal_other g None t f = refl
    goal_other g (Some goal) t f = by (bytes_eq goal from) refl
      where
        by : (b : Bool) → bytes_eq goal from ≡ b → bytes_eq goal g ≡ bytes_eq (if b then to else goal) g
        by true e =
            ap (λ x. bytes_eq x g) (same_from goal from (sym (bytes_eq_is goal from) ∙ e)) ∙ goal_is from g ∙ f ∙ sym (goal_is to g ∙ t)
        by false e = refl

    -- the set of each goal, once that of the old path stands under the new one
    abbrev set_led : Option TextSet → List ℕ → Option TextSet
    set_led old g = cond (same_key g to) old (cond (same_key g from) None (map.get sets g))

    each_led : (new : TextMap TextSet) → ((g : List ℕ) → set_at (map.get new g) ≡ set_at (set_led (map.get sets from) g))
        → AreSets (map_values (goal_after from to) goals) new
    each_led new is = record {
      each = λ g q.
          ap (λ s. map.contains_key s q) (is g)
          ∙ by g q (same_key g to) (same_key g from) refl refl
          ∙ ap (is_goal g) (sym (get-map_values (goal_after from to) goals q));
    }
      where
        by : (g q : List ℕ) (b c : Bool) → same_key g to ≡ b → same_key g from ≡ c
            → map.contains_key (set_at (cond b (map.get sets from) (cond c None (map.get sets g)))) q
            ≡ is_goal g (option_map (goal_after from to) (map.get goals q))
        by g q true c e f =
            are.each from q ∙ goal_to q (map.get goals q) refl
            ∙ ap (λ x. is_goal x (option_map (goal_after from to) (map.get goals q))) (sym (same_from g to e))
        by g q false true e f =
            ap is_some (map.get-empty (slice_cmp nat_cmp) q) ∙ goal_from (map.get goals q)
            ∙ ap (λ x. is_goal x (option_map (goal_after from to) (map.get goals q))) (sym (same_from g from f))
        by g q false false e f = are.each g q ∙ goal_other g (map.get goals q) e f

    -- the room under the new path, and the set that is taken into it
    abbrev roomy : TextMap TextSet
    roomy = map.insert sets to map.empty

    pub taken_is : map.get roomy from ≡ map.get sets from
    taken_is = get_set sets to map.empty from ∙ ap (λ b. cond b (Some map.empty) (map.get sets from)) (differ from to apart)

    pub sets_led : (old : TextSet) → Some old ≡ map.get roomy from
        → AreSets (map_values (goal_after from to) goals) (with_value (map.remove roomy from) to old)
    sets_led old there = each_led (with_value (map.remove roomy from) to old) (λ g.
        ap set_at (get-with_value (map.remove roomy from) to old g
        ∙ ap (λ o. cond (same_key g to) (option_map (λ _. old) o) o) (get_taken roomy from g
        ∙ ap (cond (same_key g from) None) (get_set sets to map.empty g))
        ∙ by g (same_key g to) (same_key g from) refl refl))
      where
        by : (g : List ℕ) (b c : Bool) → same_key g to ≡ b → same_key g from ≡ c
            → cond b (option_map (λ _. old) (cond c None (cond b (Some map.empty) (map.get sets g))))
            (cond c None (cond b (Some map.empty) (map.get sets g)))
            ≡ cond b (map.get sets from) (cond c None (map.get sets g))
        by g true true e f = absurd (apart (sym (same_from g from f) ∙ same_from g to e))
        by g true false e f = there ∙ taken_is
        by g false c e f = refl

    pub none_led : None ≡ map.get roomy from → AreSets (map_values (goal_after from to) goals) (map.remove roomy from)
    none_led none = each_led (map.remove roomy from) (λ g.
        ap set_at (get_taken roomy from g ∙ ap (cond (same_key g from) None) (get_set sets to map.empty g))
        ∙ by g (same_key g to) (same_key g from) refl refl)
      where
        by : (g : List ℕ) (b c : Bool) → same_key g to ≡ b → same_key g from ≡ c
            → set_at (cond c None (cond b (Some map.empty) (map.get sets g)))
            ≡ set_at (cond b (map.get sets from) (cond c None (map.get sets g)))
        by g true true e f = absurd (apart (sym (same_from g from f) ∙ same_from g to e))
        by g true false e f = ap set_at (none ∙ taken_is)
        by g false c e f = refl

    pub goals_stay : None ≡ map.get roomy from → goals ≡ map_values (goal_after from to) goals
    goals_stay none = ap (λ s. with_all goals s to) (sym (ap (λ o. map.keys (set_at o)) (sym (none ∙ taken_is)) ∙ no_keys (Unit {0})))
        ∙ goals_led

  -- ---- the names of a page

  aliases_found : (path : List ℕ) → map.keys (set_at (map.get sets path)) ≡ aliases_of goals path
  aliases_found path = same_keys (map.keys (set_at (map.get sets path))) (aliases_of goals path)
      (is_sorted_keys (slice_cmp nat_cmp) (map.entries (set_at (map.get sets path))) (map.entries_sorted (set_at (map.get sets path))))
      (some_in_order (slice_cmp nat_cmp) (λ entry. bytes_eq entry.1 path) (map.entries goals)
      (is_sorted_keys (slice_cmp nat_cmp) (map.entries goals) (map.entries_sorted goals)))
      (λ q. among_set path q ∙ sym (alias_leads goals path q) ∙ by_bytes q (aliases_of goals path))

  pub names_kept : (path : List ℕ) (kept : TextSet) → Some kept ≡ map.get sets path → path ∷ map.keys kept ≡ path ∷ aliases_of goals path
  names_kept path kept there = ap (λ names. path ∷ names) (ap (λ o. map.keys (set_at o)) there ∙ aliases_found path)

  pub no_names : (path : List ℕ) → None ≡ map.get sets path → [] ≡ aliases_of goals path
  no_names path none = sym (no_keys (Unit {0})) ∙ ap (λ o. map.keys (set_at o)) none ∙ aliases_found path

-- ---- a move, step by step

module _ (goals : TextMap (List ℕ)) (from to : List ℕ) (named : map.get goals from ≡ None) (apart : from ≢ to) where
  abbrev ready : TextMap (List ℕ)
  ready = map.insert goals from from

  pub still_free : ((alias : List ℕ) → map.get goals alias ≢ Some to) → (alias : List ℕ) → map.get ready alias ≢ Some to
  still_free free alias e = by (same_key alias from) (sym (get_set goals from from alias) ∙ e)
    where
      by : (b : Bool) → cond b (Some from) (map.get goals alias) ≡ Some to → ⊥
      by true e = apart (same_Some from to e)
      by false e = free alias e

  pub followed : map.remove (map_values (goal_after from to) ready) to ≡ aliases_after goals from to
  followed = map.same_map nat_list_cmp_total exact_bytes _ _ (λ q.
      get_taken (map_values (goal_after from to) ready) to q
      ∙ ap (cond (same_key q to) None) (get-map_values (goal_after from to) ready q
      ∙ ap (option_map (goal_after from to)) (get_set goals from from q))
      ∙ by q (same_key q from) (same_key q to) refl refl
      ∙ sym (get-aliases_after goals from to q))
    where
      itself : goal_after from to from ≡ to
      itself = ap (λ b. if b then to else from) (bytes_eq_is from from ∙ same_itself from)

      by : (q : List ℕ) (f t : Bool) → same_key q from ≡ f → same_key q to ≡ t
          → cond t None (option_map (goal_after from to) (cond f (Some from) (map.get goals q)))
          ≡ cond f (Some to) (option_map (goal_after from to) (cond t None (map.get goals q)))
      by q true true e g = absurd (apart (sym (same_from q from e) ∙ same_from q to g))
      by q true false e g = ap Some itself
      by q false true e g = refl
      by q false false e g = refl
