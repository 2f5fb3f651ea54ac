-- The different names of a list are the keys of a finite set: so they are its names, and equal sets have equal lists.
use Rattle.std.proofs.Common.{◌≡◌, ℕ, List, [], ◌∷◌, map as mapped, Bool, true, false, ◌||◌, ◌++◌, cond, bytes_eq, Less, Equal, Greater}
use Rattle.std.proofs.Common.{is_some, refl, sym, ap, ◌∙◌}
use Rattle.std.specs.Prelude.{Option, Some, None}
use Rattle.std.specs.Cmp.Lexicographic.{slice_cmp}
use Rattle.std.specs.FinMap as map
use Rattle.std.specs.FinMap.Entries.{by_order}
use Rattle.std.specs.List.{list_any, AllByRecursion}
use Rattle.std.specs.List.Sorted.{IsStrictlySortedBy}
use Rattle.std.specs.Ordering.{nat_cmp, eq_by_cmp, match_ordering, ordering_reverse}
use Rattle.std.proofs.lemmas.Cmp.{nat_list_cmp_total}
use Rattle.std.proofs.lemmas.List.{append-nil, append_assoc}
use Rattle.std.proofs.lemmas.Map.Lookups.{exact_bytes}
use Rattle.std.proofs.lemmas.Map.Text.{is_eq-slice_cmp}
use Rattle.doc_store_readers.specs.Groups.{with_name, with_names, different_names}
use Rattle.doc_store_readers.proofs.SortedSteps.{IsBelow}
use Rattle.doc_store_readers.specs.Laws.{SameNames, EqualSets, SameGroups}

abbrev Names : Type 0
Names = map.FinMap (slice_cmp nat_cmp) (Unit {0})

abbrev key : List ℕ × Unit {0} → List ℕ
key entry = entry.0

-- a name in its place is a key in its place
keys_put : (name : List ℕ) (entries : List (List ℕ × Unit {0}))
    → mapped key (map.put (slice_cmp nat_cmp) name tt entries) ≡ with_name name (mapped key entries)
keys_put name [] = refl
keys_put name (e ∷ es) =
    elim (slice_cmp nat_cmp name e.0) as (λ order. mapped key
    (by_order order ((name, tt) ∷ e ∷ es) ((e.0, tt) ∷ es) (e ∷ map.put (slice_cmp nat_cmp) name tt es))
    ≡ match_ordering order (name ∷ e.0 ∷ mapped key es) (e.0 ∷ mapped key es) (e.0 ∷ with_name name (mapped key es))) [
      | Less ↦ refl
      | Equal ↦ refl
      | Greater ↦ ap (λ names. e.0 ∷ names) (keys_put name es)
    ]

-- all of these names beside those of a set
abbrev all : Names → List (List ℕ) → Names
all set [] = set
all set (name ∷ names) = all (map.insert set name tt) names

keys_all : (set : Names) (names : List (List ℕ)) → with_names (map.keys set) names ≡ map.keys (all set names)
keys_all set [] = refl
keys_all set (name ∷ names) =
    ap (λ before. with_names before names) (sym (ap (mapped key) (map.entries-insert nat_list_cmp_total set name tt)
    ∙ keys_put name (map.entries set)))
    ∙ keys_all (map.insert set name tt) names

either : (a b : Bool) (other : Option (Unit {0})) → cond b (Some tt) (cond a (Some tt) other) ≡ cond (a || b) (Some tt) other
either true true other = refl
either true false other = refl
either false b other = refl

get_all : (set : Names) (names : List (List ℕ)) (q : List ℕ)
    → map.get (all set names) q ≡ cond (list_any (eq_by_cmp (slice_cmp nat_cmp) q) names) (Some tt) (map.get set q)
get_all set [] q = refl
get_all set (name ∷ names) q =
    get_all (map.insert set name tt) names q
    ∙ ap (cond (list_any (eq_by_cmp (slice_cmp nat_cmp) q) names) (Some tt)) (map.get-insert nat_list_cmp_total set name tt q)
    ∙ either (eq_by_cmp (slice_cmp nat_cmp) q name) (list_any (eq_by_cmp (slice_cmp nat_cmp) q) names) (map.get set q)

-- the two ways to compare names
any_same : (q : List ℕ) (names : List (List ℕ)) → list_any (eq_by_cmp (slice_cmp nat_cmp) q) names ≡ list_any (bytes_eq q) names
any_same q [] = refl
any_same q (name ∷ names) = λ i. is_eq-slice_cmp q name i || any_same q names i

start : Names
start = map.from_sorted []

keys_start : map.keys start ≡ []
unfolding start
keys_start = ap (mapped key) (map.entries-from_sorted (slice_cmp nat_cmp) [] tt)

different_keys : (names : List (List ℕ)) → different_names names ≡ map.keys (all start names)
different_keys names = ap (λ before. with_names before names) (sym keys_start) ∙ keys_all start names

found : (b : Bool) → is_some (cond b (Some (tt {0})) None) ≡ b
found true = refl
found false = refl

pub same_names : SameNames
unfolding start
same_names names name =
    ap (list_any (bytes_eq name)) (different_keys names)
    ∙ sym (any_same name (map.keys (all start names)))
    ∙ sym (map.contains_key-keys (all start names) name)
    ∙ ap is_some (get_all start names name ∙ ap (cond (list_any (eq_by_cmp (slice_cmp nat_cmp) name) names) (Some tt))
    (map.get-from_sorted (slice_cmp nat_cmp) [] name tt))
    ∙ found (list_any (eq_by_cmp (slice_cmp nat_cmp) name) names)
    ∙ any_same name names

pub equal_sets : EqualSets
equal_sets names others same =
    different_keys names
    ∙ ap map.keys (map.same_map nat_list_cmp_total exact_bytes (all start names) (all start others) (λ q.
    get_all start names q
    ∙ ap (λ b. cond b (Some tt) (map.get start q)) (any_same q names ∙ same q ∙ sym (any_same q others))
    ∙ sym (get_all start others q)))
    ∙ sym (different_keys others)

-- ---- names in order stay as they are

-- each of these names is below each of those
abbrev AreBelow : List (List ℕ) → List (List ℕ) → Type 0
AreBelow before names = AllByRecursion (λ name. IsBelow name names) before

put_last : (name : List ℕ) (before rest : List (List ℕ)) → AreBelow before (name ∷ rest) → with_name name before ≡ before ++ name ∷ []
put_last name [] rest below = refl
put_last name (first ∷ before) rest below =
    let more : slice_cmp nat_cmp name first ≡ Greater = nat_list_cmp_total.antisymm name first ∙ ap ordering_reverse below.0.0 in
    rw more (ap (λ names. first ∷ names) (put_last name before rest below.1))

one_more_below : (name : List ℕ) (before rest : List (List ℕ)) → AreBelow before (name ∷ rest) → IsBelow name rest
    → AreBelow (before ++ name ∷ []) rest
one_more_below name [] rest below all = (all, tt)
one_more_below name (first ∷ before) rest below all = (below.0.1, one_more_below name before rest below.1 all)

put_in_order : (before names : List (List ℕ)) → AreBelow before names → IsStrictlySortedBy (slice_cmp nat_cmp) names
    → with_names before names ≡ before ++ names
unfolding IsStrictlySortedBy
put_in_order before [] below sorted = sym (append-nil before)
put_in_order before (name ∷ names) below sorted =
    ap (λ found. with_names found names) (put_last name before names below)
    ∙ put_in_order (before ++ name ∷ []) names (one_more_below name before names below sorted.0) sorted.1
    ∙ append_assoc before (name ∷ []) names

sorted_stays : (names : List (List ℕ)) → IsStrictlySortedBy (slice_cmp nat_cmp) names → different_names names ≡ names
sorted_stays names sorted = put_in_order [] names tt sorted

pub same_groups : SameGroups
same_groups names others ours theirs same = sym (sorted_stays names ours.sorted) ∙ equal_sets names others same
    ∙ sorted_stays others theirs.sorted
