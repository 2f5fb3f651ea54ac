-- Steps of the collection of groups.
use Rattle.std.proofs.Common.{◌≡◌, ℕ, ◌<◌, ◌≤◌, ◌+◌, List, [], ◌∷◌, ◌++◌, length, map, take, drop, get_or, Bool, true, false, Less, Equal}
use Rattle.std.proofs.Common.{Greater, Ordering, refl, sym, ap, ◌∙◌, ◌==◌, arith}
use Rattle.std.specs.Prelude.{Ok, Err, nat_lt, if◌then◌else◌}
use Rattle.std.specs.Cmp.Lexicographic.{slice_cmp}
use Rattle.std.specs.List.{list_all}
use Rattle.std.specs.Ordering.{nat_cmp}
use Rattle.std.proofs.lemmas.Bool.Decides.{nat_tests}
use Rattle.std.proofs.lemmas.List.{drop_more, length-map, map-append, take-append-drop}
use Rattle.doc_store_readers.specs.declared.groups.GroupsError.TheVariants.{TooMany}
use Rattle.doc_store_readers.specs.Groups.{is_group, with_name, with_names, groups_of, groups_of_names, group_limit, parts_of}

-- the place of a name
module _ {A : Type 0} (f : A → List ℕ) (name : List ℕ) (xs : List A) (i : ℕ) (d : A) (here : i < length xs)
    (before : with_name name (map f xs) ≡ map f (take i xs) ++ with_name name (map f (drop i xs))) where
  pub place_found : slice_cmp nat_cmp name (f (get_or xs i d)) ≡ Equal → with_name name (map f xs) ≡ map f xs
  place_found same =
      before ∙ ap (λ ys. map f (take i xs) ++ with_name name (map f ys)) (drop_more xs i d here)
      ∙ rw same (sym (map-append f (take i xs) (get_or xs i d ∷ drop (i + 1) xs))
      ∙ ap (λ ys. map f (take i xs ++ ys)) (sym (drop_more xs i d here)) ∙ ap (map f) (take-append-drop i xs))

  pub place_before : slice_cmp nat_cmp name (f (get_or xs i d)) ≡ Less
      → with_name name (map f xs) ≡ map f (take i xs) ++ name ∷ map f (drop i xs)
  place_before less =
      before ∙ ap (λ ys. map f (take i xs) ++ with_name name (map f ys)) (drop_more xs i d here)
      ∙ rw less (ap (λ ys. map f (take i xs) ++ name ∷ map f ys) (sym (drop_more xs i d here)))

-- a name more makes no list shorter
longer_by : (name first : List ℕ) (rest : List (List ℕ)) (order : Ordering) → slice_cmp nat_cmp name first ≡ order
    → length rest ≤ length (with_name name rest)
    → length (first ∷ rest) ≤ length (with_name name (first ∷ rest))
longer_by name first rest Less e below = rw e (omega arith)
longer_by name first rest Equal e below = rw e (omega arith)
longer_by name first rest Greater e below = rw e (omega arith)

length-with_name : (name : List ℕ) (names : List (List ℕ)) → length names ≤ length (with_name name names)
length-with_name name [] = omega arith
length-with_name name (first ∷ rest) = longer_by name first rest (slice_cmp nat_cmp name first) refl (length-with_name name rest)

length-with_names : (before names : List (List ℕ)) → length before ≤ length (with_names before names)
length-with_names before [] = omega arith
length-with_names before (name ∷ names) = omega (arith, length-with_name name before, length-with_names (with_name name before) names)

-- what `groups_of_names` gives, by its tests
all_good : (names different : List (List ℕ)) → list_all is_group names ≡ true → with_names [] names ≡ different
    → groups_of_names names ≡ (if nat_lt group_limit (length different) then Err TooMany else Ok different)
unfolding groups_of_names
all_good names different good e = rw (good, e) refl

-- all names were added
pub all_added : (names found : List (List ℕ)) → list_all is_group names ≡ true → with_names [] names ≡ found → length found ≤ group_limit
    → groups_of_names names ≡ Ok found
all_added names found good same small = all_good names found good same ∙ within (nat_lt group_limit (length found)) refl
  where
    within : (b : Bool) → nat_lt group_limit (length found) ≡ b → (if b then Err TooMany else Ok found) ≡ Ok found
    within true e = absurd (grind (arith, nat_tests))
    within false e = refl

-- a name was refused, among the first of some names
pub not_added : (names found rest : List (List ℕ)) (name : List ℕ) → list_all is_group names ≡ true
    → with_names [] names ≡ with_names found (name ∷ rest)
    → group_limit < length (with_name name found) → groups_of_names names ≡ Err TooMany
not_added names found rest name good same more =
    all_good names (with_names found (name ∷ rest)) good same ∙ too_many (nat_lt group_limit (length (with_names found (name ∷ rest)))) refl
  where
    too_many : (b : Bool) → nat_lt group_limit (length (with_names found (name ∷ rest))) ≡ b
        → (if b then Err TooMany else Ok (with_names found (name ∷ rest))) ≡ Err TooMany
    too_many true e = refl
    too_many false e = absurd (let h = length-with_names (with_name name found) rest in grind (arith, nat_tests))

-- the names of a text that is not empty
pub of_text : (text : List ℕ) → (length text == 0) ≡ false → groups_of text ≡ groups_of_names (parts_of text)
of_text text full = rw full refl

-- names that a slice has
pub length-shown : {A : Type 0} (f : A → List ℕ) (xs ys : List A) → ys ≡ xs → length ys ≤ group_limit → length (map f xs) ≤ group_limit
length-shown f xs ys same small = omega (arith, length-map xs f, ap length same)
