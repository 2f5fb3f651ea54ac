-- The groups that a line names are those that it was written of.
use Rattle.std.proofs.Common.{◌≡◌, ℕ, ◌<◌, ◌≤◌, ◌==◌, List, [], ◌∷◌, ◌++◌, length, Bool, true, false, cond, codes, bytes_eq, Greater}
use Rattle.std.proofs.Common.{refl, ap, sym, ◌∙◌, arith, inl, inr}
use Rattle.std.specs.Prelude.{Some, Ok, nat_lt}
use Rattle.std.specs.Cmp.Lexicographic.{slice_cmp}
use Rattle.std.specs.List.{list_all, onto_first, slice_split, AllByRecursion}
use Rattle.std.specs.List.Sorted.{IsStrictlySortedBy}
use Rattle.std.specs.Ordering.{nat_cmp, ordering_reverse}
use Rattle.std.specs.Result.{result_ok}
use Rattle.std.proofs.lemmas.Bool.{cases_Bool, and_from}
use Rattle.std.proofs.lemmas.Bool.Decides.{nat_tests}
use Rattle.std.proofs.lemmas.Cmp.{nat_list_cmp_total}
use Rattle.std.proofs.lemmas.List.{append-nil, append_assoc, length-append}
use Rattle.std.proofs.lemmas.List.Splits.{slice_split-cons_yes, slice_split-cons_no}
use Rattle.doc_page_parts.proofs.Bools.{and_first, and_second}
use Rattle.doc_store_readers.specs.Groups.{IsGroups, is_group, is_group_byte, has_good_length, different_names, groups_of, groups_of_names, parts_of, with_name, with_names}
use Rattle.doc_store_readers.proofs.GroupSteps.{of_text}
use Rattle.doc_store_readers.proofs.SortedSteps.{IsBelow}
use Rattle.doc_server_script.specs.Edits.{behind_commas, groups_text}
use Rattle.doc_server_script.specs.Escapes.{is_printable}
use Rattle.doc_server_script.specs.Fields.{groups_in}
use Rattle.doc_server_script.proofs.CutLaws.{is_no_space, all_append}

-- ---- names in order stay as they are

abbrev AreBelow : List (List ℕ) → List (List ℕ) → Type 0
AreBelow before names = AllByRecursion (λ name. IsBelow name names) before

put_last : (name : List ℕ) (before rest : List (List ℕ)) → AreBelow before (name ∷ rest) → with_name name before ≡ before ++ name ∷ []
put_last name [] rest below = refl
put_last name (first ∷ before) rest below =
    let more : slice_cmp nat_cmp name first ≡ Greater = nat_list_cmp_total.antisymm name first ∙ ap ordering_reverse below.0.0 in
    rw more (ap (λ names. first ∷ names) (put_last name before rest below.1))

one_more_below : (name : List ℕ) (before rest : List (List ℕ)) → AreBelow before (name ∷ rest) → IsBelow name rest
    → AreBelow (before ++ name ∷ []) rest
one_more_below name [] rest below all = (all, tt)
one_more_below name (first ∷ before) rest below all = (below.0.1, one_more_below name before rest below.1 all)

put_in_order : (before names : List (List ℕ)) → AreBelow before names → IsStrictlySortedBy (slice_cmp nat_cmp) names
    → with_names before names ≡ before ++ names
unfolding IsStrictlySortedBy
put_in_order before [] below sorted = sym (append-nil before)
put_in_order before (name ∷ names) below sorted =
    ap (λ found. with_names found names) (put_last name before names below)
    ∙ put_in_order (before ++ name ∷ []) names (one_more_below name before names below sorted.0) sorted.1
    ∙ append_assoc before (name ∷ []) names

pub names_stay : (names : List (List ℕ)) → IsGroups names → groups_of_names names ≡ Ok names
unfolding groups_of_names
names_stay names is =
    let same : different_names names ≡ names = put_in_order [] names tt is.sorted in
    let few : nat_lt 32 (length names) ≡ false = fits (length names) is.few in
    rw (is.good, same, few) refl
  where
    fits : (n : ℕ) → n ≤ 32 → nat_lt 32 n ≡ false
    fits n small = grind (arith, nat_tests)

-- ---- names between commas

abbrev is_comma : ℕ → Bool
is_comma b = b == 44

-- what the bytes of a name are not
no_comma : (b : ℕ) → is_group_byte b ≡ true → is_comma b ≡ false
no_comma b is = elim (cases_Bool (b == 44)) [
  | inl e ↦ let same : b ≡ 44 = grind (arith, nat_tests) in let other : is_group_byte 44 ≡ true = sym (ap is_group_byte same)
      ∙ is in absurd (cc)
  | inr e ↦ e
]

split_name : (name rest first : List ℕ) (parts : List (List ℕ)) → list_all is_group_byte name ≡ true
    → slice_split is_comma rest ≡ first ∷ parts → slice_split is_comma (name ++ rest) ≡ (name ++ first) ∷ parts
split_name [] rest first parts bytes is = is
split_name (b ∷ name) rest first parts bytes is =
    slice_split-cons_no is_comma b (name ++ rest) (no_comma b (and_first _ _ bytes))
    ∙ ap (onto_first b) (split_name name rest first parts (and_second _ _ bytes) is)

name_bytes : (name : List ℕ) → is_group name ≡ true → list_all is_group_byte name ≡ true
name_bytes name is = and_second (has_good_length name) (list_all is_group_byte name) is

pub parts_back : (name : List ℕ) (names : List (List ℕ)) → list_all is_group (name ∷ names) ≡ true
    → parts_of (name ++ behind_commas names) ≡ name ∷ names
parts_back name [] all =
    split_name name [] [] [] (name_bytes name (and_first _ _ all)) refl ∙ ap (λ n. n ∷ []) (append-nil name)
parts_back name (next ∷ names) all =
    split_name name (44 ∷ (next ++ behind_commas names)) [] (next ∷ names) (name_bytes name (and_first _ _ all))
    (slice_split-cons_yes is_comma 44 (next ++ behind_commas names) refl
    ∙ ap (λ parts. [] ∷ parts) (parts_back next names (and_second _ _ all)))
    ∙ ap (λ n. n ∷ next ∷ names) (append-nil name)

-- ---- the text of groups

is_dash : (name : List ℕ) → bytes_eq name (codes "-") ≡ true → name ≡ codes "-"
is_dash [] is = absurd (cc)
is_dash (b ∷ []) is = let same : b ≡ 45 = grind (arith, nat_tests) in ap (λ x. x ∷ []) same
is_dash (b ∷ c ∷ name) is = absurd (grind (arith, nat_tests))

some_bytes : (name : List ℕ) → is_group name ≡ true → 0 < length name
some_bytes [] is = absurd (cc)
some_bytes (b ∷ name) is = omega arith

-- names that are joined as no `-`
joined_back : (name : List ℕ) (names : List (List ℕ)) → IsGroups (name ∷ names)
    → bytes_eq (name ++ behind_commas names) (codes "-") ≡ false → groups_in (name ++ behind_commas names) ≡ Some (name ∷ names)
joined_back name names is other =
    let text = name ++ behind_commas names in
    let long : 0 < length text = omega (arith, length-append name (behind_commas names), some_bytes name (and_first _ _ is.good)) in
    let filled : (length text == 0) ≡ false = grind (arith, nat_tests) in
    ap (λ t. cond t (Some []) (result_ok (groups_of text))) other
    ∙ ap result_ok (of_text text filled ∙ ap groups_of_names (parts_back name names is.good) ∙ names_stay (name ∷ names) is)

dash_back : groups_in (codes "-,-") ≡ Some (codes "-" ∷ [])
unfolding groups_of_names
dash_back = refl

one_back : (name : List ℕ) → IsGroups (name ∷ []) → groups_in (groups_text (name ∷ [])) ≡ Some (name ∷ [])
one_back name is =
    elim (cases_Bool (bytes_eq name (codes "-"))) [
      | inl dash ↦
          ap (λ t. groups_in (cond t (codes "-,-") name)) dash ∙ dash_back ∙ ap (λ n. Some (n ∷ [])) (sym (is_dash name dash))
      | inr other ↦
          ap (λ t. groups_in (cond t (codes "-,-") name)) other
          ∙ ap groups_in (sym (append-nil name))
          ∙ joined_back name [] is (ap (λ n. bytes_eq n (codes "-")) (append-nil name) ∙ other)
    ]

not_dash : (name more : List ℕ) → 0 < length name → bytes_eq (name ++ 44 ∷ more) (codes "-") ≡ false
not_dash name more long =
    elim (cases_Bool (bytes_eq (name ++ 44 ∷ more) (codes "-"))) [
      | inl is ↦ absurd (omega (arith, length-append name (44 ∷ more), ap length (is_dash (name ++ 44 ∷ more) is)))
      | inr other ↦ other
    ]

pub groups_back : (groups : List (List ℕ)) → IsGroups groups → groups_in (groups_text groups) ≡ Some groups
groups_back [] is = refl
groups_back (name ∷ []) is = one_back name is
groups_back (name ∷ other ∷ names) is = joined_back name (other ∷ names) is
    (not_dash name (other ++ behind_commas names) (some_bytes name (and_first _ _ is.good)))

-- ---- its bytes

-- what holds of the bytes of names and of commas
module _ (p : ℕ → Bool) (of_name : (b : ℕ) → is_group_byte b ≡ true → p b ≡ true) (comma : p 44 ≡ true) where
  all_of_name : (name : List ℕ) → list_all is_group_byte name ≡ true → list_all p name ≡ true
  all_of_name [] bytes = refl
  all_of_name (b ∷ name) bytes = and_from _ _ (of_name b (and_first _ _ bytes)) (all_of_name name (and_second _ _ bytes))

  all_of_names : (names : List (List ℕ)) → list_all is_group names ≡ true → list_all p (behind_commas names) ≡ true
  all_of_names [] all = refl
  all_of_names (name ∷ names) all =
      and_from _ _ comma (all_append p name (behind_commas names) (all_of_name name (name_bytes name (and_first _ _ all)))
      (all_of_names names (and_second _ _ all)))

  all_of_text : (groups : List (List ℕ)) → list_all is_group groups ≡ true → list_all p (codes "-,-") ≡ true
      → list_all p (groups_text groups) ≡ true
  all_of_text [] all dashes = and_from _ _ (and_first _ _ dashes) refl
  all_of_text (name ∷ []) all dashes =
      elim (cases_Bool (bytes_eq name (codes "-"))) [
        | inl is ↦ ap (λ t. list_all p (cond t (codes "-,-") name)) is ∙ dashes
        | inr other ↦ ap (λ t. list_all p (cond t (codes "-,-") name)) other ∙ all_of_name name (name_bytes name (and_first _ _ all))
      ]
  all_of_text (name ∷ other ∷ names) all dashes =
      all_append p name (behind_commas (other ∷ names)) (all_of_name name (name_bytes name (and_first _ _ all)))
      (all_of_names (other ∷ names) (and_second _ _ all))

pub groups_no_space : (groups : List (List ℕ)) → IsGroups groups → list_all is_no_space (groups_text groups) ≡ true
groups_no_space groups is = all_of_text is_no_space of_name refl groups is.good refl
  where
    of_name : (b : ℕ) → is_group_byte b ≡ true → is_no_space b ≡ true
    of_name b good = grind (arith, nat_tests)

pub groups_print : (groups : List (List ℕ)) → IsGroups groups → list_all is_printable (groups_text groups) ≡ true
groups_print groups is = all_of_text is_printable of_name refl groups is.good refl
  where
    of_name : (b : ℕ) → is_group_byte b ≡ true → is_printable b ≡ true
    of_name b good = grind (arith, nat_tests)
