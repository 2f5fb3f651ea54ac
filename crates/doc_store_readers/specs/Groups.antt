-- Groups of readers. All of this is this project's choice.
use Rattle.std.specs.Prelude.{◌≡◌, ◌≤◌, true, ℕ, List, [], ◌∷◌, length, map, Bool, not, ◌&&◌, ◌||◌, ◌==◌, nat_le, nat_lt, bytes_eq, Result}
use Rattle.std.specs.Prelude.{Ok, Err, if◌then◌else◌}
use Rattle.std.specs.Borrow.{Bor}
use Rattle.std.specs.Char.{is_ascii_digit, is_ascii_lowercase}
use Rattle.std.specs.Cmp.Lexicographic.{slice_cmp}
use Rattle.std.specs.List.{slice_split, list_all, list_any}
use Rattle.std.specs.List.Sorted.{IsStrictlySortedBy}
use Rattle.std.specs.Ordering.{nat_cmp, match_ordering}
use Rattle.doc_store_readers.specs.declared.groups.GroupsError.{GroupsError}
use Rattle.doc_store_readers.specs.declared.groups.GroupsError.TheVariants.{BadGroup, TooMany}

-- the bytes of borrowed texts
abbrev pub texts_of : List (Bor (List ℕ)) → List (List ℕ)
texts_of texts = map (λ text. text.now) texts

-- a lower case ASCII letter, a digit or `-`
abbrev pub is_group_byte : ℕ → Bool
is_group_byte b = is_ascii_lowercase b || is_ascii_digit b || b == 45

-- 1 to 32 bytes
abbrev pub has_good_length : List ℕ → Bool
has_good_length name = not (length name == 0) && nat_le (length name) 32

-- the name of a group: 1 to 32 such bytes
abbrev pub is_group : List ℕ → Bool
is_group name = has_good_length name && list_all is_group_byte name

-- one name more, in its place by the order of bytes; a name that stands already is not repeated
abbrev pub with_name : List ℕ → List (List ℕ) → List (List ℕ)
with_name name [] = name ∷ []
with_name name (first ∷ rest) = match_ordering (slice_cmp nat_cmp name first) (name ∷ first ∷ rest) (first ∷ rest)
    (first ∷ with_name name rest)

-- all of these names beside those that stand
abbrev pub with_names : List (List ℕ) → List (List ℕ) → List (List ℕ)
with_names before [] = before
with_names before (name ∷ names) = with_names (with_name name before) names

-- the different ones of these names, in the order of bytes: equal sets of names are equal lists
abbrev pub different_names : List (List ℕ) → List (List ℕ)
different_names names = with_names [] names

-- how many different names one may have
abbrev pub group_limit : ℕ
group_limit = 32

-- what every set of groups is: names of groups in the order of bytes, no two the same, 32 at most
pub record IsGroups (names : List (List ℕ)) : Type 0 where
  pub sorted : IsStrictlySortedBy (slice_cmp nat_cmp) names
  pub good : list_all is_group names ≡ true
  pub few : length names ≤ group_limit

-- the groups of these names, or the first refusal: a name that is none, too many different names
unfoldable pub groups_of_names : List (List ℕ) → Result (List (List ℕ)) GroupsError
groups_of_names names =
    if not (list_all is_group names) then Err BadGroup
    else (if nat_lt group_limit (length (different_names names)) then Err TooMany else Ok (different_names names))

-- the parts of a text between its commas
abbrev pub parts_of : List ℕ → List (List ℕ)
parts_of text = slice_split (λ b. b == 44) text

-- the names that a text joins by commas; the empty text has none
abbrev pub names_in_text : List ℕ → List (List ℕ)
names_in_text text = if length text == 0 then [] else parts_of text

-- the groups that a text names
abbrev pub groups_of : List ℕ → Result (List (List ℕ)) GroupsError
groups_of text = groups_of_names (names_in_text text)

-- the two have a name in common
abbrev pub meet : List (List ℕ) → List (List ℕ) → Bool
meet ours theirs = list_any (λ name. list_any (λ other. bytes_eq other name) theirs) ours
