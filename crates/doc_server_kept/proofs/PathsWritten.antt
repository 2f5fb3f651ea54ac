-- What a request writes: paths and groups as calls take them.
use Rattle.std.proofs.Common.{◌≡◌, ◌≤◌, ℕ, List, [], ◌∷◌, Bool, true, false, IsUtf8, length, map, refl, arith}
use Rattle.std.specs.Prelude.{not, ◌&&◌, nat_lt, Option, Some, None, IfSome, IfOk, Result, Ok, Err, option_and_then, option_map}
use Rattle.std.specs.Prelude.{bytes_eq, if◌then◌else◌}
use Rattle.std.specs.List.{list_all, join_with_byte, AllByRecursion}
use Rattle.std.specs.Str.{is_utf8}
use Rattle.std.proofs.lemmas.Bool.Decides.{nat_tests}
use Rattle.std.proofs.lemmas.Str.{IsUtf8-from_is_utf8}
use Rattle.percent_encoding.specs.Percent.{percent_decode}
use Rattle.doc_page_parts.specs.Paths.{is_path, path_of, segments}
use Rattle.doc_page_parts.specs.declared.path.PathError.{PathError}
use Rattle.doc_page_parts.specs.declared.path.PathError.TheVariants.{BadPath}
use Rattle.doc_resolve.specs.WrittenPaths.{all_of, holds_slash, if_path, segment_of, with_index, path_written as path_of_segments}
use Rattle.doc_http_targets.specs.Queries.{first_value, optional_parameter, query_of, value_of}
use Rattle.doc_http_targets.specs.Queries.{text_of as text_of_encoded}
use Rattle.doc_http_targets.specs.WrittenPaths.{path_written}
use Rattle.form_urlencoded.specs.Form.{raw_pairs, decode}
use Rattle.doc_store_readers.specs.Groups.{IsGroups, different_names, group_limit, groups_of, groups_of_names, is_group, names_in_text}
use Rattle.doc_store_readers.specs.declared.groups.GroupsError.{GroupsError}
use Rattle.doc_store_readers.specs.declared.groups.GroupsError.TheVariants.{BadGroup, TooMany}
use Rattle.doc_store_readers.proofs.SortedSteps.{collected}
use Rattle.doc_server_script.specs.Laws.{IsPathText}
use Rattle.doc_server_kept.proofs.TextSteps.{joined_utf8, lossy_utf8, text_of}

-- ---- the path of a target

abbrev pub IsPath : Option (List ℕ) → Type 0
IsPath path = IfSome path IsPathText

abbrev AllUtf8 : Option (List (List ℕ)) → Type 0
AllUtf8 texts = IfSome texts (AllByRecursion IsUtf8)

segment_by : (segment : List ℕ) (utf8 plain : Bool) → is_utf8 segment ≡ utf8
    → IfSome (if utf8 && plain then Some segment else None) IsUtf8
segment_by segment true true is = IsUtf8-from_is_utf8 segment is
segment_by segment true false is = tt
segment_by segment false plain is = tt

segment_utf8 : (written : List ℕ) → IfSome (segment_of written) IsUtf8
segment_utf8 written =
    let segment = percent_decode written in segment_by segment (is_utf8 segment) (not (holds_slash segment)) refl

in_front : (text : List ℕ) (more : Option (List (List ℕ))) → IsUtf8 text → AllUtf8 more → AllUtf8 (option_map (λ m. text ∷ m) more)
in_front text None is are = tt
in_front text (Some more) is are = (is, are)

onto : (text : Option (List ℕ)) (rest : List (Option (List ℕ))) → IfSome text IsUtf8 → AllUtf8 (all_of rest)
    → AllUtf8 (all_of (text ∷ rest))
onto None rest is are = tt
onto (Some text) rest is are = in_front text (all_of rest) is are

all_utf8 : (written : List (List ℕ)) → AllUtf8 (all_of (map segment_of written))
all_utf8 [] = tt
all_utf8 (text ∷ rest) = onto (segment_of text) (map segment_of rest) (segment_utf8 text) (all_utf8 rest)

path_by : (text : List ℕ) (t : Bool) → is_path text ≡ t → IsUtf8 text → IsPath (if t then Some text else None)
path_by text true is utf8 = record { good = is; text = text_of text utf8 }
path_by text false is utf8 = tt

joined_is_path : (texts : Option (List (List ℕ))) → AllUtf8 texts → IsPath (option_and_then (λ l. if_path (join_with_byte 47 l)) texts)
joined_is_path None are = tt
joined_is_path (Some texts) are =
    path_by (join_with_byte 47 texts) (is_path (join_with_byte 47 texts)) refl (joined_utf8 texts are)

pub written_is_path : (text : List ℕ) → IsPath (path_written text)
unfolding path_written path_of_segments
written_is_path text =
    joined_is_path (all_of (map segment_of (with_index (segments text)))) (all_utf8 (with_index (segments text)))

-- ---- the path of a parameter

abbrev pub IsNamed : Option (Result (List ℕ) PathError) → Type 0
IsNamed to = IfSome to (λ path. IfOk path IsPathText)

first_utf8 : (name : List ℕ) (pairs : List (List ℕ × List ℕ)) → IfSome (first_value name pairs) IsUtf8
first_utf8 name [] = tt
first_utf8 name (pair ∷ pairs) = by (bytes_eq (text_of_encoded pair.0) name) (first_utf8 name pairs)
  where
    by : (t : Bool) → IfSome (first_value name pairs) IsUtf8
        → IfSome (if t then Some (text_of_encoded pair.1) else first_value name pairs) IsUtf8
    by true rest = lossy_utf8 (decode pair.1)
    by false rest = rest

parameter_utf8 : (target name : List ℕ) → IfSome (optional_parameter target name) IsUtf8
unfolding value_of
parameter_utf8 target name = first_utf8 name (raw_pairs (query_of target))

named_by : (text : List ℕ) (t : Bool) → is_path text ≡ t → IsUtf8 text
    → IfOk {T = List ℕ} {E = PathError} (if t then Ok text else Err BadPath) IsPathText
named_by text true is utf8 = record { good = is; text = text_of text utf8 }
named_by text false is utf8 = tt

named : (text : Option (List ℕ)) → IfSome text IsUtf8 → IsNamed (option_map path_of text)
named None utf8 = tt
named (Some text) utf8 = named_by text (is_path text) refl utf8

pub parameter_is_path : (target name : List ℕ) → IsNamed (option_map path_of (optional_parameter target name))
parameter_is_path target name = named (optional_parameter target name) (parameter_utf8 target name)

-- ---- groups

at_most : (a b : ℕ) → nat_lt b a ≡ false → a ≤ b
at_most a b e = grind (arith, nat_tests)

abbrev pub AreGroups : Result (List (List ℕ)) GroupsError → Type 0
AreGroups groups = IfOk groups IsGroups

names_are_groups : (names : List (List ℕ)) → AreGroups (groups_of_names names)
unfolding groups_of_names
names_are_groups names = by (list_all is_group names) (nat_lt group_limit (length (different_names names))) refl refl
  where
    by : (good many : Bool) → list_all is_group names ≡ good → nat_lt group_limit (length (different_names names)) ≡ many
        → AreGroups (if not good then Err BadGroup else (if many then Err TooMany else Ok (different_names names)))
    by true true are few = tt
    by true false are few =
        collected names (different_names names) are refl (at_most (length (different_names names)) group_limit few)
    by false many are few = tt

pub groups_are : (text : List ℕ) → AreGroups (groups_of text)
groups_are text = names_are_groups (names_in_text text)
