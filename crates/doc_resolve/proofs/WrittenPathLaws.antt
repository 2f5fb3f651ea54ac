-- The path that segments write, by what they are decoded to.
use Rattle.std.proofs.Common.{◌≡◌, ℕ, ◌+◌, lit<, not, ◌&&◌, ◌||◌, true, false, cond, List, [], ◌∷◌, ◌++◌, length, get_or, drop, map}
use Rattle.std.proofs.Common.{Option, Some, None, option_map, option_and_then, refl, sym, ap, ◌∙◌, subst, arith}
use Rattle.std.specs.List.{join_with_byte, flat_map, list_all, list_any}
use Rattle.std.specs.Str.{IsUtf8, is_utf8}
use Rattle.std.proofs.lemmas.Bool.{and_parts, and_from}
use Rattle.std.proofs.lemmas.List.{append-nil, append_assoc, get_or_at, take_at, drop_at, drop-drop, length-append}
use Rattle.std.proofs.lemmas.Str.{IsUtf8-append, IsUtf8-encode, encode_ascii, IsUtf8-take, IsUtf8-drop, IsUtf8-nil, IsUtf8-from_is_utf8}
use Rattle.std.proofs.lemmas.Str.{is_utf8-from_IsUtf8, IsCharBoundary-before_ascii, IsCharBoundary-after_ascii}
use Rattle.percent_encoding.specs.Percent.{percent_decode}
use Rattle.doc_page_parts.specs.Pages.{is_empty}
use Rattle.doc_page_parts.specs.Paths.{is_path}
use Rattle.doc_resolve.specs.WrittenPaths.{with_index, segment_of, all_of, if_path, path_written, holds_slash}
use Rattle.doc_resolve.specs.WrittenPathSteps.{with_decoded, decoded_segments, ends_empty, index_of, path_of_bytes}
use Rattle.doc_page_parts.proofs.Bools.{same_bool}
use Rattle.std.proofs.Math.Bool.{and-true}

slash_utf8 : IsUtf8 (47 ∷ [])
slash_utf8 = subst IsUtf8 (encode_ascii 47 (lit< tt)) (IsUtf8-encode 47 refl)

-- two texts round a `/` are UTF-8 just where each of them is
is_utf8-slash : (xs ys : List ℕ) → is_utf8 (xs ++ 47 ∷ ys) ≡ (is_utf8 xs && is_utf8 ys)
is_utf8-slash xs ys =
    let all = xs ++ 47 ∷ ys in
    let n = length xs in
    let at : get_or all n 0 ≡ 47 = get_or_at xs 47 ys 0 n refl in
    let len : length all ≡ n + length (47 ∷ ys) = length-append xs (47 ∷ ys) in
    let rest : drop (n + 1) all ≡ ys = sym (drop-drop 1 n all) ∙ ap (drop 1) (drop_at xs (47 ∷ ys) n refl) in
    same_bool (is_utf8 all) (is_utf8 xs && is_utf8 ys)
    (λ whole.
    let utf8 = IsUtf8-from_is_utf8 all whole in
    let front = IsUtf8-take all n utf8 (IsCharBoundary-before_ascii all n (omega arith) (omega arith)) in
    let back = IsUtf8-drop all (n + 1) utf8 (IsCharBoundary-after_ascii all n utf8 (omega arith) (omega arith)) in
    and_from (is_utf8 xs) (is_utf8 ys) (is_utf8-from_IsUtf8 xs (subst IsUtf8 (take_at xs (47 ∷ ys) n refl) front))
    (is_utf8-from_IsUtf8 ys (subst IsUtf8 rest back)))
    (λ both.
    let parts = and_parts (is_utf8 xs) (is_utf8 ys) both in
    let back = IsUtf8-append (47 ∷ []) ys slash_utf8 (IsUtf8-from_is_utf8 ys parts.1) in
    is_utf8-from_IsUtf8 all (IsUtf8-append xs (47 ∷ ys) (IsUtf8-from_is_utf8 xs parts.0) back))

-- the texts in a row, each after a `/`
abbrev pub flat : List (List ℕ) → List ℕ
flat texts = flat_map (λ text. 47 ∷ text) texts

is_utf8-rest : (text : List ℕ) (texts : List (List ℕ)) → is_utf8 (text ++ flat texts) ≡ (is_utf8 text && list_all is_utf8 texts)
is_utf8-rest text [] = ap is_utf8 (append-nil text) ∙ sym (and-true (is_utf8 text))
is_utf8-rest text (next ∷ texts) =
    is_utf8-slash text (next ++ flat texts) ∙ ap (λ b. is_utf8 text && b) (is_utf8-rest next texts)

-- without the first `/` they are UTF-8 where each of them is
is_utf8-flat : (texts : List (List ℕ)) → is_utf8 (drop 1 (flat texts)) ≡ list_all is_utf8 texts
is_utf8-flat [] = is_utf8-from_IsUtf8 [] IsUtf8-nil
is_utf8-flat (text ∷ texts) = is_utf8-rest text texts

-- without the first `/` they are joined by `/`
pub drop-flat : (texts : List (List ℕ)) → drop 1 (flat texts) ≡ join_with_byte 47 texts
drop-flat [] = refl
drop-flat (text ∷ []) = append-nil text
drop-flat (text ∷ next ∷ texts) = ap (λ rest. text ++ 47 ∷ rest) (drop-flat (next ∷ texts))

-- the decoded segments, where none holds a `/`
pub decoded-flat : (parts : List (List ℕ)) → decoded_segments parts ≡ cond (list_any holds_slash (map percent_decode parts)) None
    (Some (flat (map percent_decode parts)))
decoded-flat [] = refl
decoded-flat (part ∷ parts) =
    let texts = map percent_decode parts in
    ap (with_decoded (percent_decode part)) (decoded-flat parts)
    ∙ elim (holds_slash (percent_decode part)) as (λ v. cond v None
    (option_map (λ rest. 47 ∷ percent_decode part ++ rest) (cond (list_any holds_slash texts) None (Some (flat texts))))
    ≡ cond (v || list_any holds_slash texts) None (Some (flat (percent_decode part ∷ texts)))) [
      | true ↦ refl
      | false ↦ elim (list_any holds_slash texts) as (λ w. option_map (λ rest. 47 ∷ percent_decode part ++ rest)
          (cond w None (Some (flat texts))) ≡ cond w None (Some (flat (percent_decode part ∷ texts)))) [ true ↦ refl | false ↦ refl ]
    ]

-- the segments, where each is UTF-8 and none holds a `/`
all_of-decoded : (parts : List (List ℕ)) → all_of (map segment_of parts)
    ≡ cond (list_all is_utf8 (map percent_decode parts) && not (list_any holds_slash (map percent_decode parts)))
    (Some (map percent_decode parts)) None
all_of-decoded [] = refl
all_of-decoded (part ∷ parts) =
    let text = percent_decode part in
    let texts = map percent_decode parts in
    let utf8 = list_all is_utf8 texts in
    let slashes = list_any holds_slash texts in
    elim (is_utf8 text) as (λ u. all_of (cond (u && not (holds_slash text)) (Some text) None ∷ map segment_of parts)
    ≡ cond ((u && utf8) && not (holds_slash text || slashes)) (Some (text ∷ texts)) None) [
      | false ↦ refl
      | true ↦ elim (holds_slash text) as (λ h. all_of (cond (not h) (Some text) None ∷ map segment_of parts)
          ≡ cond (utf8 && not (h || slashes)) (Some (text ∷ texts)) None) [
            | true ↦ elim utf8 as (λ b. None ≡ cond (b && false) (Some (text ∷ texts)) None) [ true ↦ refl | false ↦ refl ]
            | false ↦ ap (option_map (λ more. text ∷ more)) (all_of-decoded parts)
                ∙ elim (utf8 && not slashes) as (λ b. option_map (λ more. text ∷ more) (cond b (Some texts) None)
                ≡ cond b (Some (text ∷ texts)) None) [ true ↦ refl | false ↦ refl ]
          ]
    ]

-- the path of the decoded segments
path-flat : (texts : List (List ℕ)) → option_and_then (λ parts. if_path (join_with_byte 47 parts))
    (cond (list_all is_utf8 texts && not (list_any holds_slash texts)) (Some texts) None)
    ≡ option_and_then (λ decoded. path_of_bytes (drop 1 decoded)) (cond (list_any holds_slash texts) None (Some (flat texts)))
path-flat texts =
    let utf8 = list_all is_utf8 texts in
    let F : List (List ℕ) → Option (List ℕ) = λ parts. if_path (join_with_byte 47 parts) in
    let G : List ℕ → Option (List ℕ) = λ decoded. path_of_bytes (drop 1 decoded) in
    elim (list_any holds_slash texts) as (λ h. option_and_then F (cond (utf8 && not h) (Some texts) None)
    ≡ option_and_then G (cond h None (Some (flat texts)))) [
      | true ↦ elim utf8 as (λ b. option_and_then F (cond (b && false) (Some texts) None) ≡ None) [ true ↦ refl | false ↦ refl ]
      | false ↦
          elim utf8 as (λ b. option_and_then F (cond (b && true) (Some texts) None) ≡ cond b (if_path (drop 1 (flat texts))) None)
          [ true ↦ ap if_path (sym (drop-flat texts)) | false ↦ refl ]
          ∙ sym (ap (λ b. cond b (if_path (drop 1 (flat texts))) None) (is_utf8-flat texts))
    ]

-- the path, by the decoded segments
pub path_written-decoded : (parts : List (List ℕ)) → path_written parts
    ≡ option_and_then (λ decoded. path_of_bytes (drop 1 decoded)) (decoded_segments (with_index parts))
unfolding path_written
path_written-decoded parts =
    let all = with_index parts in
    ap (option_and_then (λ texts. if_path (join_with_byte 47 texts))) (all_of-decoded all)
    ∙ path-flat (map percent_decode all)
    ∙ sym (ap (option_and_then (λ decoded. path_of_bytes (drop 1 decoded))) (decoded-flat all))

-- ---- the page of a folder

-- the index is added at the end
decoded-index : (parts : List (List ℕ)) → decoded_segments (with_index parts)
    ≡ option_map (λ text. text ++ index_of parts) (decoded_segments parts)
unfolding percent_decode
decoded-index [] = refl
decoded-index ([] ∷ []) = refl
decoded-index ((b ∷ s) ∷ []) = append-nothing (decoded_segments ((b ∷ s) ∷ []))
  where
    append-nothing : (o : Option (List ℕ)) → o ≡ option_map (λ text. text ++ []) o
    append-nothing None = refl
    append-nothing (Some text) = ap Some (sym (append-nil text))
decoded-index (s ∷ t ∷ rest) =
    let text = percent_decode s in
    let index = index_of (t ∷ rest) in
    ap (with_decoded text) (decoded-index (t ∷ rest))
    ∙ elim (holds_slash text) as (λ h. cond h None (option_map (λ r. 47 ∷ text ++ r)
    (option_map (λ r. r ++ index) (decoded_segments (t ∷ rest)))) ≡ option_map (λ r. r ++ index)
    (cond h None (option_map (λ r. 47 ∷ text ++ r) (decoded_segments (t ∷ rest))))) [
      | true ↦ refl
      | false ↦ elim (decoded_segments (t ∷ rest)) as (λ o. option_map (λ r. 47 ∷ text ++ r) (option_map (λ r. r ++ index) o)
          ≡ option_map (λ r. r ++ index) (option_map (λ r. 47 ∷ text ++ r) o)) [
            | None ↦ refl
            | Some r ↦ ap Some (sym (append_assoc (47 ∷ text) r index))
          ]
    ]

-- ---- what the code answers

pub path-missing : (parts : List (List ℕ)) → None ≡ decoded_segments parts → path_written parts ≡ None
path-missing parts none =
    path_written-decoded parts
    ∙ ap (option_and_then (λ decoded. path_of_bytes (drop 1 decoded))) (decoded-index parts
    ∙ sym (ap (option_map (λ text. text ++ index_of parts)) none))

pub path-found : (parts : List (List ℕ)) (decoded : List ℕ) → Some decoded ≡ decoded_segments parts
    → path_of_bytes (drop 1 (decoded ++ index_of parts)) ≡ path_written parts
path-found parts decoded found =
    sym (path_written-decoded parts
    ∙ ap (option_and_then (λ text. path_of_bytes (drop 1 text))) (decoded-index parts
    ∙ sym (ap (option_map (λ text. text ++ index_of parts)) found)))

pub ends_empty-last : (front : List (List ℕ)) (x : List ℕ) → ends_empty (front ++ x ∷ []) ≡ is_empty x
ends_empty-last [] x = refl
ends_empty-last (y ∷ []) x = refl
ends_empty-last (y ∷ z ∷ front) x = ends_empty-last (z ∷ front) x

pub no_bytes : None ≡ path_of_bytes []
unfolding is_path
no_bytes = ap (λ b. cond b (if_path []) None) (sym (is_utf8-from_IsUtf8 [] IsUtf8-nil))

pub no_bytes_after : (bytes : List ℕ) → length bytes ≡ 0 → None ≡ path_of_bytes (drop 1 bytes)
no_bytes_after [] none = no_bytes
no_bytes_after (b ∷ bytes) none = absurd (omega arith)
