-- Texts that are too long to write a path.
use Rattle.std.proofs.Common.{◌≡◌, ℕ, ◌+◌, ◌-◌, ◌==◌, ◌*◌, ◌<◌, ◌≤◌, nat_le, true, false, cond, List, [], ◌∷◌, length, drop, map, Some, None, option_and_then, sym, ap, ◌∙◌, refl, arith}
use Rattle.std.specs.List.{list_any}
use Rattle.std.specs.Str.{is_utf8}
use Rattle.std.proofs.lemmas.Bool.{cond-false}
use Rattle.std.proofs.lemmas.Bool.Decides.{nat_tests}
use Rattle.std.proofs.lemmas.List.{length-append, length-drop}
use Rattle.std.proofs.lemmas.List.Splits.{length-slice_split, join_with_byte-slice_split}
use Rattle.percent_encoding.proofs.PercentLemmas.{length-percent_decode}
use Rattle.percent_encoding.specs.Percent.{percent_decode}
use Rattle.doc_page_parts.specs.Paths.{segments, is_path}
use Rattle.doc_resolve.specs.WrittenPaths.{with_index, if_path, path_written, holds_slash}
use Rattle.doc_resolve.specs.WrittenPathSteps.{path_of_bytes}
use Rattle.doc_resolve.proofs.WrittenPathLaws.{flat, drop-flat, path_written-decoded, decoded-flat}

-- a byte stands for at most three
flat-length : (parts : List (List ℕ)) → 0 < length parts → length (flat parts) + 2 ≤ 3 * length (flat (map percent_decode parts))
flat-length [] some = absurd (omega arith)
flat-length (part ∷ []) some =
    let decoded = percent_decode part in
    let shorter = length-percent_decode part in
    let before = length-append part [] in
    let after = length-append decoded [] in
    omega arith
flat-length (part ∷ next ∷ parts) some =
    let decoded = percent_decode part in
    let shorter = length-percent_decode part in
    let rest = flat-length (next ∷ parts) (omega arith) in
    let before = length-append part (flat (next ∷ parts)) in
    let after = length-append decoded (flat (map percent_decode (next ∷ parts))) in
    omega arith

-- a text is as long as its segments, each after a `/`, but for the first `/`
flat-segments : (text : List ℕ) → length (flat (segments text)) - 1 ≡ length text
flat-segments text =
    sym (length-drop 1 (flat (segments text))) ∙ ap length (drop-flat (segments text) ∙ join_with_byte-slice_split 47 text)

is_path-long : (text : List ℕ) → 200 < length text → is_path text ≡ false
unfolding is_path
is_path-long text long =
    let no : nat_le (length text) 200 ≡ false = grind (arith, nat_tests) in
    rw no refl

path_of_bytes-long : (text : List ℕ) → 200 < length text → path_of_bytes text ≡ None
path_of_bytes-long text long =
    elim (is_utf8 text) as (λ b. cond b (if_path text) None ≡ None) [
      | true ↦ cond-false (is_path text) (Some text) None (is_path-long text long)
      | false ↦ refl
    ]

-- the page of a folder makes a path no shorter
with_index-count : (parts : List (List ℕ)) → length (with_index parts) ≡ length parts
with_index-count [] = refl
with_index-count (s ∷ []) = refl
with_index-count (s ∷ t ∷ rest) = let e = with_index-count (t ∷ rest) in omega arith

with_index-length : (parts : List (List ℕ)) → length (flat parts) ≤ length (flat (with_index parts))
with_index-length [] = omega arith
with_index-length ([] ∷ []) = omega arith
with_index-length ((b ∷ s) ∷ []) = omega arith
with_index-length (s ∷ t ∷ rest) =
    let more = with_index-length (t ∷ rest) in
    let before = length-append s (flat (t ∷ rest)) in
    let after = length-append s (flat (with_index (t ∷ rest))) in
    omega arith

decoded-long : (text : List ℕ) → 600 < length text → 200 < length (drop 1 (flat (map percent_decode (with_index (segments text)))))
decoded-long text long =
    let parts = with_index (segments text) in
    let count = length-slice_split (λ b. b == 47) text in
    let same = with_index-count (segments text) in
    let longer = with_index-length (segments text) in
    let three = flat-length parts (omega arith) in
    let whole = flat-segments text in
    let dropped = length-drop 1 (flat (map percent_decode parts)) in
    omega arith

-- more than 600 bytes write no path, which has 200 at most
pub path-too_long : (text : List ℕ) → 600 < length text → path_written (segments text) ≡ None
path-too_long text long =
    let texts = map percent_decode (with_index (segments text)) in
    path_written-decoded (segments text)
    ∙ ap (option_and_then (λ decoded. path_of_bytes (drop 1 decoded))) (decoded-flat (with_index (segments text)))
    ∙ elim (list_any holds_slash texts) as (λ h. option_and_then (λ decoded. path_of_bytes (drop 1 decoded))
    (cond h None (Some (flat texts))) ≡ None) [
      | true ↦ refl
      | false ↦ path_of_bytes-long (drop 1 (flat texts)) (decoded-long text long)
    ]
