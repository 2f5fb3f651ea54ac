-- Steps of the proofs on written paths.
use Rattle.std.proofs.Common.{◌≡◌, ℕ, ◌+◌, ◌<◌, ◌≤◌, not, true, false, cond, List, [], ◌∷◌, ◌++◌, length, get_or, drop, Option, Some, None}
use Rattle.std.proofs.Common.{Ok, Err, option_map, refl, sym, ap, ◌∙◌}
use Rattle.std.specs.Str.{IsUtf8, is_utf8}
use Rattle.std.proofs.lemmas.Bool.{cond-true}
use Rattle.std.proofs.lemmas.List.{append-nil, append_assoc, at_drop_more, at_drop_all}
use Rattle.std.proofs.lemmas.Str.{is_utf8-from_IsUtf8}
use Rattle.percent_encoding.specs.Percent.{percent_decode}
use Rattle.doc_page_parts.specs.Paths.{is_path, path_of}
use Rattle.doc_page_parts.specs.Refusals.{IsAnswer}
use Rattle.doc_page_parts.specs.declared.path.PathError.TheVariants as PathError
use Rattle.doc_resolve.specs.WrittenPaths.{if_path, holds_slash}
use Rattle.doc_resolve.specs.WrittenPathSteps.{with_decoded, decoded_segments, path_of_bytes}

-- a text in front of another, where there is one
abbrev pub onto : List ℕ → Option (List ℕ) → Option (List ℕ)
onto text rest = option_map (λ more. text ++ more) rest

pub onto-nil : (o : Option (List ℕ)) → o ≡ onto [] o
onto-nil None = refl
onto-nil (Some rest) = refl

onto-onto : (text more : List ℕ) (o : Option (List ℕ)) → onto text (option_map (λ rest. 47 ∷ more ++ rest) o) ≡ onto (text ++ 47 ∷ more) o
onto-onto text more None = refl
onto-onto text more (Some rest) = ap Some (sym (append_assoc text (47 ∷ more) rest))

-- what is known after so many segments
abbrev pub IsDecoded : List (List ℕ) → ℕ → List ℕ → Type 0
IsDecoded parts n text = decoded_segments parts ≡ onto text (decoded_segments (drop n parts))

with_decoded-good : (part : List ℕ) (others : Option (List ℕ)) → not (holds_slash part) ≡ true
    → with_decoded part others ≡ option_map (λ rest. 47 ∷ part ++ rest) others
with_decoded-good part others good =
    elim (holds_slash part) as (λ v. not v ≡ true → cond v None (option_map (λ rest. 47 ∷ part ++ rest) others)
    ≡ option_map (λ rest. 47 ∷ part ++ rest) others) [ true ↦ λ e. absurd (cc) | false ↦ λ _. refl ] good

with_decoded-bad : (part : List ℕ) (others : Option (List ℕ)) → not (holds_slash part) ≡ false → with_decoded part others ≡ None
with_decoded-bad part others bad =
    elim (holds_slash part) as (λ v. not v ≡ false → cond v None (option_map (λ rest. 47 ∷ part ++ rest) others) ≡ None)
    [ true ↦ λ _. refl | false ↦ λ e. absurd (cc) ] bad

-- what is left begins with this segment
decoded-here : (parts : List (List ℕ)) (n : ℕ) (part : List ℕ) → (n < length parts) × (part ≡ get_or parts n part)
    → decoded_segments (drop n parts) ≡ with_decoded (percent_decode part) (decoded_segments (drop (n + 1) parts))
decoded-here parts n part at =
    at_drop_more decoded_segments parts n part at.0
    ∙ ap (λ p. with_decoded (percent_decode p) (decoded_segments (drop (n + 1) parts))) (sym at.1)

-- one segment more
pub decoded-more : (parts : List (List ℕ)) (n : ℕ) (text part : List ℕ) → (n < length parts) × (part ≡ get_or parts n part)
    → not (holds_slash (percent_decode part)) ≡ true → IsDecoded parts n text → IsDecoded parts (n + 1) (text ++ 47 ∷ percent_decode part)
decoded-more parts n text part at good known =
    known
    ∙ ap (onto text) (decoded-here parts n part at ∙ with_decoded-good (percent_decode part) _ good)
    ∙ onto-onto text (percent_decode part) (decoded_segments (drop (n + 1) parts))

-- a segment that holds `/`
pub decoded-none : (parts : List (List ℕ)) (n : ℕ) (text part : List ℕ) → (n < length parts) × (part ≡ get_or parts n part)
    → not (holds_slash (percent_decode part)) ≡ false → IsDecoded parts n text → decoded_segments parts ≡ None
decoded-none parts n text part at bad known =
    known ∙ ap (onto text) (decoded-here parts n part at ∙ with_decoded-bad (percent_decode part) _ bad)

-- all segments
pub decoded-all : (parts : List (List ℕ)) (n : ℕ) (text : List ℕ) → length parts ≤ n → IsDecoded parts n text
    → decoded_segments parts ≡ Some text
decoded-all parts n text past known =
    known ∙ ap (onto text) (at_drop_all decoded_segments parts n past) ∙ ap Some (append-nil text)

-- the path that a text is
pub path_of_bytes-found : (bytes path : List ℕ) → IsUtf8 bytes → IsAnswer PathError.Memory (path_of bytes) (Ok path)
    → Some path ≡ path_of_bytes bytes
path_of_bytes-found bytes path utf8 answer =
    let found = elim (is_path bytes) as (λ v. IsAnswer PathError.Memory (cond v (Ok bytes) (Err PathError.BadPath)) (Ok path)
    → Some path ≡ cond v (Some bytes) None) [ true ↦ λ e. ap Some e | false ↦ λ e. absurd e ] answer in
    found ∙ sym (cond-true (is_utf8 bytes) (if_path bytes) None (is_utf8-from_IsUtf8 bytes utf8))
