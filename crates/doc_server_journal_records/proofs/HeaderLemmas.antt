-- The header, part by part.
use Rattle.std.proofs.Common.{◌≡◌, ℕ, List, [], ◌∷◌, ◌++◌, length, take, drop, codes, sym, ap, ◌∙◌, arith, refl, length-append, append_assoc}
use Rattle.std.proofs.lemmas.List.{take_at, drop_at, take-append-drop}
use Rattle.doc_server_journal_records.specs.Records.{IsIdentity, header}

abbrev name : List ℕ
name = codes "docs_server journal 2 "

in_parts : (identity : List ℕ) → header identity ≡ name ++ (identity ++ (10 ∷ []))
unfolding header
in_parts identity = append_assoc name identity (10 ∷ [])

pub length_header : (identity : List ℕ) → IsIdentity identity → length (header identity) ≡ 55
length_header identity is =
    omega (
      arith,
      ap length (in_parts identity),
      length-append name (identity ++ (10 ∷ [])),
      length-append identity (10 ∷ []),
      is.0,
    )

module _ (bytes identity : List ℕ) (identity_is : IsIdentity identity) (is : bytes ≡ header identity) where
  pub name_part : take 22 bytes ≡ name
  name_part = ap (λ l. take 22 l) (is ∙ in_parts identity) ∙ take_at name (identity ++ (10 ∷ [])) 22 refl

  behind_part : drop 22 bytes ≡ identity ++ (10 ∷ [])
  behind_part = ap (λ l. drop 22 l) (is ∙ in_parts identity) ∙ drop_at name (identity ++ (10 ∷ [])) 22 refl

  pub identity_part : take 32 (drop 22 bytes) ≡ identity
  identity_part = ap (λ l. take 32 l) behind_part ∙ take_at identity (10 ∷ []) 32 identity_is.0

  pub end_part : drop 32 (drop 22 bytes) ≡ 10 ∷ []
  end_part = ap (λ l. drop 32 l) behind_part ∙ drop_at identity (10 ∷ []) 32 identity_is.0

pub is_header : (bytes front behind identity end : List ℕ) → front ≡ take 22 bytes → behind ≡ drop 22 bytes → identity ≡ take 32 behind
    → end ≡ drop 32 behind → front ≡ name → end ≡ 10 ∷ [] → bytes ≡ header identity
is_header bytes front behind identity end front_is behind_is identity_is end_is named ended =
    sym (take-append-drop 22 bytes)
    ∙ ap (λ l. l ++ drop 22 bytes) (sym front_is ∙ named)
    ∙ ap (λ l. name ++ l) (sym behind_is ∙ sym (take-append-drop 32 behind)
    ∙ ap (λ l. l ++ drop 32 behind) (sym identity_is) ∙ ap (λ l. identity ++ l) (sym end_is ∙ ended))
    ∙ sym (in_parts identity)

pub front_is_header : (bytes front identity rest : List ℕ) → IsIdentity identity → front ≡ take 55 bytes → bytes ≡ header identity ++ rest
    → front ≡ header identity
front_is_header bytes front identity rest identity_is front_is is =
    front_is ∙ ap (λ l. take 55 l) is ∙ take_at (header identity) rest 55 (length_header identity identity_is)
