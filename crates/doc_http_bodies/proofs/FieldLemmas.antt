-- The values of the fields of a name, with one more field.
use Rattle.std.proofs.Common.{◌≡◌, ℕ, false, cond, List, [], ◌∷◌, ◌++◌, map, ap, ◌∙◌}
use Rattle.std.specs.Prelude.{filter}
use Rattle.std.specs.Str.{str_eq_ignore_ascii_case}
use Rattle.std.proofs.lemmas.List.{append-nil}
use Rattle.std.proofs.lemmas.List.Elements.{filter-append}
use Rattle.doc_http_bodies.specs.Fields.{Fields, values_named}

-- a field of another name changes nothing
pub other_name : (name other value : List ℕ) (fields : Fields) → str_eq_ignore_ascii_case other name ≡ false
    → values_named name (fields ++ (other, value) ∷ []) ≡ values_named name fields
other_name name other value fields differs =
    let one : filter (λ (field : List ℕ × List ℕ). str_eq_ignore_ascii_case field.0 name) ((other, value) ∷ [])
    ≡ [] = ap (λ t. cond t ((other, value) ∷ []) []) differs in
    ap (map (λ (field : List ℕ × List ℕ). field.1)) (filter-append (λ (field : List ℕ × List ℕ). str_eq_ignore_ascii_case field.0 name)
    fields ((other, value) ∷ [])
    ∙ ap (λ rest. filter (λ (field : List ℕ × List ℕ). str_eq_ignore_ascii_case field.0 name) fields ++ rest) one ∙ append-nil _)
