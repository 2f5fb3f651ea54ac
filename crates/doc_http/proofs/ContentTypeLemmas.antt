-- The one value of a name, by its count and the first of them.
use Rattle.std.proofs.Common.{◌≡◌, ◌==◌, ◌&&◌, ℕ, List, [], ◌∷◌, Bool, true, false, refl, sym, ◌∙◌, arith, cond}
use Rattle.std.proofs.Math.Bool.{and-true, and-false}
use Rattle.std.specs.Prelude.{Option, Some, None, filter, map, length, find}
use Rattle.std.proofs.lemmas.List.Sums.{length-filter}
use Rattle.std.proofs.lemmas.List.{length-map}
use Rattle.std.proofs.lemmas.Bool.Decides.{nat_tests}
use Rattle.std.specs.Option.{option_map}
use Rattle.doc_http_bodies.specs.Fields.{Fields, is_named, values_named}
use Rattle.doc_http.specs.ContentTypes.{is_markdown, names_markdown}
use Rattle.doc_http.specs.Fields.{count_named, value_named}

-- whether the only value names Markdown, by the first of the values and their count
abbrev pub first_alone : Option (List ℕ) → ℕ → Bool
first_alone None count = false
first_alone (Some value) count = is_markdown value && count == 1

-- the values of the name are as many as they are counted
counted : (name : List ℕ) (fields : Fields) → length (values_named name fields) ≡ count_named name fields
counted name fields = length-map (filter (is_named name) fields) (λ field. field.1) ∙ length-filter (is_named name) fields

-- the first of them
abbrev first_of : List (List ℕ) → Option (List ℕ)
first_of [] = None
first_of (value ∷ others) = Some value

found : (name : List ℕ) (fields : Fields) → first_of (values_named name fields) ≡ value_named name fields
found name [] = refl
found name (field ∷ fields) = by_test (is_named name field) (found name fields)
  where
    by_test : (t : Bool) → first_of (values_named name fields) ≡ value_named name fields
        → first_of (map (λ f. f.1) (cond t (field ∷ filter (is_named name) fields) (filter (is_named name) fields)))
        ≡ option_map (λ f. f.1) (cond t (Some field) (find (is_named name) fields))
    by_test true h = refl
    by_test false h = h

first_stands_alone : (values : List (List ℕ)) → names_markdown values ≡ first_alone (first_of values) (length values)
unfolding names_markdown
first_stands_alone [] = refl
first_stands_alone (value ∷ []) = sym (and-true (is_markdown value))
first_stands_alone (value ∷ another ∷ more) =
    let two : (length (value ∷ another ∷ more) == 1) ≡ false = grind (arith, nat_tests) in
    rw two (sym (and-false (is_markdown value)))

pub markdown_by_count : (name : List ℕ) (fields : Fields)
    → names_markdown (values_named name fields) ≡ first_alone (value_named name fields) (count_named name fields)
markdown_by_count name fields = rw (sym (found name fields), sym (counted name fields)) (first_stands_alone (values_named name fields))
