-- Lists of entity tags.
use Rattle.std.specs.Prelude.{ℕ, List, [], ◌∷◌, Bool, false, not, ◌&&◌, ◌||◌, ◌==◌, Option, Some, None, if◌then◌else◌}
use Rattle.std.specs.List.{list_any, flat_map, onto_first}
use Rattle.doc_page_parts.specs.Lines.{stripped}
use Rattle.doc_page_parts.specs.Pages.{is_empty}
use Rattle.doc_http_conditions.specs.EntityTags.{EntityTag, is_entity_tag, entity_tag, is_same, strong_tag}
use Rattle.doc_http_conditions.specs.declared.comparison.Comparison.{Comparison}

-- a comma that doesn't stand in quotes
abbrev pub cuts : ℕ → Bool → Bool
cuts b quoted = b == 44 && not quoted

-- whether what stands behind a byte stands in quotes
abbrev pub quoted_behind : ℕ → Bool → Bool
quoted_behind b quoted = if b == 34 then not quoted else quoted

-- the text cut at its commas, but for those that stand in quotes; `quoted`: it begins in quotes
unfoldable pub elements : Bool → List ℕ → List (List ℕ)
elements quoted [] = [] ∷ []
elements quoted (b ∷ rest) =
    if cuts b quoted then [] ∷ elements false rest
    else onto_first b (elements (quoted_behind b quoted) rest)

-- the same of a text, where one is left
abbrev pub elements_left : Option (List ℕ) → List (List ℕ)
elements_left None = []
elements_left (Some text) = elements false text

-- #element => [ element ] *( OWS "," OWS [ element ] ): of a list read leniently an element may be absent, and spaces
-- and tabs may stand around each (section 5.6.1.2)
abbrev pub is_element : List ℕ → Bool
is_element text = is_empty (stripped text) || is_entity_tag (stripped text)

-- the entity tag of an element, or none where it is absent
abbrev pub tags_of_element : List ℕ → List EntityTag
tags_of_element text = if is_empty (stripped text) then [] else entity_tag (stripped text) ∷ []

-- the entity tags of a list
abbrev pub tags_in : List ℕ → List EntityTag
tags_in text = flat_map tags_of_element (elements false text)

-- whether the strong tag with this opaque tag is among these
abbrev pub has_tag : Comparison → List ℕ → List EntityTag → Bool
has_tag comparison stands tags = list_any (λ tag. is_same comparison tag (strong_tag stands)) tags
