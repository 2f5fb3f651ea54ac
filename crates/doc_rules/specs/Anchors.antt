-- The anchors of headings (this project's choice).
use Rattle.std.specs.Prelude.{ℕ, zero, suc, Bool, true, false, ◌||◌, ◌==◌, bytes_eq, List, [], ◌∷◌, ◌++◌, flat_map, length, decimal, codes}
use Rattle.std.specs.List.{list_any}
use Rattle.unicode.specs.GeneralCategory.{general_category}
use Rattle.unicode.specs.GeneralCategoryGroup.{in_group}
use Rattle.ucd_category.specs.declared.GeneralCategory.{GeneralCategory}
use Rattle.ucd_category.specs.declared.GeneralCategoryGroup.TheVariants.{Letter, Mark, Number}
use Rattle.caseless.specs.Caseless.{default_case_fold}
use Rattle.doc_rules.specs.Characters.{Text, is_white}

-- ---- the name of a heading

-- the categories L, M and N
abbrev pub is_word_category : GeneralCategory → Bool
is_word_category category = in_group Letter category || (in_group Mark category || in_group Number category)

-- letters, marks, numbers, '-' and '_' stay, Unicode whitespace becomes '-', the rest goes
unfoldable pub anchor_char : ℕ → Text
anchor_char c =
    elim (is_word_category (general_category c) || ((c == 45) || (c == 95))) [
      | true ↦ c ∷ []
      | false ↦ elim (is_white c) [ true ↦ 45 ∷ [] | false ↦ [] ]
    ]

-- the name where it isn't empty, else 'section'
unfoldable pub or_section : Text → Text
or_section [] = codes "section"
or_section (c ∷ rest) = c ∷ rest

-- the name of a heading with this text, which is case folded first
unfoldable pub anchor_name : Text → Text
anchor_name heading = or_section (flat_map anchor_char (default_case_fold heading))

-- ---- names free of those before

-- the name is one of those used
abbrev pub is_used : List Text → Text → Bool
is_used used name = list_any (bytes_eq name) used

-- NAME-n
abbrev pub with_number : Text → ℕ → Text
with_number name n = name ++ (45 ∷ decimal n)

-- the first of NAME-n, NAME-(n+1), .. that isn't used; NAME-(n+most), where those before it are
unfoldable pub free_number : ℕ → ℕ → List Text → Text → Text
free_number zero n used name = with_number name n
free_number (suc most) n used name = elim (is_used used (with_number name n))
    [ true ↦ free_number most (suc n) used name | false ↦ with_number name n ]

-- the name where it is free, else with the least number from 1 that is free; one more numbers than names used are enough
unfoldable pub free_anchor : List Text → Text → Text
free_anchor used name = elim (is_used used name) [ true ↦ free_number (length used) 1 used name | false ↦ name ]

-- the anchors of headings behind others that use these
unfoldable pub anchors_behind : List Text → List Text → List Text
anchors_behind used [] = []
anchors_behind used (heading ∷ more) = free_anchor used (anchor_name heading) ∷ anchors_behind
    (free_anchor used (anchor_name heading) ∷ used) more

-- the anchors of headings with these texts
abbrev pub anchors_of : List Text → List Text
anchors_of = anchors_behind []
