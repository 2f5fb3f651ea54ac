-- Characters and texts (CommonMark 0.31.2, section 2.1). A text is the list of its characters' code points.
use Rattle.std.specs.Prelude.{ℕ, Bool, true, false, not, ◌||◌, ◌==◌, List, [], ◌∷◌}
use Rattle.std.specs.List.{list_all, list_any}
use Rattle.unicode.specs.GeneralCategory.{general_category}
use Rattle.unicode.specs.GeneralCategoryGroup.{in_group}
use Rattle.ucd_category.specs.declared.GeneralCategory.{GeneralCategory}
use Rattle.ucd_category.specs.declared.GeneralCategory.TheVariants.{SpaceSeparator}
use Rattle.ucd_category.specs.declared.GeneralCategoryGroup.TheVariants.{Punctuation, Symbol}

-- a text, as the code points of its characters
abbrev pub Text : Type 0
Text = List ℕ

-- ---- classes of characters

-- the character is one of those of this text
abbrev pub one_of : Text → ℕ → Bool
one_of set c = list_any (λ d. c == d) set

-- the character is none of those of this text
abbrev pub none_of : Text → ℕ → Bool
none_of set c = not (one_of set c)

-- a space or a tab: the white space of block structure (2.1); form feeds and the like are text there (this project's choice)
abbrev pub is_space_or_tab : ℕ → Bool
is_space_or_tab c = (c == 32) || (c == 9)

-- LF or CR (2.1)
abbrev pub is_ending : ℕ → Bool
is_ending c = (c == 10) || (c == 13)

-- a space, a tab, or a character of a line ending
abbrev pub is_space_tab_or_ending : ℕ → Bool
is_space_tab_or_ending c = is_space_or_tab c || is_ending c

-- the category Zs
unfoldable pub is_space_separator : GeneralCategory → Bool
is_space_separator SpaceSeparator = true
is_space_separator _ = false

-- a Unicode whitespace character: the category Zs, tab, LF, FF or CR (2.1)
unfoldable pub is_white : ℕ → Bool
is_white c = (c == 9) || (c == 10) || (c == 12) || (c == 13) || is_space_separator (general_category c)

-- a Unicode punctuation character: the categories P and S (2.1)
unfoldable pub is_punctuation : ℕ → Bool
is_punctuation c = in_group Punctuation (general_category c) || in_group Symbol (general_category c)

-- ---- texts

-- the first character of a text, or this one where there is none
abbrev pub first_or : ℕ → Text → ℕ
first_or c [] = c
first_or c (d ∷ rest) = d

-- the last character of a text, or this one where there is none
unfoldable pub last_or : ℕ → Text → ℕ
last_or c [] = c
last_or c (d ∷ rest) = last_or d rest

-- a text without the characters of this class at its front
unfoldable pub strip_front : (ℕ → Bool) → Text → Text
strip_front class [] = []
strip_front class (c ∷ rest) = elim (class c) [ true ↦ strip_front class rest | false ↦ c ∷ rest ]

-- a text without the characters of this class at its end
unfoldable pub strip_end : (ℕ → Bool) → Text → Text
strip_end class [] = []
strip_end class (c ∷ rest) = elim (list_all class (c ∷ rest)) [ true ↦ [] | false ↦ c ∷ strip_end class rest ]

-- a text without the characters of this class at both ends
abbrev pub strip : (ℕ → Bool) → Text → Text
strip class text = strip_end class (strip_front class text)

-- a text of spaces and tabs alone (2.1, blank line)
abbrev pub is_blank_text : Text → Bool
is_blank_text = list_all is_space_or_tab
