-- Link destinations and link titles (CommonMark 0.31.2, section 6.3).
use Rattle.std.specs.Prelude.{ℕ, zero, suc, nat_lt, Bool, false, not, ◌||◌, ◌==◌, [], ◌∷◌, length, Option, Some, None, option_map, codes}
use Rattle.std.specs.Char.{is_ascii_control, is_ascii_punctuation}
use Rattle.doc_rules.specs.Characters.{Text, one_of, none_of, is_space_or_tab}
use Rattle.doc_rules.specs.Parsers.{Parser, one, is, many, ◌then◌, ◌or◌, repeated, passing, begins, line_ending, inside}
use Rattle.doc_rules.specs.Rules.{Rules}
use Rattle.doc_rules.specs.Escapes.{unescape}

-- where a link leads, and its title, where it has one; a title may be empty (this project's choice)
pub record Target : Type 0 where
  pub dest : Text
  pub title : Option Text

-- ---- escaped characters

-- a backslash and ASCII punctuation
abbrev pub escaped : Parser
escaped = is 92 then one is_ascii_punctuation

-- the longest run of characters that pass the test, and of escaped ones
unfoldable pub many_or_escaped : (ℕ → Bool) → Parser
many_or_escaped test = repeated (escaped or one test)

-- ---- destinations

-- between '<' and '>': no line ending, and '<' and '>' only escaped
unfoldable pub angled : Parser
angled = is 60 then many_or_escaped (none_of (codes "<>\n\r")) then is 62

-- no space, ASCII control or parenthesis
abbrev pub is_bare : ℕ → Bool
is_bare c = not (is_ascii_control c || one_of (codes " ()") c)

-- such characters, with balanced parentheses at most so many levels deep; others only escaped
unfoldable pub balanced : ℕ → Parser
balanced zero = many_or_escaped is_bare
balanced (suc n) = repeated (escaped or one is_bare or (is 40 then balanced n then is 41))

-- the longest destination without '<' and '>': not empty, its parentheses balanced to 32 levels (the number is this project's choice)
unfoldable pub bare : Parser
bare text = elim (is 60 text) [ Some rest ↦ None | None ↦ passing (λ front. nat_lt 0 (length front)) (balanced 32) text ]

-- a destination in one of the two forms
unfoldable pub destination : Parser
destination = angled or bare

-- ---- titles

-- a blank line stands inside the text
unfoldable pub has_blank_line : Text → Bool
has_blank_line [] = false
has_blank_line (c ∷ rest) = begins (line_ending then many is_space_or_tab then line_ending) (c ∷ rest) || has_blank_line rest

-- all between these two, which stand inside only escaped
abbrev pub title_in : ℕ → ℕ → Parser
title_in left right = is left then many_or_escaped (λ c. not ((c == left) || (c == right))) then is right

-- a title in double quotes, in single quotes or in parentheses, without a blank line
unfoldable pub title : Parser
title = passing (λ front. not (has_blank_line front)) (title_in 34 34 or title_in 39 39 or title_in 40 41)

-- ---- what they mean

-- a destination as it stands, without '<' and '>', its escapes and references read; nothing else is stripped (this project's choice)
unfoldable pub destination_value : Rules → Text → Text
destination_value rules source = unescape rules (elim (is 60 source) [ Some rest ↦ inside source | None ↦ source ])

-- a title as it stands, without what it stands in, its escapes and references read
unfoldable pub title_value : Rules → Text → Text
title_value rules source = unescape rules (inside source)

-- the target of a destination and a title as they stand
abbrev pub target_of : Rules → Text → Option Text → Target
target_of rules dest title_source = record { dest = destination_value rules dest; title = option_map (title_value rules) title_source }
