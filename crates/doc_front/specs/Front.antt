-- The front of a text (this project's choice): a byte order mark, and front matter, which stands between two lines '---' before the
-- text itself. They are cut before a text is read as CommonMark; a title of the front matter may stand as a heading in their place.
use Rattle.std.specs.Prelude.{ℕ, Bool, true, false, ◌&&◌, ◌||◌, ◌==◌, List, [], ◌∷◌, ◌++◌, flat_map, codes}
use Rattle.std.specs.Prelude.{Option, Some, None, option_map, option_and_then}
use Rattle.std.specs.List.{concat}
use Rattle.std.specs.Char.{is_ascii_alphabetic, is_ascii_alphanumeric, is_ascii_punctuation}
use Rattle.doc_rules.specs.Characters.{Text, is_space_or_tab, is_blank_text, one_of, strip}
use Rattle.doc_rules.specs.Lines.{lines_of, without_ending}
use Rattle.doc_rules.specs.Parsers.{one, is, word, many, ◌then◌, begins, begins_before}
use Rattle.doc_rules.specs.Columns.{cells_of}
use Rattle.doc_rules.specs.LeafStarts.{is_end, marker_text, atx_heading, underline_level}
use Rattle.doc_front.specs.declared.rules.FrontRules.{FrontRules}
use Rattle.doc_front.specs.declared.rules.FrontMatter.{FrontMatter}
use Rattle.doc_front.specs.declared.rules.FrontMatter.TheVariants.{Keep, Skip, Title}
use Rattle.doc_front.specs.Titles.{simple_value}

-- nothing is cut
abbrev pub none : FrontRules
none = record { skip_bom = false; front_matter = Keep }

-- a text without a byte order mark at its front
unfoldable pub without_bom : Text → Text
without_bom text = elim (is 0xFEFF text) [ Some rest ↦ rest | None ↦ text ]

-- ---- where front matter begins and ends; lines are given without their endings

-- '---', with spaces and tabs behind it
unfoldable pub is_fence : Text → Bool
is_fence = begins_before is_blank_text (word (codes "---"))

-- a key, ':', and then the end, a space or a tab
unfoldable pub is_key_line : Text → Bool
is_key_line = begins_before is_end (one (λ c. is_ascii_alphabetic c || (c == 95))
    then many (λ c. is_ascii_alphanumeric c || one_of (codes "_-.") c) then is 58)

-- a line that shows, behind a line '---', that this begins front matter: the line at its end, a comment, or a key
unfoldable pub shows_front : Text → Bool
shows_front line = is_fence line || (begins (is 35) line || is_key_line line)

-- the first of these lines is one that shows it
unfoldable pub is_shown : List Text → Bool
is_shown [] = false
is_shown (line ∷ more) = shows_front (without_ending line)

-- the lines behind the line '---' that front matter begins with
unfoldable pub opened : List Text → Option (List Text)
opened [] = None
opened (line ∷ more) = elim (is_fence (without_ending line) && is_shown more) [ true ↦ Some more | false ↦ None ]

-- the lines behind the first line '---'
unfoldable pub closed : List Text → Option (List Text)
closed [] = None
closed (line ∷ more) = elim (is_fence (without_ending line)) [ true ↦ Some more | false ↦ closed more ]

-- what the front matter begins with behind its first line, and what stands behind its last
unfoldable pub front_in : List Text → Option (List Text × List Text)
front_in lines = option_and_then (λ inside. option_map (λ behind. (inside, behind)) (closed inside)) (opened lines)

-- ---- the title of front matter

-- what stands behind 'title:' and a space or a tab, stripped
unfoldable pub title_on : Text → Option Text
title_on line = option_map (strip is_space_or_tab) ((word (codes "title:") then one is_space_or_tab) line)

-- the same of the first line that has it, before the line '---'
unfoldable pub title_in : List Text → Option Text
title_in [] = None
title_in (line ∷ more) = elim (is_fence (without_ending line)) [
  | true ↦ None
  | false ↦ elim (title_on (without_ending line)) [ Some title ↦ Some title | None ↦ title_in more ]
]

-- ---- the heading of the text behind

-- the line is an ATX heading of level 1 (CommonMark 0.31.2, section 4.2)
unfoldable pub is_first_heading : Text → Bool
is_first_heading line = elim (option_and_then atx_heading (marker_text (cells_of line))) [ None ↦ false | Some heading ↦ heading.0 == 1 ]

-- the line is an underline of '=' (section 4.3)
unfoldable pub is_underline : Text → Bool
is_underline line = elim (option_and_then underline_level (marker_text (cells_of line))) [ None ↦ false | Some level ↦ level == 1 ]

-- the first of these lines is one
unfoldable pub is_underlined : List Text → Bool
is_underlined [] = false
is_underlined (line ∷ more) = is_underline (without_ending line)

-- the first line that isn't blank is such a heading, or has such an underline
unfoldable pub has_heading : List Text → Bool
has_heading [] = false
has_heading (line ∷ more) = elim (is_blank_text (without_ending line)) [
  | true ↦ has_heading more
  | false ↦ is_first_heading (without_ending line) || is_underlined more
]

-- ---- a text without its front

-- a character of a title, as it stands in CommonMark: with a '\' before ASCII punctuation
unfoldable pub escaped_char : ℕ → Text
escaped_char c = elim (is_ascii_punctuation c) [ true ↦ 92 ∷ c ∷ [] | false ↦ c ∷ [] ]

-- a title as a heading, and this text behind it
unfoldable pub headed : Text → Text → Text
headed title behind = codes "# " ++ flat_map escaped_char title ++ codes "\n\n" ++ behind

-- the text of these lines, which have no heading, with the title that there may be
unfoldable pub titled : Option Text → List Text → Text
titled None behind = concat behind
titled (Some title) behind = elim (has_heading behind) [ true ↦ concat behind | false ↦ headed title (concat behind) ]

-- a text without its front matter, where it begins with some
unfoldable pub skipped : Text → Text
skipped text = elim (front_in (lines_of text)) [ None ↦ text | Some front ↦ concat front.1 ]

-- the same with its title as a heading
unfoldable pub with_title : Text → Text
with_title text = elim (front_in (lines_of text)) [
  | None ↦ text
  | Some front ↦ titled (option_and_then simple_value (title_in front.0)) front.1
]

-- what becomes of front matter
abbrev pub by_matter : FrontMatter → Text → Text
by_matter Keep text = text
by_matter Skip text = skipped text
by_matter Title text = with_title text

-- what becomes of a byte order mark
abbrev pub by_bom : Bool → Text → Text
by_bom true text = without_bom text
by_bom false text = text

-- what is read of a text by these rules
abbrev pub front_of : FrontRules → Text → Text
front_of rules text = by_matter rules.front_matter (by_bom rules.skip_bom text)
