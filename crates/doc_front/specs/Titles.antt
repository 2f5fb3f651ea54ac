-- The value of a title in front matter (this project's choice): of YAML's scalars those on one line that need no reading.
use Rattle.std.specs.Prelude.{ℕ, Bool, true, false, not, ◌&&◌, ◌==◌, [], ◌∷◌, Option, Some, None, option_map, option_and_then, codes}
use Rattle.std.specs.List.{list_all, list_any}
use Rattle.std.specs.Char.{is_control}
use Rattle.doc_rules.specs.Characters.{Text, is_space_or_tab, one_of, none_of, first_or, last_or, strip}
use Rattle.doc_rules.specs.Parsers.{is, word, holds}

-- a text, where it is not empty
unfoldable pub some_text : Text → Option Text
some_text [] = None
some_text (c ∷ rest) = Some (c ∷ rest)

-- the text before its last character, where that is this one
unfoldable pub before_last : ℕ → Text → Option Text
before_last c [] = None
before_last c (d ∷ []) = elim (d == c) [ true ↦ Some [] | false ↦ None ]
before_last c (d ∷ e ∷ rest) = option_map (λ front. d ∷ front) (before_last c (e ∷ rest))

-- behind an opening quotation mark: what stands before the closing one at the end, stripped and not empty
unfoldable pub quoted : ℕ → Text → Option Text
quoted mark text = option_and_then (λ inside. some_text (strip is_space_or_tab inside)) (before_last mark text)

-- a text without '"' and '\'
unfoldable pub double_quoted : Text → Option Text
double_quoted text = elim (list_all (none_of (codes "\"\\")) text) [ true ↦ Some text | false ↦ None ]

-- a text with one "'" for each two, where no other stands in it; the flag says that the first of two was the last character
unfoldable pub single_quoted : Bool → Text → Option Text
single_quoted false [] = Some []
single_quoted true [] = None
single_quoted false (c ∷ rest) = elim (c == 39) [
  | true ↦ single_quoted true rest
  | false ↦ option_map (λ text. c ∷ text) (single_quoted false rest)
]
single_quoted true (c ∷ rest) = elim (c == 39) [ true ↦ option_map (λ text. 39 ∷ text) (single_quoted false rest) | false ↦ None ]

-- a text that stands for itself: it begins with no mark of YAML's, and has no ': ' and no ' #' in it and no ':' at its end
unfoldable pub is_bare : Text → Bool
is_bare text =
    not (one_of (codes "[]{},&*!|>'\"%@`#-?:") (first_or 35 text))
    && (not (holds (word (codes ": ")) text) && (not (holds (word (codes " #")) text) && not (last_or 58 text == 58)))

-- the value that is written in quotes or bare
unfoldable pub value_of : Text → Option Text
value_of text = elim (is 34 text) [
  | Some rest ↦ option_and_then double_quoted (quoted 34 rest)
  | None ↦ elim (is 39 text) [
    | Some rest ↦ option_and_then (single_quoted false) (quoted 39 rest)
    | None ↦ elim (is_bare text) [ true ↦ Some text | false ↦ None ]
  ]
]

-- the same of a text that has no control in it
unfoldable pub simple_value : Text → Option Text
simple_value text = elim (list_any is_control text) [ true ↦ None | false ↦ value_of text ]
