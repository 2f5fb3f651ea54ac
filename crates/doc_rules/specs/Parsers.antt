-- Parsers: what may stand at the front of a text. A parser answers the text behind it, where it stands there. No parser goes back.
use Rattle.std.specs.Prelude.{ℕ, zero, suc, ◌-◌, Bool, true, false, ◌==◌, [], ◌∷◌, take, length, Option, Some, None, option_and_then, codes}
use Rattle.std.specs.Option.{is_some}
use Rattle.std.specs.Char.{to_ascii_lowercase}
use Rattle.doc_rules.specs.Characters.{Text, is_space_or_tab}

-- what stands at the front of a text, if it does, leaves this rest
abbrev pub Parser : Type 0
Parser = Text → Option Text

-- ---- one thing

-- nothing
abbrev pub nothing : Parser
nothing = Some

-- one character that passes the test
abbrev pub one : (ℕ → Bool) → Parser
one test [] = None
one test (c ∷ rest) = elim (test c) [ true ↦ Some rest | false ↦ None ]

-- this character
abbrev pub is : ℕ → Parser
is c = one (λ d. d == c)

-- this word
unfoldable pub word : Text → Parser
word [] text = Some text
word (c ∷ more) [] = None
word (c ∷ more) (d ∷ rest) = elim (c == d) [ true ↦ word more rest | false ↦ None ]

-- this word of lower case letters, in any case
unfoldable pub word_in_any_case : Text → Parser
word_in_any_case [] text = Some text
word_in_any_case (c ∷ more) [] = None
word_in_any_case (c ∷ more) (d ∷ rest) = elim (c == to_ascii_lowercase d) [ true ↦ word_in_any_case more rest | false ↦ None ]

-- ---- things together

infixl 20 ◌then◌
infixl 15 ◌or◌
-- the first, and the second behind it
abbrev pub ◌then◌ : Parser → Parser → Parser
first then second = λ text. option_and_then second (first text)

-- the first, or where it doesn't stand there the second
abbrev pub ◌or◌ : Parser → Parser → Parser
first or second = λ text. elim (first text) [ Some rest ↦ Some rest | None ↦ second text ]

-- this thing, or nothing
abbrev pub maybe : Parser → Parser
maybe read = read or nothing

-- ---- many things

-- the longest run of characters that pass the test, which may be empty
unfoldable pub many : (ℕ → Bool) → Parser
many test [] = Some []
many test (c ∷ rest) = elim (test c) [ true ↦ many test rest | false ↦ Some (c ∷ rest) ]

-- the longest run of characters that pass the test, one at least
abbrev pub some : (ℕ → Bool) → Parser
some test = one test then many test

-- the same thing again and again, n times at most
unfoldable pub at_most : ℕ → Parser → Parser
at_most zero read text = Some text
at_most (suc n) read text = elim (read text) [ None ↦ Some text | Some rest ↦ at_most n read rest ]

-- the same thing again and again, as often as it stands there
abbrev pub repeated : Parser → Parser
repeated read text = at_most (length text) read text

-- all up to and with the first place where this stands
unfoldable pub through : Parser → Parser
through end [] = end []
through end (c ∷ rest) = elim (end (c ∷ rest)) [ Some after ↦ Some after | None ↦ through end rest ]

-- ---- what was parsed

-- what stands before the rest of a text
abbrev pub before : Text → Text → Text
before rest text = take (length text - length rest) text

-- a text without its first and its last character
abbrev pub inside : Text → Text
inside [] = []
inside (c ∷ rest) = take (length rest - 1) rest

-- this thing, where what it takes passes the test
abbrev pub passing : (Text → Bool) → Parser → Parser
passing test read text = elim (read text) [ None ↦ None | Some rest ↦ elim (test (before rest text)) [ true ↦ Some rest | false ↦ None ] ]

-- it stands at the front of the text
abbrev pub begins : Parser → Text → Bool
begins read text = is_some (read text)

-- it stands at the front of the text, before a rest that passes the test
abbrev pub begins_before : (Text → Bool) → Parser → Text → Bool
begins_before test read text = elim (read text) [ None ↦ false | Some rest ↦ test rest ]

-- it stands somewhere in the text
abbrev pub holds : Parser → Text → Bool
holds read = begins (through read)

-- the text is empty
abbrev pub is_nothing : Text → Bool
is_nothing [] = true
is_nothing (c ∷ rest) = false

-- how many of this character stand at the front
unfoldable pub run_length : ℕ → Text → ℕ
run_length c [] = 0
run_length c (d ∷ rest) = elim (c == d) [ true ↦ suc (run_length c rest) | false ↦ 0 ]

-- ---- white space

-- CR LF, LF or CR (2.1)
abbrev pub line_ending : Parser
line_ending = word (codes "\r\n") or is 10 or is 13

-- spaces, tabs and at most one line ending, or nothing
abbrev pub spacing : Parser
spacing = many is_space_or_tab then maybe line_ending then many is_space_or_tab

-- the same, but not nothing
unfoldable pub some_spacing : Parser
some_spacing = (some is_space_or_tab then maybe line_ending then many is_space_or_tab) or (line_ending then many is_space_or_tab)
