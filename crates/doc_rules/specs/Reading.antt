-- Reading a text as inlines (CommonMark 0.31.2, section 6): what was made so far, the nearest first, and the rest of the text.
use Rattle.std.specs.Prelude.{ℕ, zero, suc, ◌+◌, ◌-◌, nat_le, Bool, true, false, ◌||◌, ◌==◌, List, [], ◌∷◌, ◌++◌, reverse, length, drop}
use Rattle.std.specs.Prelude.{take, Some}
use Rattle.std.specs.Prelude.{None, Option, replicate, if◌then◌else◌, codes}
use Rattle.std.specs.Char.{is_ascii_punctuation}
use Rattle.doc_rules.specs.Characters.{Text, first_or}
use Rattle.doc_rules.specs.Parsers.{is, ◌then◌, before, inside, run_length}
use Rattle.doc_rules.specs.Tags.{raw_html}
use Rattle.doc_rules.specs.Autolinks.{uri, mail}
use Rattle.doc_rules.specs.BareLinks.{bare_address}
use Rattle.doc_rules.specs.Rules.{Rules}
use Rattle.doc_rules.specs.Escapes.{character_reference}
use Rattle.doc_rules.specs.Definitions.{Definition}
use Rattle.doc_rules.specs.Inlines.{Span, Link, Inline, Literal, Raw, Reference, SoftBreak, HardBreak, Start, End, Delimiters, Open}
use Rattle.doc_rules.specs.Inlines.{literals, onto}
use Rattle.doc_rules.specs.Emphasis.{run_between, emphasis_of}
use Rattle.doc_rules.specs.CodeSpans.{code_span}
use Rattle.doc_rules.specs.Links.{close_bracket}

-- what is made then, and how many characters behind its first one the item takes
abbrev pub Step : Type 0
Step = List Inline × ℕ

-- the character itself (6.9)
abbrev pub as_literal : ℕ → List Inline → Step
as_literal c made = (Literal c ∷ made, 0)

-- ---- escapes and references (2.4, 2.5)

-- a '\' with this text behind it: a hard break (6.7), or an escape
unfoldable pub backslash : List Inline → ℕ → Text → Step
backslash made c [] = as_literal c made
backslash made c (d ∷ rest) =
    elim (d == 10) [
      | true ↦ (HardBreak ∷ made, suc (run_length 32 rest))
      | false ↦ elim (is_ascii_punctuation d) [ true ↦ (Literal d ∷ made, 1) | false ↦ as_literal c made ]
    ]

-- a '&' with this text behind it
unfoldable pub ampersand : Rules → List Inline → ℕ → Text → Step
ampersand rules made c rest = elim (character_reference rules rest)
    [ None ↦ as_literal c made | Some found ↦ (Reference (c ∷ take found.1 rest) found.0 ∷ made, found.1) ]

-- ---- delimiter runs (6.2)

-- a '*', '_' or '~' with this text behind it, and this character before it; the ends of the text count as white space
unfoldable pub delimiters : ℕ → List Inline → ℕ → Text → Step
delimiters last made c rest =
    let n : ℕ = run_length c rest in
    (Delimiters (run_between c (suc n) last (first_or 10 (drop n rest))) ∷ made, n)

-- a '~' with this text behind it, and this character before it: one or two are a delimiter run, more are text (GFM 6.5)
unfoldable pub tildes : ℕ → List Inline → ℕ → Text → Step
tildes last made c rest =
    let n : ℕ = run_length c rest in
    elim (nat_le n 1) [ true ↦ delimiters last made c rest | false ↦ (replicate (suc n) (Literal c) ++ made, n) ]

-- ---- brackets (6.3, 6.4)

-- a '[' with this text behind it
abbrev pub left_bracket : List Inline → Text → Step
left_bracket made rest = (Open (record { image = false; live = true; behind = rest }) ∷ made, 0)

-- a '!' with this text behind it
unfoldable pub bang : List Inline → ℕ → Text → Step
bang made c [] = as_literal c made
bang made c (d ∷ rest) = elim (d == 91) [
  | true ↦ (Open (record { image = true; live = true; behind = rest }) ∷ made, 1)
  | false ↦
      as_literal c made
]

-- ---- autolinks and raw HTML (6.5, 6.6)

-- a link without a title
abbrev pub autolink_span : Text → Span
autolink_span dest = Link (record { dest = dest; title = None })

-- a link to this destination over this text
unfoldable pub autolink : Text → Text → List Inline → List Inline
autolink dest text made = End (autolink_span dest) ∷ onto (literals text) (Start (autolink_span dest) ∷ made)

-- the address between a '<', which this text follows, and the '>' before this rest
abbrev pub address : Text → Text → Text
address after rest = inside (60 ∷ before after rest)

-- a '<' with this text behind it
unfoldable pub left_angle : List Inline → Text → Step
left_angle made rest =
    elim ((uri then is 62) rest) [
      | Some after ↦ (autolink (address after rest) (address after rest) made, length rest - length after)
      | None ↦ elim ((mail then is 62) rest) [
        | Some after ↦ (autolink (codes "mailto:" ++ address after rest) (address after rest) made, length rest - length after)
        | None ↦ elim (raw_html (60 ∷ rest)) [
          | Some after ↦ (Raw (before after (60 ∷ rest)) ∷ made, length rest - length after)
          | None ↦ as_literal 60 made
        ]
      ]
    ]

-- ---- bare links (GFM 6.9)

-- a bracket that may still begin a link or an image stands among what was made
unfoldable pub has_live_bracket : List Inline → Bool
has_live_bracket [] = false
has_live_bracket (Open bracket ∷ more) = bracket.live || has_live_bracket more
has_live_bracket (inline ∷ more) = has_live_bracket more

-- the bare link with this destination and this source, or else the character itself
abbrev pub bare_step : List Inline → ℕ → Option (Text × Text) → Step
bare_step made c None = as_literal c made
bare_step made c (Some found) = (autolink found.0 found.1 made, length found.1 - 1)

-- a letter between this character and this text, with which a bare link may begin, though not in a bracket
unfoldable pub bare_link : ℕ → List Inline → ℕ → Text → Step
bare_link last made c rest =
    elim (has_live_bracket made) [ true ↦ as_literal c made | false ↦ bare_step made c (bare_address last (c ∷ rest)) ]

-- ---- line breaks (6.7, 6.8)

-- behind n spaces a line ending with the spaces behind it: hard where two spaces or more stand before it. Tabs stay (this project's choice)
unfoldable pub break_behind : ℕ → List Inline → ℕ → Text → Step
break_behind n made c [] = as_literal c made
break_behind n made c (d ∷ rest) =
    elim (d == 10) [ true ↦ ((if nat_le 2 n then HardBreak else SoftBreak) ∷ made, n + run_length 32 rest) | false ↦ as_literal c made ]

-- a space or a line ending with this text behind it
unfoldable pub gap : List Inline → ℕ → Text → Step
gap made c rest = let n : ℕ = run_length 32 (c ∷ rest) in break_behind n made c (drop n (c ∷ rest))

-- ---- the whole text

-- what a character may begin
pub data Kind : Type 0 where
  Backslash Ampersand Backtick LeftAngle Delimiter LeftBracket Bang RightBracket Gap Tilde Address Other : Kind

-- the characters that may begin something, some of them by an option
unfoldable pub kinds : List (ℕ × Kind)
kinds = (92, Backslash) ∷ (38, Ampersand) ∷ (96, Backtick) ∷ (60, LeftAngle) ∷ (42, Delimiter) ∷ (95, Delimiter) ∷ (91, LeftBracket) ∷
    (33, Bang) ∷ (93, RightBracket) ∷ (32, Gap) ∷ (10, Gap) ∷ (126, Tilde) ∷ (119, Address) ∷ (104, Address) ∷ (72, Address) ∷
    (102, Address) ∷ (70, Address) ∷ []

-- what this table says of a character
unfoldable pub kind_in : List (ℕ × Kind) → ℕ → Kind
kind_in [] c = Other
kind_in (entry ∷ more) c = elim (c == entry.0) [ true ↦ entry.1 | false ↦ kind_in more c ]

-- one item: it begins with this character, which stands between this one and this text
unfoldable pub item_of_kind : Kind → Rules → List Definition → ℕ → List Inline → ℕ → Text → Step
item_of_kind Backslash rules refs last made c rest = backslash made c rest
item_of_kind Ampersand rules refs last made c rest = ampersand rules made c rest
item_of_kind Backtick rules refs last made c rest = code_span made rest
item_of_kind LeftAngle rules refs last made c rest = left_angle made rest
item_of_kind Delimiter rules refs last made c rest = delimiters last made c rest
item_of_kind LeftBracket rules refs last made c rest = left_bracket made rest
item_of_kind Bang rules refs last made c rest = bang made c rest
item_of_kind RightBracket rules refs last made c rest = close_bracket rules refs made rest
item_of_kind Gap rules refs last made c rest = gap made c rest
item_of_kind Tilde rules refs last made c rest = if rules.strikethrough then tildes last made c rest else as_literal c made
item_of_kind Address rules refs last made c rest = if rules.bare_links then bare_link last made c rest else as_literal c made
item_of_kind Other rules refs last made c rest = as_literal c made

-- one item, by its first character
unfoldable pub read_item : Rules → List Definition → ℕ → List Inline → ℕ → Text → Step
read_item rules refs last made c rest = item_of_kind (kind_in kinds c) rules refs last made c rest

-- all items of a text behind this character; its first n characters are read already
unfoldable pub read : Rules → List Definition → ℕ → List Inline → ℕ → Text → List Inline
read rules refs last made n [] = made
read rules refs last made (suc n) (c ∷ rest) = read rules refs c made n rest
read rules refs last made zero (c ∷ rest) =
    let step : Step = read_item rules refs last made c rest in
    read rules refs c step.0 step.1 rest

-- the inlines of a text
unfoldable pub inlines_of : Rules → List Definition → Text → List Inline
inlines_of rules refs text = emphasis_of (reverse (read rules refs 10 [] 0 text))
