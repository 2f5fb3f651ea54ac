-- Starts of thematic breaks, headings and fences (CommonMark 0.31.2, sections 4.1, 4.2, 4.3 and 4.5).
use Rattle.std.specs.Prelude.{ℕ, ◌-◌, nat_lt, nat_le, Bool, true, false, not, ◌&&◌, ◌||◌, ◌==◌, filter, length, Option, Some, None}
use Rattle.std.specs.List.{list_all}
use Rattle.doc_rules.specs.Characters.{Text, is_space_or_tab, is_blank_text, first_or, last_or, strip, strip_end}
use Rattle.doc_rules.specs.Columns.{Line, text_of, indent, after_indent}
use Rattle.doc_rules.specs.Parsers.{some}

-- the text of a line behind its indentation, where that is at most 3 columns
unfoldable pub marker_text : Line → Option Text
marker_text line = elim (nat_le (indent line) 3) [ true ↦ Some (text_of (after_indent line)) | false ↦ None ]

-- the end of a line, or a space or a tab
abbrev pub is_end : Text → Bool
is_end text = is_space_or_tab (first_or 32 text)

-- ---- thematic breaks (4.1)

-- three or more of this character, with spaces and tabs between and behind them
unfoldable pub is_break_of : ℕ → Text → Bool
is_break_of c text = nat_le 3 (length (filter (λ d. d == c) text)) && list_all (λ d. (d == c) || is_space_or_tab d) text

-- of '-', of '_' or of '*'
unfoldable pub is_thematic_break : Text → Bool
is_thematic_break text = is_break_of 45 text || (is_break_of 95 text || is_break_of 42 text)

-- ---- ATX headings (4.2)

-- the text without a closing run of '#', which stands at the front or behind a space or a tab
unfoldable pub without_closing : Text → Text
without_closing text =
    let front : Text = strip_end (λ c. c == 35) text in
    elim (is_space_or_tab (last_or 32 front)) [ true ↦ front | false ↦ text ]

-- what stands behind the opening '#', without a closing run and stripped
unfoldable pub heading_text : Text → Text
heading_text text = strip is_space_or_tab (without_closing (strip_end is_space_or_tab text))

-- the level and the text of a heading: 1 to 6 '#', then a space, a tab or the end
unfoldable pub atx_heading : Text → Option (ℕ × Text)
atx_heading text =
    elim (some (λ c. c == 35) text) [
      | None ↦ None
      | Some rest ↦ elim (nat_le (length text - length rest) 6 && is_end rest)
          [ true ↦ Some (length text - length rest, heading_text rest) | false ↦ None ]
    ]

-- ---- underlines of setext headings (4.3)

-- this character once or more, and nothing else
unfoldable pub is_all_of : ℕ → Text → Bool
is_all_of c text = nat_lt 0 (length text) && list_all (λ d. d == c) text

-- the level that an underline gives: 1 for '=', 2 for '-'; spaces and tabs may follow
unfoldable pub underline_level : Text → Option ℕ
underline_level text =
    let line : Text = strip_end is_space_or_tab text in
    elim (is_all_of 61 line) [ true ↦ Some 1 | false ↦ elim (is_all_of 45 line) [ true ↦ Some 2 | false ↦ None ] ]

-- ---- fences (4.5)

-- how a fence began: its character, how many of it, and the columns before it
pub record Fence : Type 0 where
  pub char : ℕ
  pub length : ℕ
  pub indent : ℕ

-- behind so many columns three or more of this character, and behind them an info string that passes the test
unfoldable pub fence_of : ℕ → (Text → Bool) → ℕ → Text → Option (Fence × Text)
fence_of c fits columns text =
    elim (some (λ d. d == c) text) [
      | None ↦ None
      | Some info ↦ elim (nat_le 3 (length text - length info) && fits info) [
        | true ↦ Some (record { char = c; length = length text - length info; indent = columns }, strip is_space_or_tab info)
        | false ↦ None
      ]
    ]

-- a fence and its info string as it stands, stripped: of backticks, with none in the info string, or of tildes
unfoldable pub opening_fence : ℕ → Text → Option (Fence × Text)
opening_fence columns text =
    elim (fence_of 96 (list_all (λ c. not (c == 96))) columns text)
    [ Some found ↦ Some found | None ↦ fence_of 126 (λ info. true) columns text ]

-- the same character, at least as many of it, and behind them spaces and tabs alone
unfoldable pub is_closing_text : Fence → Text → Bool
is_closing_text fence text =
    elim (some (λ c. c == fence.char) text) [
      | None ↦ false
      | Some rest ↦ nat_le fence.length (length text - length rest) && is_blank_text
          rest
    ]

-- the line closes this fence
unfoldable pub closes_fence : Fence → Line → Bool
closes_fence fence line = elim (marker_text line) [ None ↦ false | Some text ↦ is_closing_text fence text ]
