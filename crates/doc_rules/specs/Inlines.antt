-- Inlines (CommonMark 0.31.2, section 6): a flat list, in which a span has its start and its end.
use Rattle.std.specs.Prelude.{ℕ, Bool, List, [], ◌∷◌, ◌++◌, map, reverse, replicate, if◌then◌else◌, codes}
use Rattle.doc_rules.specs.Characters.{Text}
use Rattle.doc_rules.specs.Destinations.{Target}

-- what inlines may stand in (6.2 to 6.4; GFM 6.5)
pub data Span : Type 0 where
  Emphasis Strong Strike : Span
  Link Image : Target → Span

-- a run of '*', '_' or '~': its character, how many are left of it, how many it had, and what it may do (6.2)
pub record Run : Type 0 where
  pub char : ℕ
  pub left : ℕ
  pub length : ℕ
  pub opens : Bool
  pub closes : Bool

-- a '[' or '![', whether it may still begin a link or an image, and the text behind it (6.3, 6.4)
pub record Bracket : Type 0 where
  pub image : Bool
  pub live : Bool
  pub behind : Text

-- each character of text is a literal of its own; code keeps its line endings; a reference has its source and what it stands for;
-- runs and brackets stand only while a text is read
pub data Inline : Type 0 where
  Literal : ℕ → Inline
  Code Raw : Text → Inline
  Reference : (source characters : Text) → Inline
  SoftBreak HardBreak : Inline
  Start End : Span → Inline
  Delimiters : Run → Inline
  Open : Bracket → Inline

-- a text as literals
abbrev pub literals : Text → List Inline
literals = map Literal

-- these inlines put before others, of which the nearest stands first
abbrev pub onto : List Inline → List Inline → List Inline
onto inlines made = reverse inlines ++ made

-- what is left of a run as the text that it is
unfoldable pub run_text : Run → List Inline
run_text run = replicate run.left (Literal run.char)

-- a bracket as the text that it is
unfoldable pub bracket_text : Bracket → List Inline
bracket_text bracket = if bracket.image then literals (codes "![") else literals (codes "[")

-- an inline as it stands when all is read: runs and brackets that are left are text
unfoldable pub as_text : Inline → List Inline
as_text (Delimiters run) = run_text run
as_text (Open bracket) = bracket_text bracket
as_text inline = inline ∷ []
