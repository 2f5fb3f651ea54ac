-- Emphasis and strong emphasis (CommonMark 0.31.2, section 6.2), and strikethrough (GFM 0.29, section 6.5): the first run that has an
-- opener is wrapped with the nearest one, again and again.
use Rattle.std.specs.Prelude.{ℕ, zero, suc, ◌+◌, ◌-◌, ◌%◌, nat_lt, nat_le, Bool, true, false, not, ◌&&◌, ◌||◌, ◌==◌, List, [], ◌∷◌, ◌++◌}
use Rattle.std.specs.Prelude.{reverse, flat_map, Option, Some, None, if◌then◌else◌}
use Rattle.doc_rules.specs.Characters.{is_white, is_punctuation}
use Rattle.doc_rules.specs.Inlines.{Span, Emphasis, Strong, Strike, Run, Inline, Start, End, Delimiters, run_text, as_text}

-- ---- delimiter runs

-- a run is left-flanking where this holds of the characters behind and before it, right-flanking where it holds of those before and
-- behind it: the first is no white space, and no punctuation unless the second is white space or punctuation
abbrev pub is_flanking : ℕ → ℕ → Bool
is_flanking near far = not (is_white near) && (not (is_punctuation near) || (is_white far || is_punctuation far))

-- the run of n of this character between the character before it and the one behind it (rules 1 to 8); a '~' may open and close
-- as a '*' may
unfoldable pub run_between : ℕ → ℕ → ℕ → ℕ → Run
run_between c n last next =
    let left_flanking : Bool = is_flanking next last in
    let right_flanking : Bool = is_flanking last next in
    record {
      char = c;
      left = n;
      length = n;
      opens = left_flanking && (not (c == 95) || (not right_flanking || is_punctuation last));
      closes = right_flanking && (not (c == 95) || (not left_flanking || is_punctuation next));
    }

-- ---- pairs of runs

-- the run may both open and close
abbrev pub opens_and_closes : Run → Bool
opens_and_closes run = run.opens && run.closes

-- of the rules 9 and 10
abbrev pub is_multiple_of_3 : ℕ → Bool
is_multiple_of_3 n = n % 3 == 0

-- the lengths that the two runs had at first don't forbid that they are a pair: the rules 9 and 10
abbrev pub fits_by_3 : Run → Run → Bool
fits_by_3 opener closer =
    not ((opens_and_closes opener || opens_and_closes closer) && is_multiple_of_3 (opener.length + closer.length))
    || (is_multiple_of_3 opener.length && is_multiple_of_3 closer.length)

-- runs of '~' are as long as each other instead (GFM 6.5)
abbrev pub fits_in_length : Run → Run → Bool
fits_in_length opener closer = if closer.char == 126 then opener.length == closer.length else fits_by_3 opener closer

-- the two runs may be a pair
unfoldable pub matches : Run → Run → Bool
matches opener closer = ((opener.char == closer.char) && (opener.opens && closer.closes)) && fits_in_length opener closer

-- an opener: what stands between it and the closer, the opener, and what stands before it, the nearest first
pub record Opener : Type 0 where
  pub between : List Inline
  pub run : Run
  pub before : List Inline

-- the nearest opener for a closer among what stands before it, the nearest first; the runs between become text
unfoldable pub opener_of : Run → List Inline → List Inline → Option Opener
opener_of closer between [] = None
opener_of closer between (Delimiters run ∷ more) =
    elim (matches run closer) [
      | true ↦ Some (record { between = between; run = run; before = more })
      | false ↦ opener_of closer (run_text run ++ between) more
    ]
opener_of closer between (inline ∷ more) = opener_of closer (inline ∷ between) more

-- ---- wrapping

-- two where both have two left, else one (rules 13 and 14): of runs of '~' these are all
abbrev pub strength : Run → Run → ℕ
strength opener closer = if nat_le 2 opener.left && nat_le 2 closer.left then 2 else 1

-- the span of one delimiter of this character, or of two
abbrev pub span_of : ℕ → ℕ → Span
span_of c n = if c == 126 then Strike else if n == 2 then Strong else Emphasis

-- a run with n fewer left, or nothing where none is left
abbrev pub less : ℕ → Run → List Inline
less n run = elim (nat_lt n run.left) [ true ↦ Delimiters (record run { left = run.left - n }) ∷ [] | false ↦ [] ]

-- the inlines with what lies between a pair wrapped
unfoldable pub wrapped : Opener → Run → List Inline → List Inline
wrapped opener closer after =
    let n : ℕ = strength opener.run closer in
    let span : Span = span_of closer.char n in
    reverse opener.before ++ (less n opener.run ++ (Start span ∷ opener.between ++ (End span ∷ less n closer ++ after)))

-- the inlines with the first run that has an opener wrapped with it, where there is one; what is passed stands nearest first
unfoldable pub wrap_first : List Inline → List Inline → Option (List Inline)
wrap_first before [] = None
wrap_first before (Delimiters run ∷ after) =
    elim (opener_of run [] before) [ Some opener ↦ Some (wrapped opener run after) | None ↦ wrap_first (Delimiters run ∷ before) after ]
wrap_first before (inline ∷ after) = wrap_first (inline ∷ before) after

-- wrapped n times at most
unfoldable pub wrap_at_most : ℕ → List Inline → List Inline
wrap_at_most zero inlines = inlines
wrap_at_most (suc n) inlines = elim (wrap_first [] inlines) [ None ↦ inlines | Some next ↦ wrap_at_most n next ]

-- the delimiters that are left, and one more for each run: each wrap makes it less
unfoldable pub weight : List Inline → ℕ
weight [] = 0
weight (Delimiters run ∷ more) = suc run.left + weight more
weight (inline ∷ more) = weight more

-- the inlines wrapped until no run has an opener; what is left of runs and brackets is text
unfoldable pub emphasis_of : List Inline → List Inline
emphasis_of inlines = flat_map as_text (wrap_at_most (weight inlines) inlines)
