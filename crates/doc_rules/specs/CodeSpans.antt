-- Code spans (CommonMark 0.31.2, section 6.1).
use Rattle.std.specs.Prelude.{ℕ, suc, ◌+◌, Bool, true, false, not, ◌&&◌, ◌||◌, ◌==◌, List, [], ◌∷◌, ◌++◌, map, replicate, drop, take}
use Rattle.std.specs.Prelude.{Option, Some, None, option_map, if◌then◌else◌}
use Rattle.std.specs.List.{list_all}
use Rattle.doc_rules.specs.Characters.{Text, first_or, last_or}
use Rattle.doc_rules.specs.Parsers.{inside, run_length}
use Rattle.doc_rules.specs.Inlines.{Inline, Literal, Code}

-- how many characters stand before the first run of exactly n backticks; this character stands before the text
unfoldable pub before_backticks : ℕ → ℕ → Text → Option ℕ
before_backticks n last [] = None
before_backticks n last (c ∷ rest) =
    elim ((c == 96) && (not (last == 96) && (run_length 96 (c ∷ rest) == n)))
    [ true ↦ Some 0 | false ↦ option_map suc (before_backticks n c rest) ]

-- a line ending counts as a space
abbrev pub is_code_space : ℕ → Bool
is_code_space c = (c == 32) || (c == 10)

-- the text without one space at each end, where both ends have one and not all is spaces
unfoldable pub code_text : Text → Text
code_text text = elim (is_code_space (first_or 0 text) && (is_code_space (last_or 0 text) && not (list_all is_code_space text)))
    [ true ↦ inside text | false ↦ text ]

-- the text as it is read: its line endings are spaces
unfoldable pub spaced : Text → Text
spaced = map (λ c. if c == 10 then 32 else c)

-- a backtick with this text behind it: a code span, or else its run of backticks as text
unfoldable pub code_span : List Inline → Text → List Inline × ℕ
code_span made rest =
    let n : ℕ = run_length 96 rest in
    elim (before_backticks (suc n) 0 (drop n rest)) [
      | Some k ↦ (Code (code_text (take k (drop n rest))) ∷ made, n + k + suc n)
      | None ↦ (replicate (suc n) (Literal 96) ++ made, n)
    ]
