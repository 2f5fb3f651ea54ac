-- The code span behind a backtick (CommonMark 0.31.2, section 6.1): its text and what stands behind it.
use Rattle.std.specs.Prelude.{ℕ, suc, ◌+◌, drop, take, Option, Some, None, chars}
use denote.Ref.{Bor}
use Rattle.doc_rules.specs.Characters.{Text}
use Rattle.doc_rules.specs.Parsers.{run_length}
use Rattle.doc_rules.specs.CodeSpans.{before_backticks, code_text}

-- a backtick with this text behind it: the text of the code span, if one begins there, and the text behind it, or else behind the run
unfoldable pub code_span_at : Text → Option Text × Text
code_span_at rest =
    let n : ℕ = run_length 96 rest in
    elim (before_backticks (suc n) 0 (drop n rest)) [
      | Some k ↦ (Some (code_text (take k (drop n rest))), drop (n + k + suc n) rest)
      | None ↦ (None, drop n rest)
    ]

-- the same as the code answers it
abbrev pub code_found : Option (Bor Text) × Bor Text → Option Text × Text
code_found (None, behind) = (None, chars behind.now)
code_found (Some content, behind) = (Some (chars content.now), chars behind.now)
