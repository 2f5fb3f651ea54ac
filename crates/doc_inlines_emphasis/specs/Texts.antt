-- The marks of a run's delimiters.
use Rattle.std.specs.Prelude.{◌≡◌, ℕ, suc, Bool, List, [], ◌∷◌, ◌++◌, replicate, chars, ⊤}
use Rattle.doc_rules.specs.Characters as rules
use Rattle.doc_inlines_emphasis.specs.Marks.{Placed}
use Rattle.doc_inlines_emphasis.specs.declared.delimiter.Delimiter.{Delimiter}
use Rattle.doc_inlines_emphasis.specs.RunSteps.{delimiter, length_by}
use Rattle.doc_inlines_marks.specs.declared.mark_ref.MarkRef.{MarkRef}
use Rattle.doc_inlines_marks.specs.declared.mark_ref.MarkRef.TheVariants.{Text}

-- one or more of this delimiter; of '~' one or two
pub record IsRunText (own : Delimiter) (text : rules.Text) : Type 0 where
  pub more : ℕ
  pub is : text ≡ replicate (suc more) (delimiter own)
  pub fits : length_by own (suc more) ≡ suc more

-- the text of this character alone
abbrev pub IsTextOf : ℕ → MarkRef → Type 0
IsTextOf c (Text text) = chars text.now ≡ c ∷ []
IsTextOf c mark = ⊥

-- a text of its own for each of these characters
abbrev pub AreEach : List MarkRef → rules.Text → Type 0
AreEach [] [] = ⊤
AreEach [] (c ∷ rest) = ⊥
AreEach (mark ∷ more) [] = ⊥
AreEach (mark ∷ more) (c ∷ rest) = IsTextOf c mark × AreEach more rest

-- such texts come behind the marks
pub record AddsEach (old new : List MarkRef) (text : rules.Text) : Type 0 where
  pub added : List MarkRef
  pub each : AreEach added text
  pub behind : new ≡ old ++ added

-- a run of so many of this character, of which none is taken
abbrev pub fresh_run : ℕ → ℕ → ℕ → Bool → Bool → Placed
fresh_run first char length opens closes = record {
  first = first;
  run = record { char = char; left = length; length = length; opens = opens; closes = closes };
}
