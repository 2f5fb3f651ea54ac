-- What was made of a text, by the marks, the runs among them, and the brackets that are open.
use Rattle.std.specs.Prelude.{◌≡◌, ℕ, suc, ◌≤◌, nat_le, Bool, ◌||◌, List, [], ◌∷◌, reverse, length, take, drop, if◌then◌else◌, codes}
use Rattle.std.proofs.Math.ListN.{get_or}
use Rattle.doc_rules.specs.Characters.{Text}
use Rattle.doc_rules.specs.Inlines.{Inline, Open, Bracket, literals, onto}
use Rattle.doc_inlines_emphasis.specs.Marks.{Marks, Placed, seen, ArePlaced}

-- a bracket that is open: its mark, how many runs stand before it, whether it is an image's, and the text behind it
pub record OpenBracket : Type 0 where
  pub mark : ℕ
  pub runs : ℕ
  pub image : Bool
  pub behind : Text

-- the bracket of this number, where so many of the first brackets begin no link
abbrev pub bracket_shown : ℕ → ℕ → OpenBracket → Bracket
bracket_shown dead number bracket = record { image = bracket.image; live = bracket.image || nat_le dead number; behind = bracket.behind }

abbrev pub text_of_bracket : Bool → List Inline
text_of_bracket image = if image then literals (codes "![") else literals (codes "[")

-- what was made up to a mark, the nearest first; of the brackets the nearest stands first too
unfoldable pub made_below : Marks → ℕ → ℕ → List Placed → List OpenBracket → List Inline
made_below marks end dead runs [] = reverse (seen marks 0 end runs)
made_below marks end dead runs (bracket ∷ more) =
    onto (seen marks (suc bracket.mark) end (drop bracket.runs runs))
    (Open (bracket_shown dead (length more) bracket) ∷ made_below marks bracket.mark dead (take bracket.runs runs) more)

-- the brackets stand one after another among the marks and the runs, and the mark of each is its text
abbrev pub AreBrackets : Marks → ℕ → List Placed → List OpenBracket → Type 0
AreBrackets marks end runs [] = ArePlaced marks 0 end runs
AreBrackets marks end runs (bracket ∷ more) =
    (bracket.runs ≤ length runs)
    × (get_or marks bracket.mark [] ≡ text_of_bracket bracket.image)
    × ArePlaced marks (suc bracket.mark) end (drop bracket.runs runs)
    × AreBrackets marks bracket.mark (take bracket.runs runs) more
