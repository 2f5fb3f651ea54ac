-- The lines of a text join to it.
use Rattle.std.proofs.Common.{◌≡◌, ℕ, Bool, true, false, List, [], ◌∷◌, refl, ap, ◌∙◌}
use Rattle.std.specs.List.{concat}
use Rattle.doc_rules.specs.Characters.{Text}
use Rattle.doc_rules.specs.Lines.{ends_line, onto_first, lines_of}
use Rattle.doc_rules.specs.Laws.{LinesJoin}

onto_joins : (c : ℕ) (lines : List Text) → concat (onto_first c lines) ≡ c ∷ concat lines
unfolding onto_first
onto_joins c [] = refl
onto_joins c (line ∷ more) = refl

at_end : (c : ℕ) (rest : Text) → concat (lines_of rest) ≡ rest → (b : Bool) →
    concat (elim b [ true ↦ (c ∷ []) ∷ lines_of rest | false ↦ onto_first c (lines_of rest) ]) ≡ c ∷ rest
at_end c rest e true = ap (λ t. c ∷ t) e
at_end c rest e false = onto_joins c (lines_of rest) ∙ ap (λ t. c ∷ t) e

pub lines_join : LinesJoin
unfolding lines_of
lines_join [] = refl
lines_join (c ∷ rest) = at_end c rest (lines_join rest) (ends_line c rest)
