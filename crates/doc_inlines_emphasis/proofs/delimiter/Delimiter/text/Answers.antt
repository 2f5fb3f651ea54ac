use Rattle.std.proofs.Common.{[], ◌∷◌, ap, sym, ◌∙◌, arith}
use Rattle.doc_inlines_emphasis.specs.RunSteps.{delimiter}
use Rattle.doc_inlines_emphasis.proofs.MarkLaws.{one_char}
use Rattle.doc_inlines_emphasis.proofs.delimiter.Delimiter.text.Goals as goal

pub returns-in-Star : goal.returns-in-Star
returns-in-Star c = one_char 42 (omega arith) ∙ ap (λ d. delimiter d ∷ []) (sym c.in-Star.is)

pub returns-in-Underscore : goal.returns-in-Underscore
returns-in-Underscore c = one_char 95 (omega arith) ∙ ap (λ d. delimiter d ∷ []) (sym c.in-Underscore.is)

pub returns-in-Tilde : goal.returns-in-Tilde
returns-in-Tilde c = one_char 126 (omega arith) ∙ ap (λ d. delimiter d ∷ []) (sym c.in-Tilde.is)

pub returns-in-TwoTildes : goal.returns-in-TwoTildes
returns-in-TwoTildes c = one_char 126 (omega arith) ∙ ap (λ d. delimiter d ∷ []) (sym c.in-TwoTildes.is)
