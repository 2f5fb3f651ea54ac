-- The pieces of plain pages are cut.
use Rattle.std.proofs.Common.{ℕ, List, [], ◌∷◌}
use Rattle.doc_page.specs.Laws.{IsCut, PlainPagesAreCut}
use Rattle.doc_page.specs.Plain.{html_pieces, plain_html, plain_texts}

one_or_none : (html : List ℕ) → IsCut (html_pieces html)
one_or_none [] = tt
one_or_none (b ∷ bytes) = tt

pub plain_pages_are_cut : PlainPagesAreCut
plain_pages_are_cut text = one_or_none (plain_html (plain_texts text))
