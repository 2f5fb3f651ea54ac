-- Examples: the anchors of headings.
use Rattle.std.proofs.Common.{◌≡◌, [], ◌∷◌, refl}
use Rattle.std.specs.Prelude.{codes}
use Rattle.doc_rules.proofs.Computing.{page_words}
use Rattle.doc_rules.specs.Anchors.{anchors_of}

used_names : anchors_of (codes "A" ∷ codes "A" ∷ codes "A-1" ∷ codes "!" ∷ [])
    ≡ codes "a" ∷ codes "a-1" ∷ codes "a-1-1" ∷ codes "section" ∷ []
unfolding page_words
used_names = refl

-- the least number that is free
least_numbers :
    anchors_of (codes "a" ∷ codes "a-1" ∷ codes "a" ∷ codes "a" ∷ codes "?" ∷ codes "Section" ∷ [])
    ≡ codes "a" ∷ codes "a-1" ∷ codes "a-2" ∷ codes "a-3" ∷ codes "section" ∷ codes "section-1" ∷ []
unfolding page_words
least_numbers = refl

-- what stays, what becomes '-', what goes
characters : anchors_of (codes "A b_C-d\te" ∷ codes "1. (x) & y!" ∷ codes "  " ∷ []) ≡ codes "a-b_c-d-e" ∷ codes "1-x--y" ∷ codes "--" ∷ []
unfolding page_words
characters = refl

-- case folding comes first: a ligature is its letters, 'İ' keeps its dot as a mark; '½' and '²' are numbers
folded : anchors_of ((0xFB03 ∷ []) ∷ (0x130 ∷ []) ∷ (0xBD ∷ 0xB2 ∷ []) ∷ []) ≡ codes "ffi" ∷ (105 ∷ 0x307 ∷ []) ∷ (0xBD ∷ 0xB2 ∷ []) ∷ []
unfolding page_words
folded = refl

-- a form feed is Unicode whitespace, a vertical tab is not; U+00A0 is of the category Zs
white_space : anchors_of ((97 ∷ 12 ∷ 98 ∷ 11 ∷ 99 ∷ []) ∷ (0xA0 ∷ []) ∷ []) ≡ codes "a-bc" ∷ codes "-" ∷ []
unfolding page_words
white_space = refl
