-- One row more.
use Rattle.std.proofs.Common.{◌≡◌, List, ◌++◌, append_assoc, ap, ◌∙◌}

-- what was found of a row stands behind what was found before it
pub row_found : {X : Type 0} (found more here rest whole : List X) → more ≡ found ++ here → found ++ (here ++ rest) ≡ whole
    → more ++ rest ≡ whole
row_found found more here rest whole is so_far = ap (λ xs. xs ++ rest) is ∙ append_assoc found here rest ∙ so_far
