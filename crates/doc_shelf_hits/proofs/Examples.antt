-- The definitions on examples.
use Rattle.std.proofs.Common.{◌≡◌, ◌-◌, ◌^◌, List, ℕ, [], ◌∷◌, Bool, true, false, codes, refl}
use Rattle.doc_shelf_hits.specs.Candidates.{Known, holds_at, is_hit, is_other, weighted}

abbrev page : List ℕ → Bool → Known
page counts named = record { path = codes "a.md"; counts = counts; named = named }

-- scores
two_terms : weighted (2 ∷ 3 ∷ []) (5 ∷ 7 ∷ []) ≡ 31
two_terms = refl

too_much : weighted (2 ^ 63 ∷ []) (2 ∷ []) ≡ 2 ^ 64 - 1
too_much = refl

-- pages that hold each term, that lack one, that are named
each_held : is_other (page (1 ∷ 2 ∷ []) false) ≡ true
each_held = refl

one_lacks : is_hit (page (1 ∷ 0 ∷ []) false) ≡ false
one_lacks = refl

named_alone : is_hit (page (1 ∷ 0 ∷ []) true) ≡ true
named_alone = refl

named_first : is_other (page (1 ∷ 2 ∷ []) true) ≡ false
named_first = refl

second_held : holds_at 1 (page (0 ∷ 2 ∷ []) false) ≡ true
second_held = refl

no_such_term : holds_at 2 (page (0 ∷ 2 ∷ []) false) ≡ false
no_such_term = refl
