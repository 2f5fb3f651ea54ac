-- Examples: which anchors headings get beside those that are used, and what is kept of them.
use Rattle.std.proofs.Common.{◌≡◌, [], ◌∷◌, refl}
use Rattle.std.specs.Prelude.{codes}
use Rattle.doc_rules.proofs.Computing.{page_words}
use Rattle.doc_rules.specs.Anchors.{anchor_name, anchors_of, free_anchor}

-- ---- names

-- the case is folded, white space becomes '-', other marks go
title : anchor_name (codes "Getting Started!") ≡ codes "getting-started"
unfolding page_words
title = refl

-- a sharp s is folded to two letters, before anything goes
sharp_s : anchor_name (83 ∷ 116 ∷ 114 ∷ 97 ∷ 0xDF ∷ 101 ∷ []) ≡ codes "strasse"
unfolding page_words
sharp_s = refl

-- white space stays as '-' at both ends, and each character of it
white_space : anchor_name (codes " a \t b ") ≡ codes "-a---b-"
unfolding page_words
white_space = refl

-- nothing is left
nothing : anchor_name (codes "?!") ≡ codes "section"
unfolding page_words
nothing = refl

-- ---- anchors

-- a name that is free stays
free : free_anchor (codes "b" ∷ []) (codes "a") ≡ codes "a"
unfolding page_words
free = refl

-- NAME-1 is the first that is tried
first : free_anchor (codes "a" ∷ []) (codes "a") ≡ codes "a-1"
unfolding page_words
first = refl

-- a number that another heading's name has is passed over
passed : free_anchor (codes "a-1" ∷ codes "a-2" ∷ codes "a" ∷ []) (codes "a") ≡ codes "a-3"
unfolding page_words
passed = refl

-- a number below others that is free is taken
gap : free_anchor (codes "a-2" ∷ codes "a" ∷ []) (codes "a") ≡ codes "a-1"
unfolding page_words
gap = refl

-- an anchor with a number is a name of its own: the heading after it that is called so gets a number behind it
own : anchors_of (codes "a" ∷ codes "a" ∷ codes "a-1" ∷ codes "a" ∷ codes "a-1" ∷ [])
    ≡ codes "a" ∷ codes "a-1" ∷ codes "a-1-1" ∷ codes "a-2" ∷ codes "a-1-2" ∷ []
unfolding page_words
own = refl

-- from 9 to 10
tens :
    anchors_of (codes "x" ∷ codes "x" ∷ codes "x" ∷ codes "x" ∷ codes "x" ∷ codes "x" ∷ codes "x" ∷ codes "x" ∷ codes "x" ∷ codes "x" ∷
    codes "x" ∷ [])
    ≡ codes "x" ∷ codes "x-1" ∷ codes "x-2" ∷ codes "x-3" ∷ codes "x-4" ∷ codes "x-5" ∷ codes "x-6" ∷ codes "x-7" ∷ codes "x-8" ∷ codes
    "x-9" ∷ codes "x-10" ∷ []
unfolding page_words
tens = refl
