-- Searches on examples, over pages known by lists of words with their counts.
use Rattle.std.proofs.Common.{◌≡◌, ℕ, ◌-◌, ◌^◌, List, [], ◌∷◌, true, false, length, codes, refl, bytes_eq, if◌then◌else◌}
use Rattle.std.specs.Prelude.{Option, Some, None, map as mapped}
use Rattle.std.specs.List.{range_with_len}
use Rattle.std.specs.Map.{lookup}
use Rattle.doc_page_parts.specs.Sights.{seen}
use Rattle.doc_words_search.specs.Searches.{best, score}
use Rattle.doc_words_search.specs.SearchSteps.{flagged}
use Rattle.doc_words_search.specs.declared.hit.Hit.{Hit}

abbrev Counts : Type 0
Counts = List (List ℕ × ℕ)

abbrev counted : Counts → List ℕ → Option ℕ
counted counts word = lookup (bytes_eq word) counts

abbrev kiwi : List ℕ
kiwi = codes "kiwi"

abbrev plum : List ℕ
plum = codes "plum"

abbrev hit : List ℕ → ℕ → Hit
hit path score = record { path = path; score = score }

-- c.md is hidden
abbrev goals : List ℕ → Option (List ℕ)
goals path = if bytes_eq path (codes "c.md") then None else Some path

abbrev three : List (List ℕ × Counts)
three = (codes "a.md", (kiwi, 1) ∷ []) ∷ (codes "b.md", (kiwi, 2) ∷ []) ∷ (codes "c.md", (kiwi, 7) ∷ []) ∷ []

by_score : best counted (seen goals three) (kiwi ∷ []) ≡ hit (codes "b.md") 2 ∷ hit (codes "a.md") 1 ∷ []
by_score = refl

-- with no words each page is found, with one that stands twice each counts twice
no_list : best counted (seen goals three) [] ≡ hit (codes "a.md") 0 ∷ hit (codes "b.md") 0 ∷ []
no_list = refl

twice : best counted (seen goals three) (kiwi ∷ kiwi ∷ []) ≡ hit (codes "b.md") 4 ∷ hit (codes "a.md") 2 ∷ []
twice = refl

-- a word is weighed by all pages, also those without words, by those that hold it
abbrev some : List (List ℕ × Counts)
some = (codes "p.md", (kiwi, 1) ∷ (plum, 1) ∷ []) ∷ (codes "q.md", (kiwi, 2) ∷ []) ∷ (codes "s.md", []) ∷ []

abbrev all : List (List ℕ × Counts)
all = (codes "p.md", (kiwi, 1) ∷ (plum, 1) ∷ []) ∷ (codes "q.md", (kiwi, 2) ∷ []) ∷ (codes "r.md", (plum, 1) ∷ []) ∷ (codes "s.md", []) ∷ []

kiwi_in_some : best counted some (kiwi ∷ []) ≡ hit (codes "q.md") 2 ∷ hit (codes "p.md") 1 ∷ []
kiwi_in_some = refl

kiwi_in_all : best counted all (kiwi ∷ []) ≡ hit (codes "q.md") 4 ∷ hit (codes "p.md") 2 ∷ []
kiwi_in_all = refl

plum_in_some : best counted some (plum ∷ []) ≡ hit (codes "p.md") 3 ∷ []
plum_in_some = refl

plum_in_all : best counted all (plum ∷ []) ≡ hit (codes "p.md") 2 ∷ hit (codes "r.md") 2 ∷ []
plum_in_all = refl

both_in_some : best counted some (kiwi ∷ plum ∷ []) ≡ hit (codes "p.md") 4 ∷ []
both_in_some = refl

both_in_all : best counted all (kiwi ∷ plum ∷ []) ≡ hit (codes "p.md") 4 ∷ []
both_in_all = refl

-- hits come in their order whatever order the pages have
turned : best counted ((codes "b.md", (kiwi, 1) ∷ []) ∷ (codes "a.md", (kiwi, 1) ∷ []) ∷ []) (kiwi ∷ [])
    ≡ hit (codes "a.md") 1 ∷ hit (codes "b.md") 1 ∷ []
turned = refl

-- a product past 64 bits counts as their last value, and so does a sum
product : score counted ((codes "a.md", (kiwi, 2 ^ 63) ∷ []) ∷ (codes "b.md", []) ∷ []) (kiwi ∷ []) ((kiwi, 2 ^ 63) ∷ []) ≡ 2 ^ 64 - 1
product = refl

total : score counted ((codes "a.md", (kiwi, 2 ^ 63) ∷ []) ∷ []) (kiwi ∷ kiwi ∷ []) ((kiwi, 2 ^ 63) ∷ []) ≡ 2 ^ 64 - 1
total = refl

-- no more than 100 are found
most : length (best counted (mapped (λ n. (n ∷ [], [])) (range_with_len 0 101)) []) ≡ 100
most = refl

-- a flag is that of the slot at its place
by_place : flagged (true ∷ false ∷ true ∷ []) (4 ∷ 0 ∷ 2 ∷ []) ≡ 4 ∷ 2 ∷ []
by_place = refl

-- what has no flag isn't seen
no_flag : flagged (true ∷ []) (4 ∷ 0 ∷ 2 ∷ []) ≡ 4 ∷ []
no_flag = refl
