-- Which pages a search finds, in which order.
use Rattle.std.specs.Prelude.{ℕ, ◌*◌, ◌/◌, List, [], ◌∷◌, length, take, Bool, Option, is_some, unwrap_or, if◌then◌else◌}
use Rattle.std.specs.Prelude.{map as mapped, sum_by}
use Rattle.std.specs.Cmp.Lexicographic.{slice_cmp}
use Rattle.std.specs.FinMap as map
use Rattle.std.specs.List.{filter, list_all}
use Rattle.std.specs.Ordering.{is_lt, nat_cmp, ordering_then}
use Rattle.std.specs.declared.cmp.Ordering.{Ordering}
use Rattle.doc_index_tables.specs.Maps.{PairMap, TextMap}
use Rattle.doc_words_search.specs.declared.hit.Hit.{Hit}
use Rattle.doc_words_search.specs.Words.{capped}

-- Pages stand in a list, each under its path with what is known of it, and `count` tells how often that has a word: `None` where it
-- hasn't. All of this is this project's choice.

-- the pages that hold a word
abbrev pub holders : {X : Type 0} → (X → List ℕ → Option ℕ) → List (List ℕ × X) → List ℕ → List (List ℕ × X)
holders count pages word = filter (λ page. is_some (count page.1 word)) pages

-- how rare a word is: all pages by those that hold it, the fraction dropped
abbrev pub quotient : {X : Type 0} → (X → List ℕ → Option ℕ) → List (List ℕ × X) → List ℕ → ℕ
quotient count pages word = length pages / length (holders count pages word)

-- what a word adds to a page's score
abbrev pub weight : {X : Type 0} → (X → List ℕ → Option ℕ) → List (List ℕ × X) → X → List ℕ → ℕ
weight count pages known word = capped (unwrap_or (count known word) 0 * quotient count pages word)

-- the score of a page: the sum over the words of the list, in which one may stand twice
abbrev pub score : {X : Type 0} → (X → List ℕ → Option ℕ) → List (List ℕ × X) → List (List ℕ) → X → ℕ
score count pages words known = capped (sum_by (weight count pages known) words)

-- whether a page holds each word
abbrev pub holds_all : {X : Type 0} → (X → List ℕ → Option ℕ) → List (List ℕ) → X → Bool
holds_all count words known = list_all (λ word. is_some (count known word)) words

-- the pages that hold each word, with their scores
abbrev pub hits : {X : Type 0} → (X → List ℕ → Option ℕ) → List (List ℕ × X) → List (List ℕ) → List Hit
hits count pages words =
    mapped (λ page. record { path = page.0; score = score count pages words page.1 }) (filter (λ page. holds_all count words page.1) pages)

-- by score falling, then by path
abbrev pub rank_cmp : Hit → Hit → Ordering
rank_cmp a b = ordering_then (nat_cmp b.score a.score) (slice_cmp nat_cmp a.path b.path)

-- a hit in its place among hits in their order
abbrev pub placed : Hit → List Hit → List Hit
placed hit [] = hit ∷ []
placed hit (other ∷ hits) = if is_lt (rank_cmp other hit) then other ∷ placed hit hits else hit ∷ other ∷ hits

-- hits in their order
abbrev pub ranked : List Hit → List Hit
ranked [] = []
ranked (hit ∷ hits) = placed hit (ranked hits)

-- the first 100 hits
abbrev pub best : {X : Type 0} → (X → List ℕ → Option ℕ) → List (List ℕ × X) → List (List ℕ) → List Hit
best count pages words = take 100 (ranked (hits count pages words))

-- the search over pages of which the counts of their words are known
abbrev pub search : List (List ℕ × TextMap ℕ) → List (List ℕ) → List Hit
search pages words = best map.get pages words

-- the pages that are held, by path and then by stamp
abbrev pub pages_of : PairMap (TextMap ℕ) → List (List ℕ × TextMap ℕ)
pages_of held = mapped (λ entry. (entry.0.0, entry.1)) (map.entries held)
