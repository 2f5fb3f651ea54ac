-- Which pages people find, in which order. The pages stand in a list, each with what the renderer makes of it: those of a view, and no
-- others count. All of this is this project's choice.
use Rattle.std.specs.Prelude.{ℕ, ◌*◌, ◌/◌, List, ◌++◌, length, map as mapped, filter, Bool, not, ◌&&◌, nat_lt, count_by, sum_by}
use Rattle.std.specs.List.{list_all, list_any}
use Rattle.doc_page_parts.specs.declared.rendered.Rendered.{Rendered}
use Rattle.doc_words_search.specs.Searches.{ranked}
use Rattle.doc_words_search.specs.Words.{capped, page_words, words_of}
use Rattle.doc_words_search.specs.declared.hit.Hit.{Hit}
use Rattle.doc_people.specs.Folders.{first_text, title_by}
use Rattle.doc_people.specs.Terms.{meets}
use Rattle.doc_people.specs.declared.term.Term.{Term}

-- how many words of a page a term meets
abbrev pub count_of : Rendered → Term → ℕ
count_of page term = capped (count_by (meets term) (page_words page))

-- a term meets a word of a page
abbrev pub holds : Rendered → Term → Bool
holds page term = nat_lt 0 (count_of page term)

-- the pages that have a word that a term meets
abbrev pub holders : List (List ℕ × Rendered) → Term → List (List ℕ × Rendered)
holders pages term = filter (λ page. holds page.1 term) pages

-- how rare a term is: all pages by those, the fraction dropped
abbrev pub rarity : List (List ℕ × Rendered) → Term → ℕ
rarity pages term = length pages / length (holders pages term)

-- what a term adds to a page's score
abbrev pub weight : List (List ℕ × Rendered) → Rendered → Term → ℕ
weight pages page term = capped (count_of page term * rarity pages term)

-- the score of a page: the sum over the terms
abbrev pub score : List (List ℕ × Rendered) → List Term → Rendered → ℕ
score pages terms page = capped (sum_by (weight pages page) terms)

-- the words of a page's title and of its path
abbrev pub names : List ℕ × Rendered → List (List ℕ)
names page = words_of (title_by page.0 (first_text page.1.headings)) ++ words_of page.0

-- each term meets one of these
abbrev pub is_named : List Term → List ℕ × Rendered → Bool
is_named terms page = list_all (λ term. list_any (meets term) (names page)) terms

-- each term meets a word of the page
abbrev pub is_held : List Term → List ℕ × Rendered → Bool
is_held terms page = list_all (holds page.1) terms

-- by score falling, then by path
abbrev pub hits_among : List (List ℕ × Rendered) → List Term → List (List ℕ × Rendered) → List Hit
hits_among pages terms found = ranked (mapped (λ page. record { path = page.0; score = score pages terms page.1 }) found)

-- first the pages that are named, and then the others that hold each term
unfoldable pub hits : List (List ℕ × Rendered) → List Term → List Hit
hits pages terms =
    hits_among pages terms (filter (is_named terms) pages)
    ++ hits_among pages terms (filter (λ page. is_held terms page && not (is_named terms page)) pages)
