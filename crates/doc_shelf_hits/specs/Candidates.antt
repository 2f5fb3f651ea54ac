-- What a search knows of each page that is seen, and what it makes of that. All of this is this project's choice.
use Rattle.std.specs.Prelude.{◌≡◌, ℕ, ◌+◌, ◌*◌, List, [], ◌∷◌, ◌++◌, map as mapped, Bool, not, ◌&&◌, ◌||◌, nat_lt, sum_by, slice_index_or}
use Rattle.std.specs.Prelude.{Option, Some, None, if◌then◌else◌}
use Rattle.std.specs.FinMap as map
use Rattle.std.specs.List.{list_all, list_any}
use Rattle.doc_page_parts.specs.declared.rendered.Heading.{Heading}
use Rattle.doc_page_parts.specs.declared.rendered.Rendered.{Rendered}
use Rattle.doc_people.specs.Folders.{first_text, title_by}
use Rattle.doc_people.specs.Hits.{count_of, is_named}
use Rattle.doc_people.specs.Terms.{meets}
use Rattle.doc_people.specs.declared.term.Term.{Term}
use Rattle.doc_words_search.specs.Words.{capped, word_counts, words_of}
use Rattle.doc_words_search.specs.declared.hit.Hit.{Hit}
use Rattle.doc_shelf_hits.specs.declared.candidates.Candidate.{Candidate}
use Rattle.doc_shelf_hits.specs.declared.candidates.Searched.{Searched}

-- ---- pages

-- how many words a term meets, of words with their counts
abbrev pub met_of : Term → List (List ℕ × ℕ) → ℕ
met_of term words = sum_by (λ entry. if meets term entry.0 then entry.1 else 0) words

-- each term meets a word of the title or of the path
abbrev pub is_named_by : List Term → List ℕ → List Heading → Bool
is_named_by terms path headings =
    list_all (λ term. list_any (meets term) (words_of (title_by path (first_text headings)) ++ words_of path)) terms

-- what is known of a page: its path, how many of its words each term meets, and whether it is named
pub record Known : Type 0 where
  pub path : List ℕ
  pub counts : List ℕ
  pub named : Bool

-- from its headings, and its words with their counts
abbrev pub known_by : List Term → List ℕ → List Heading → List (List ℕ × ℕ) → Known
known_by terms path headings words = record {
  path = path;
  counts = mapped (λ term. capped (met_of term words)) terms;
  named = is_named_by terms path headings;
}

-- by the definitions
abbrev pub known : List Term → List ℕ × Rendered → Known
known terms page = record { path = page.0; counts = mapped (count_of page.1) terms; named = is_named terms page }

-- what is known of what stands at a path
abbrev pub known_at : List Term → List ℕ → Option Rendered → List Known
known_at terms path None = []
known_at terms path (Some page) = known terms (path, page) ∷ []

-- of a candidate
abbrev pub known_of : Candidate → Known
known_of candidate = record { path = candidate.path; counts = candidate.counts.items; named = candidate.named }

-- the candidates are these pages
abbrev pub AreKnown : List Term → List (List ℕ × Rendered) → List Candidate → Type 0
AreKnown terms pages candidates = mapped known_of candidates ≡ mapped (known terms) pages

-- ---- what is kept of a page

-- its headings, and its words with their counts
abbrev pub parts_of : Searched → List Heading × List (List ℕ × ℕ)
parts_of page = (page.headings.now, page.words.now)

abbrev pub parts_in : Rendered → List Heading × List (List ℕ × ℕ)
parts_in page = (page.headings, map.entries (word_counts page))

-- the same from a rendering and the counts of words, where both are kept
abbrev pub parts_by : Option Rendered → Option (List (List ℕ × ℕ)) → Option (List Heading × List (List ℕ × ℕ))
parts_by None words = None
parts_by (Some page) None = None
parts_by (Some page) (Some words) = Some (page.headings, words)

-- what is known from these parts
abbrev pub known_from : List Term → List ℕ → Option (List Heading × List (List ℕ × ℕ)) → List Known
known_from terms path None = []
known_from terms path (Some parts) = known_by terms path parts.0 parts.1 ∷ []

-- ---- scores

-- the term at this place meets a word of the page
abbrev pub holds_at : ℕ → Known → Bool
holds_at at page = nat_lt 0 (slice_index_or page.counts at 0)

-- each term meets a word of the page
abbrev pub holds_each : Known → Bool
holds_each page = list_all (nat_lt 0) page.counts

-- the sum of counts, each times how rare its term is
abbrev pub weighted : List ℕ → List ℕ → ℕ
weighted [] rarities = 0
weighted (count ∷ counts) [] = 0
weighted (count ∷ counts) (rarity ∷ rarities) = capped (count * rarity) + weighted counts rarities

-- ---- hits

-- a page as a hit
abbrev pub hit_by : List ℕ → Known → Hit
hit_by rarities page = record { path = page.path; score = capped (weighted page.counts rarities) }

-- a page as a hit, where it is one
abbrev pub hit_if : List ℕ → Bool → Known → List Hit
hit_if rarities wanted page = if wanted then hit_by rarities page ∷ [] else []

-- it isn't named, but holds each term
abbrev pub is_other : Known → Bool
is_other page = holds_each page && not page.named

-- it is a hit at all
abbrev pub is_hit : Known → Bool
is_hit page = page.named || holds_each page
