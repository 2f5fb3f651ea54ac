-- A search over the slots of the pages that are seen, in the order of their paths.
use Rattle.std.specs.Prelude.{◌≡◌, ⊤, ℕ, suc, ◌+◌, ◌*◌, ◌/◌, List, [], ◌∷◌, length, take, Bool, true, false, cond, if◌then◌else◌}
use Rattle.std.specs.Prelude.{IsTrue, Option, Some, None, is_some, unwrap_or, map as mapped, option_copied, slice_index_or, sum_by}
use Rattle.std.specs.FinMap as map
use Rattle.std.specs.List.{All, enumerate_from, filter, flat_map, list_all, zip}
use Rattle.std.specs.List.Sorted.{IsStrictlySortedBy}
use Rattle.doc_index.specs.declared.held.Held.{Held}
use Rattle.doc_index.specs.Held.{count_in, slot_at}
use Rattle.doc_index_tables.specs.Maps.{TextMap, pair_cmp}
use Rattle.doc_index_tables.specs.TableSteps.{number_in}
use Rattle.doc_page_parts.specs.Sights.{leads_to_itself}
use Rattle.doc_words_search.specs.Searches.{holders, holds_all, ranked}
use Rattle.doc_words_search.specs.Words.{capped}
use Rattle.doc_words_search.specs.declared.hit.Hit.{Hit}
use Rattle.doc_words_search.specs.declared.ranking.Scored.{Scored}
use Rattle.doc_words_search.specs.declared.search.Found.{Found}
use Rattle.doc_words_search.specs.declared.weighing.Postings.{Postings}
use Rattle.doc_words_search.specs.declared.weighing.Postings.TheVariants.{AtPlaces, InRow}
use Rattle.doc_words_search.specs.declared.weighing.Weighed.{Weighed}

abbrev pub page_in : {T : Type 0} → Option (Held T) → List (List ℕ × TextMap ℕ)
page_in None = []
page_in (Some page) = (page.path, page.counts) ∷ []

abbrev pub onto_page : {T : Type 0} → Option (Held T) → List (List ℕ × TextMap ℕ) → List (List ℕ × TextMap ℕ)
onto_page None pages = pages
onto_page (Some page) pages = (page.path, page.counts) ∷ pages

-- the pages of slots
abbrev pub pages_at : {T : Type 0} → List (Option (Held T)) → List ℕ → List (List ℕ × TextMap ℕ)
pages_at slots [] = []
pages_at slots (slot ∷ more) = onto_page (slot_at slots slot) (pages_at slots more)

-- how rare a word is, by the number of all pages and by some of them, among which are those that hold it
abbrev pub rarity_in : ℕ → List (List ℕ × TextMap ℕ) → List ℕ → ℕ
rarity_in all pages word = all / length (holders map.get pages word)

-- what a word adds to a page's score, by how rare each word is
abbrev pub weight_by : (List ℕ → ℕ) → TextMap ℕ → List ℕ → ℕ
weight_by rarity counts word = capped (unwrap_or (map.get counts word) 0 * rarity word)

abbrev pub score_by : (List ℕ → ℕ) → List (List ℕ) → TextMap ℕ → ℕ
score_by rarity words counts = capped (sum_by (weight_by rarity counts) words)

abbrev pub hits_by : (List ℕ → ℕ) → List (List ℕ) → List (List ℕ × TextMap ℕ) → List Hit
hits_by rarity words pages =
    mapped (λ page. record { path = page.0; score = score_by rarity words page.1 })
    (filter (λ page. holds_all map.get words page.1) pages)

-- the search among some pages, by the number of all
abbrev pub search_by : ℕ → List (List ℕ × TextMap ℕ) → List (List ℕ) → List Hit
search_by all pages words = take 100 (ranked (hits_by (rarity_in all pages) words pages))

-- of the pages that pass a test the lists have the same, each as often
abbrev pub Agree : (TextMap ℕ → Bool) → List (List ℕ × TextMap ℕ) → List (List ℕ × TextMap ℕ) → Type 0
Agree test some all =
    (f : List ℕ × TextMap ℕ → ℕ) → ((page : List ℕ × TextMap ℕ) → test page.1 ≡ false → f page ≡ 0) → sum_by f some ≡ sum_by f all

abbrev pub has_word : List ℕ → TextMap ℕ → Bool
has_word word counts = is_some (map.get counts word)

-- of the pages that hold a word, for each of these words
abbrev pub AgreeEach : List (List ℕ) → List (List ℕ × TextMap ℕ) → List (List ℕ × TextMap ℕ) → Type 0
AgreeEach [] some all = ⊤
AgreeEach (word ∷ words) some all = Agree (has_word word) some all × AgreeEach words some all

-- of the pages that a search for these words needs: for none of all
abbrev pub AgreeFor : List (List ℕ) → List (List ℕ × TextMap ℕ) → List (List ℕ × TextMap ℕ) → Type 0
AgreeFor [] some all = Agree (λ counts. true) some all
AgreeFor (word ∷ words) some all = AgreeEach (word ∷ words) some all

-- the sum over the places that are marked
abbrev pub sum_marked : List Bool → (ℕ → ℕ) → ℕ
sum_marked [] f = 0
sum_marked (mark ∷ marks) f = cond mark (f 0) 0 + sum_marked marks (λ i. f (suc i))

-- these are the places that are marked, each once
abbrev pub AreMarked : List Bool → List ℕ → Type 0
AreMarked marks places = (f : ℕ → ℕ) → sum_by f places ≡ sum_marked marks f

abbrev pub marked_at : List Bool → ℕ → Bool
marked_at marks i = slice_index_or marks i false

-- what was marked still is
abbrev pub StayMarked : List Bool → List Bool → Type 0
StayMarked old new = (i : ℕ) → marked_at old i ≡ true → marked_at new i ≡ true

-- each slot with a page that has the word is marked
abbrev pub MarksWord : {T : Type 0} → List (Option (Held T)) → List Bool → List ℕ → Type 0
MarksWord slots marks word = (i : ℕ) → is_some (count_in (slot_at slots i) word) ≡ true → marked_at marks i ≡ true

abbrev pub MarksWords : {T : Type 0} → List (Option (Held T)) → List Bool → List (List ℕ) → Type 0
MarksWords slots marks [] = ⊤
MarksWords slots marks (word ∷ words) = MarksWord slots marks word × MarksWords slots marks words

-- of slots with flags those whose flag is set
abbrev pub with_flag : List (ℕ × Bool) → List ℕ
with_flag pairs = mapped (λ one. one.0) (filter (λ one. one.1) pairs)

-- of these slots those whose flags are set: each has the flag at its place
abbrev pub flagged : List Bool → List ℕ → List ℕ
flagged flags ns = with_flag (zip ns flags)

-- the count of a word in a slot, by what was looked up
abbrev pub count_at : Postings → ℕ → Option ℕ
count_at (InRow row) slot = number_in (option_copied row) slot
count_at (AtPlaces counts) slot = slice_index_or counts.items slot None

-- a word with its row and its quotient
pub record IsWeighed {T : Type 0} (slots : List (Option (Held T))) (rarity : List ℕ → ℕ) (word : List ℕ) (weighed : Weighed) : Type 0 where
  pub counts : (slot : ℕ) → count_at weighed.postings slot ≡ count_in (slot_at slots slot) word
  pub quotient_is : weighed.quotient ≡ rarity word

abbrev pub AreWeighed : {T : Type 0} → List (Option (Held T)) → (List ℕ → ℕ) → List (List ℕ) → List Weighed → Type 0
AreWeighed slots rarity [] [] = ⊤
AreWeighed slots rarity [] (weighed ∷ more) = ⊥
AreWeighed slots rarity (word ∷ words) [] = ⊥
AreWeighed slots rarity (word ∷ words) (weighed ∷ more) = IsWeighed slots rarity word weighed × AreWeighed slots rarity words more

abbrev pub weight_at : ℕ → Weighed → ℕ
weight_at slot word = capped (unwrap_or (count_at word.postings slot) 0 * word.quotient)

-- the score of the page in a slot that has each word
abbrev pub score_at : List Weighed → ℕ → Option ℕ
score_at words slot =
    if list_all (λ word. is_some (count_at word.postings slot)) words then Some (capped (sum_by (weight_at slot) words)) else None

-- whether the page in a slot is seen
abbrev pub sees_at : {T : Type 0} → (List ℕ → Option (List ℕ)) → Option (Held T) → Bool
sees_at goals None = false
sees_at goals (Some page) = leads_to_itself (goals page.path) page.path

-- the hit of a page that has a score
abbrev pub hit_in : {T : Type 0} → Option (Held T) → Option ℕ → List Hit
hit_in None score = []
hit_in (Some page) None = []
hit_in (Some page) (Some score) = record { path = page.path; score = score } ∷ []

abbrev pub hit_at : {T : Type 0} → List (Option (Held T)) → List Weighed → ℕ → List Hit
hit_at slots words slot = hit_in (slot_at slots slot) (score_at words slot)

-- the hit that was found
abbrev pub hit_of : Found → Hit
hit_of found = record { path = found.path.now; score = found.score.0 }

-- the path and the stamp of the page in a slot
abbrev pub key_in : {T : Type 0} → Option (Held T) → List ℕ × ℕ
key_in None = ([], 0)
key_in (Some page) = (page.path, page.stamp)

abbrev pub key_at : {T : Type 0} → List (Option (Held T)) → ℕ → List ℕ × ℕ
key_at slots slot = key_in (slot_at slots slot)

-- each of these slots has a page, and their paths and stamps rise
pub record AreInOrder {T : Type 0} (slots : List (Option (Held T))) (ns : List ℕ) : Type 0 where
  pub present : All (λ slot. IsTrue (is_some (slot_at slots slot))) ns
  pub rise : IsStrictlySortedBy pair_cmp (mapped (key_at slots) ns)

-- what is found at a place, where there is a score
abbrev pub scored : ℕ → Option ℕ → List Scored
scored place None = []
scored place (Some score) = record { score = record { 0 = score }; place = place } ∷ []

-- the slots whose pages have each word, by their places, with their scores
abbrev pub scored_among : List Weighed → List ℕ → List Scored
scored_among words ns = flat_map (λ one. scored one.0 (score_at words one.1)) (enumerate_from 0 ns)

-- the hit of what was found at a place among slots
abbrev pub hit_placed : {T : Type 0} → List (Option (Held T)) → List ℕ → Scored → Hit
hit_placed slots ns one = record { path = (key_at slots (slice_index_or ns one.place 0)).0; score = one.score.0 }
