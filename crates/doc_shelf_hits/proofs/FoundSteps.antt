-- The hits among candidates are those among the pages.
use Rattle.std.proofs.Common.{◌≡◌, ℕ, zero, suc, ◌+◌, ◌-◌, List, [], ◌∷◌, ◌++◌, length, take, Bool, true, false, cond, ◌&&◌, ◌||◌, not, refl, ap, ap₂, sym, ◌∙◌, arith}
use Rattle.std.specs.Prelude.{count_by, map as mapped, nat_lt}
use Rattle.std.specs.List.{filter, flat_map}
use Rattle.std.proofs.lemmas.List.{length-append, length-map}
use Rattle.std.proofs.lemmas.List.Folds.{flat_map-map, list_all-map}
use Rattle.doc_page_parts.specs.declared.rendered.Rendered.{Rendered}
use Rattle.doc_people.specs.Hits.{count_of, hits, hits_among, is_held, is_named, rarity, score}
use Rattle.doc_people.specs.declared.term.Term.{Term}
use Rattle.doc_words_search.proofs.RankSteps.{length_ranked}
use Rattle.doc_words_search.specs.Searches.{ranked}
use Rattle.doc_words_search.specs.Words.{capped}
use Rattle.doc_words_search.specs.declared.hit.Hit.{Hit}
use Rattle.doc_shelf_hits.specs.declared.candidates.Candidate.{Candidate}
use Rattle.doc_shelf_hits.specs.Candidates.{AreKnown, Known, hit_by, hit_if, is_hit, is_other, known, known_of}
use Rattle.doc_shelf_hits.proofs.ScoreSteps.{count_filter, count_mapped, weights_are}

-- some of a list, each changed
some_mapped : {X Y : Type 0} (g : X → List Y) (p : X → Bool) (f : X → Y) → ((x : X) → g x ≡ cond (p x) (f x ∷ []) [])
    → (xs : List X) → flat_map g xs ≡ mapped f (filter p xs)
some_mapped g p f is [] = refl
some_mapped {X = X} {Y = Y} g p f is (x ∷ xs) =
    ap₂ (λ first rest. first ++ rest) (is x) (some_mapped g p f is xs) ∙ by (p x) (filter p xs)
  where
    by : (b : Bool) (some : List X) → cond b (f x ∷ []) [] ++ mapped f some ≡ mapped f (cond b (x ∷ some) some)
    by true some = refl
    by false some = refl

module _ (pages : List (List ℕ × Rendered)) (terms : List Term) where
  abbrev made : List ℕ × Rendered → Hit
  made page = record { path = page.0; score = score pages terms page.1 }

  abbrev other : List ℕ × Rendered → Bool
  other page = is_held terms page && not (is_named terms page)

  -- a page as a hit
  hit_is : (page : List ℕ × Rendered) → hit_by (mapped (rarity pages) terms) (known terms page) ≡ made page
  hit_is page = λ i. record { path = page.0; score = capped (weights_are pages page.1 terms i) }

  other_is : (page : List ℕ × Rendered) → is_other (known terms page) ≡ other page
  other_is page = ap (λ held. held && not (is_named terms page)) (list_all-map (nat_lt 0) (count_of page.1) terms)

  module _ (candidates : List Candidate) (are : AreKnown terms pages candidates) (rarities : List ℕ)
      (rare : rarities ≡ mapped (rarity pages) terms) where
    -- those that pass a test
    some_hits : (wanted : Known → Bool) (p : List ℕ × Rendered → Bool) → ((page : List ℕ × Rendered) → wanted (known terms page) ≡ p page)
        → flat_map (λ candidate. hit_if rarities (wanted (known_of candidate)) (known_of candidate)) candidates
        ≡ mapped made (filter p pages)
    some_hits wanted p same =
        ap (λ rs. flat_map (λ candidate. hit_if rs (wanted (known_of candidate)) (known_of candidate)) candidates) rare
        ∙ sym (flat_map-map (λ k. hit_if (mapped (rarity pages) terms) (wanted k) k) known_of candidates)
        ∙ ap (flat_map (λ k. hit_if (mapped (rarity pages) terms) (wanted k) k)) are
        ∙ flat_map-map (λ k. hit_if (mapped (rarity pages) terms) (wanted k) k) (known terms) pages
        ∙ some_mapped (λ page. hit_if (mapped (rarity pages) terms) (wanted (known terms page)) (known terms page)) p made
        (λ page. ap₂ (λ b hit. cond b (hit ∷ []) []) (same page) (hit_is page)) pages

    -- the hits of both lists
    pub hits_are : (first second : List Hit)
        → first ≡ flat_map (λ candidate. hit_if rarities candidate.named (known_of candidate)) candidates
        → second ≡ flat_map (λ candidate. hit_if rarities (is_other (known_of candidate)) (known_of candidate)) candidates
        → ranked first ++ ranked second ≡ hits pages terms
    unfolding hits
    hits_are first second named others =
        ap₂ (λ xs ys. ranked xs ++ ranked ys)
        (named ∙ some_hits (λ k. k.named) (is_named terms) (λ page. refl))
        (others ∙ some_hits is_other other other_is)

  -- ---- how many

  either : (named held : Bool) (n a b : ℕ) (page : List ℕ × Rendered) → n ≡ a + b
      → cond (named || held) 1 0 + n ≡ cond named (suc a) a + cond (held && not named) (suc b) b
  either true true n a b page is = omega arith
  either true false n a b page is = omega arith
  either false true n a b page is = omega arith
  either false false n a b page is = omega arith

  abbrev is_found : List ℕ × Rendered → Bool
  is_found page = is_named terms page || is_held terms page

  length_cond : (b : Bool) (page : List ℕ × Rendered) (some : List (List ℕ × Rendered))
      → length (cond b (page ∷ some) some) ≡ cond b (suc (length some)) (length some)
  length_cond true page some = refl
  length_cond false page some = refl

  found_length : (found : List (List ℕ × Rendered))
      → length (filter is_found found) ≡ length (filter (is_named terms) found) + length (filter other found)
  found_length [] = refl
  found_length (page ∷ rest) =
      let a : ℕ = length (filter (is_named terms) rest) in
      let b : ℕ = length (filter other rest) in
      length_cond (is_found page) page (filter is_found rest)
      ∙ by (is_found page) (length (filter is_found rest))
      ∙ either (is_named terms page) (is_held terms page) (length (filter is_found rest)) a b page (found_length rest)
      ∙ sym (ap₂ (λ m n. m + n) (length_cond (is_named terms page) page (filter (is_named terms) rest))
      (length_cond (other page) page (filter other rest)))
    where
      by : (b : Bool) (n : ℕ) → cond b (suc n) n ≡ cond b 1 0 + n
      by true n = omega arith
      by false n = omega arith

  length_among : (p : List ℕ × Rendered → Bool) → length (hits_among pages terms (filter p pages)) ≡ length (filter p pages)
  length_among p = length_ranked (mapped made (filter p pages)) ∙ length-map (filter p pages) made

  hit_test : (page : List ℕ × Rendered) → is_hit (known terms page) ≡ is_found page
  hit_test page = ap (λ held. is_named terms page || held) (list_all-map (nat_lt 0) (count_of page.1) terms)

  pub count_is : (candidates : List Candidate) → AreKnown terms pages candidates
      → count_by (λ candidate. is_hit (known_of candidate)) candidates ≡ length (hits pages terms)
  unfolding hits
  count_is candidates are =
      count_mapped is_hit known_of candidates ∙ ap (count_by is_hit) are ∙ sym (count_mapped is_hit (known terms) pages)
      ∙ count_filter (λ page. is_hit (known terms page)) pages
      ∙ ap (λ test. length (filter test pages)) (λ i page. hit_test page i)
      ∙ found_length pages
      ∙ sym (length-append (hits_among pages terms (filter (is_named terms) pages)) (hits_among pages terms (filter other pages))
      ∙ ap₂ (λ m n. m + n) (length_among (is_named terms)) (length_among other))

-- ---- the first so many

none_taken : {X : Type 0} (n : ℕ) (none : List X) → none ≡ [] → none ≡ take n none
none_taken n [] e = none n
  where
    none : {X : Type 0} (n : ℕ) → ◌≡◌ {A = List X} [] (take n [])
    none zero = refl
    none (suc n) = refl
none_taken n (x ∷ xs) e = cc

pub take_both : {X : Type 0} (n : ℕ) (xs ys : List X) → take n (xs ++ ys) ≡ take n xs ++ take (n - length xs) ys
take_both n [] ys =
    let same : n ≡ n - 0 = omega arith in
    ap (λ k. take k ys) same ∙ ap (λ zs. zs ++ take (n - 0) ys) (none_taken n [] refl)
take_both zero (x ∷ xs) ys =
    let none : 0 - length (x ∷ xs) ≡ 0 = omega arith in
    ap (λ k. take k ys) (sym none)
take_both (suc n) (x ∷ xs) ys =
    let same : n - length xs ≡ suc n - length (x ∷ xs) = omega arith in
    ap (λ zs. x ∷ zs) (take_both n xs ys ∙ ap (λ k. take n xs ++ take k ys) same)

-- of two lists in their order
pub first_are : (n room many : ℕ) (none one two first second : List Hit) → none ≡ [] → one ≡ none ++ take n (ranked first)
    → many ≡ length first → room ≡ n - many → two ≡ one ++ take room (ranked second) → two ≡ take n (ranked first ++ ranked second)
first_are n room many none one two first second nothing named counted left others =
    others
    ∙ ap₂ (λ hs k. hs ++ take k (ranked second)) (named ∙ ap (λ hs. hs ++ take n (ranked first)) nothing)
    (left ∙ ap (λ k. n - k) (counted ∙ sym (length_ranked first)))
    ∙ sym (take_both n (ranked first) (ranked second))
