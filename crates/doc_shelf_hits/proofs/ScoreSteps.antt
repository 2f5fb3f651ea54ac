-- How rare terms are among candidates, and what scores these have.
use Rattle.std.proofs.Common.{◌≡◌, ℕ, zero, suc, ◌+◌, ◌*◌, ◌/◌, ◌<◌, ◌≤◌, ◌-◌, ◌^◌, min, List, [], ◌∷◌, ◌++◌, length, take, get_or, Bool, true, false, cond, refl}
use Rattle.std.proofs.Common.{ap, ap₂, sym, ◌∙◌, arith}
use Rattle.std.specs.Prelude.{count_by, map as mapped, nat_lt, sum_by}
use Rattle.std.specs.List.{filter}
use Rattle.std.proofs.lemmas.List.{length-map, take_more}
use Rattle.std.proofs.lemmas.List.Sums.{sum_by-cons}
use Rattle.doc_page_parts.specs.declared.rendered.Rendered.{Rendered}
use Rattle.doc_people.specs.Hits.{count_of, holders, holds, rarity, weight}
use Rattle.doc_people.specs.declared.term.Term.{Term}
use Rattle.doc_words_search.specs.Words.{capped}
use Rattle.doc_shelf_hits.specs.declared.candidates.Candidate.{Candidate}
use Rattle.doc_shelf_hits.specs.Candidates.{AreKnown, holds_at, known, known_of, weighted}

-- ---- counting

pub count_mapped : {X Y : Type 0} (p : Y → Bool) (f : X → Y) (xs : List X) → count_by (λ x. p (f x)) xs ≡ count_by p (mapped f xs)
count_mapped p f [] = refl
count_mapped p f (x ∷ xs) =
    sum_by-cons (λ z. cond (p (f z)) 1 0) x xs ∙ ap (λ n. cond (p (f x)) 1 0 + n) (count_mapped p f xs)
    ∙ sym (sum_by-cons (λ z. cond (p z) 1 0) (f x) (mapped f xs))

one_more : (n : ℕ) → 1 + n ≡ suc n
one_more n = omega arith

none_more : (n : ℕ) → 0 + n ≡ n
none_more n = omega arith

pub count_filter : {X : Type 0} (p : X → Bool) (xs : List X) → count_by p xs ≡ length (filter p xs)
count_filter p [] = refl
count_filter {X = X} p (x ∷ xs) =
    sum_by-cons (λ z. cond (p z) 1 0) x xs ∙ ap (λ n. cond (p x) 1 0 + n) (count_filter p xs) ∙ by (p x) (filter p xs)
  where
    by : (b : Bool) (some : List X) → cond b 1 0 + length some ≡ length (cond b (x ∷ some) some)
    by true some = one_more (length some)
    by false some = none_more (length some)

same_length : {X : Type 0} (p q : X → Bool) → ((x : X) → p x ≡ q x) → (xs : List X) → length (filter p xs) ≡ length (filter q xs)
same_length {X = X} p q same xs = ap (λ test. length (filter test xs)) (λ i x. same x i)

-- ---- how rare a term is

module _ (pages : List (List ℕ × Rendered)) (terms : List Term) (candidates : List Candidate) (are : AreKnown terms pages candidates) where
  as_many : length candidates ≡ length pages
  as_many = sym (length-map candidates known_of) ∙ ap length are ∙ length-map pages (known terms)

  -- the candidates that hold the term at a place are the pages that do
  holders_are : (at : ℕ) (term : Term) → ((page : Rendered) → get_or (mapped (count_of page) terms) at 0 ≡ count_of page term)
      → count_by (λ candidate. holds_at at (known_of candidate)) candidates ≡ length (holders pages term)
  holders_are at term there =
      count_mapped (holds_at at) known_of candidates ∙ ap (count_by (holds_at at)) are
      ∙ sym (count_mapped (holds_at at) (known terms) pages)
      ∙ count_filter (λ page. holds_at at (known terms page)) pages
      ∙ same_length (λ page. holds_at at (known terms page)) (λ page. holds page.1 term) (λ page. ap (nat_lt 0) (there page.1)) pages

  rarity_is : (at : ℕ) (term : Term) → ((page : Rendered) → get_or (mapped (count_of page) terms) at 0 ≡ count_of page term)
      → length candidates / count_by (λ candidate. holds_at at (known_of candidate)) candidates ≡ rarity pages term
  rarity_is at term there = ap₂ (λ all some. all / some) as_many (holders_are at term there)

at_place : {X Y : Type 0} (f : X → Y) (xs : List X) (i : ℕ) (d : X) (e : Y) → i < length xs → get_or (mapped f xs) i e ≡ f (get_or xs i d)
at_place f [] i d e low = absurd (omega arith)
at_place f (x ∷ xs) zero d e low = refl
at_place f (x ∷ xs) (suc i) d e low = at_place f xs i d e (omega arith)

-- one more term
pub rarities_next : (pages : List (List ℕ × Rendered)) (terms : List Term) (candidates : List Candidate) → AreKnown terms pages candidates
    → (at : ℕ) → at < length terms → (old : List ℕ) → old ≡ mapped (rarity pages) (take at terms)
    → old ++ length candidates / count_by (λ candidate. holds_at at (known_of candidate)) candidates ∷ []
    ≡ mapped (rarity pages) (take (at + 1) terms)
rarities_next pages [] candidates are at low old is = absurd (omega arith)
rarities_next pages (term ∷ terms) candidates are at low old is =
    let all : List Term = term ∷ terms in
    ap₂ (λ rs r. rs ++ r ∷ []) is
    (rarity_is pages all candidates are at (get_or all at term) (λ page. at_place (count_of page) all at term 0 low))
    ∙ sym (mapped_more (rarity pages) (take at all) (get_or all at term))
    ∙ ap (mapped (rarity pages)) (sym (take_more all at term low))
  where
    mapped_more : {X Y : Type 0} (f : X → Y) (xs : List X) (x : X) → mapped f (xs ++ x ∷ []) ≡ mapped f xs ++ f x ∷ []
    mapped_more f [] x = refl
    mapped_more f (y ∷ ys) x = ap (λ rest. f y ∷ rest) (mapped_more f ys x)

-- ---- scores

-- one more term
pub weighted_next : (counts rarities : List ℕ) (i : ℕ) → i < length counts → i < length rarities
    → weighted (take (i + 1) counts) (take (i + 1) rarities)
    ≡ weighted (take i counts) (take i rarities) + capped (get_or counts i 0 * get_or rarities i 0)
weighted_next [] rarities i low there = absurd (omega arith)
weighted_next (c ∷ counts) [] i low there = absurd (omega arith)
weighted_next (c ∷ counts) (r ∷ rarities) zero low there = omega arith
weighted_next (c ∷ counts) (r ∷ rarities) (suc i) low there =
    let rest = weighted_next counts rarities i (omega arith) (omega arith) in
    let more : suc i + 1 ≡ suc (i + 1) = omega arith in
    ap (λ n. weighted (take n (c ∷ counts)) (take n (r ∷ rarities))) more
    ∙ ap (λ n. capped (c * r) + n) rest
    ∙ omega arith

cap_twice : (m w x : ℕ) → min (min w m + x) m ≡ min (w + x) m
cap_twice m w x = omega arith

pub score_next : (counts rarities : List ℕ) (i old new : ℕ) → i < length counts → i < length rarities
    → old ≡ capped (weighted (take i counts) (take i rarities))
    → new ≡ capped (old + capped (get_or counts i 0 * get_or rarities i 0))
    → new ≡ capped (weighted (take (i + 1) counts) (take (i + 1) rarities))
score_next counts rarities i old new low there before is =
    is ∙ ap (λ s. capped (s + capped (get_or counts i 0 * get_or rarities i 0))) before
    ∙ cap_twice (2 ^ 64 - 1) (weighted (take i counts) (take i rarities)) (capped (get_or counts i 0 * get_or rarities i 0))
    ∙ ap capped (sym (weighted_next counts rarities i low there))

-- where no term is left
pub weighted_short : (counts rarities : List ℕ) (i : ℕ) → length rarities ≤ i
    → weighted (take i counts) (take i rarities) ≡ weighted counts rarities
weighted_short [] rarities zero short = refl
weighted_short [] rarities (suc i) short = refl
weighted_short (c ∷ counts) [] zero short = refl
weighted_short (c ∷ counts) [] (suc i) short = refl
weighted_short (c ∷ counts) (r ∷ rarities) zero short = absurd (omega arith)
weighted_short (c ∷ counts) (r ∷ rarities) (suc i) short = ap (λ n. capped (c * r) + n) (weighted_short counts rarities i (omega arith))

pub weighted_all : (counts rarities : List ℕ) (i : ℕ) → length counts ≤ i
    → weighted (take i counts) (take i rarities) ≡ weighted counts rarities
weighted_all [] rarities zero short = refl
weighted_all [] rarities (suc i) short = refl
weighted_all (c ∷ counts) rarities zero short = absurd (omega arith)
weighted_all (c ∷ counts) [] (suc i) short = refl
weighted_all (c ∷ counts) (r ∷ rarities) (suc i) short = ap (λ n. capped (c * r) + n) (weighted_all counts rarities i (omega arith))

-- the sum over the terms
pub weights_are : (pages : List (List ℕ × Rendered)) (page : Rendered) (terms : List Term)
    → weighted (mapped (count_of page) terms) (mapped (rarity pages) terms) ≡ sum_by (weight pages page) terms
weights_are pages page [] = refl
weights_are pages page (term ∷ terms) =
    ap (λ n. capped (count_of page term * rarity pages term) + n) (weights_are pages page terms)
    ∙ sym (sum_by-cons (weight pages page) term terms)
