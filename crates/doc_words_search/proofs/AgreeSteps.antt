-- Lists that have the same of the pages that a search needs.
use Rattle.std.proofs.Common.{◌≡◌, ℕ, ◌+◌, ◌*◌, ◌/◌, List, [], ◌∷◌, Bool, true, false, cond, ◌&&◌, ◌==◌, length, take, refl, ap, ap₂, sym, ◌∙◌, is_some, sum_by, unwrap_or, zero-add}
use Rattle.std.specs.Prelude.{map as mapped, Option}
use Rattle.std.specs.FinMap as map
use Rattle.std.specs.List.{filter}
use Rattle.std.proofs.lemmas.Bool.{both_ways}
use Rattle.std.proofs.lemmas.List.Sums.{length-filter, sum_by-cons}
use Rattle.doc_index_tables.specs.Maps.{TextMap}
use Rattle.doc_page_parts.specs.Sights.{leads_to_itself, seen}
use Rattle.doc_words_search.specs.Searches.{holds_all, search}
use Rattle.doc_words_search.specs.SearchSteps.{Agree, AgreeEach, AgreeFor, has_word, hits_by, rarity_in, score_by, search_by, weight_by}
use Rattle.doc_words_search.specs.Words.{capped}
use Rattle.doc_words_search.specs.declared.hit.Hit.{Hit}
use Rattle.doc_words_search.proofs.RankSteps.{HasSame, same_ranked}

abbrev Page : Type 0
Page = List ℕ × TextMap ℕ

-- what is taken out by a test adds nothing
filtered : {X : Type 0} (f : X → ℕ) (p : X → Bool) (xs : List X) → sum_by f (filter p xs) ≡ sum_by (λ x. cond (p x) (f x) 0) xs
filtered f p [] = refl
filtered f p (x ∷ xs) = by (p x) (filtered f p xs) ∙ sym (sum_by-cons (λ y. cond (p y) (f y) 0) x xs)
  where
    by : (b : Bool) → sum_by f (filter p xs) ≡ sum_by (λ y. cond (p y) (f y) 0) xs
        → sum_by f (cond b (x ∷ filter p xs) (filter p xs)) ≡ cond b (f x) 0 + sum_by (λ y. cond (p y) (f y) 0) xs
    by true ih = sum_by-cons f x (filter p xs) ∙ ap (λ n. f x + n) ih
    by false ih = ih ∙ sym (zero-add (sum_by (λ y. cond (p y) (f y) 0) xs))

either_way : (b : Bool) (n : ℕ) → n ≡ 0 → cond b n 0 ≡ 0
either_way true n e = e
either_way false n e = refl

module _ (goals : List ℕ → Option (List ℕ)) where
  agree_seen : (test : TextMap ℕ → Bool) (some all : List Page) → Agree test some all → Agree test (seen goals some) (seen goals all)
  agree_seen test some all same f only =
      filtered f (λ page. leads_to_itself (goals page.0) page.0) some
      ∙ same (λ page. cond (leads_to_itself (goals page.0) page.0) (f page) 0)
      (λ page no. either_way (leads_to_itself (goals page.0) page.0) (f page) (only page no))
      ∙ sym (filtered f (λ page. leads_to_itself (goals page.0) page.0) all)

  each_seen : (words : List (List ℕ)) (some all : List Page) → AgreeEach words some all → AgreeEach words (seen goals some) (seen goals all)
  each_seen [] some all same = tt
  each_seen (word ∷ words) some all same = (agree_seen (has_word word) some all same.0, each_seen words some all same.1)

  pub agree_for_seen : (words : List (List ℕ)) (some all : List Page) → AgreeFor words some all
      → AgreeFor words (seen goals some) (seen goals all)
  agree_for_seen [] some all same = agree_seen (λ counts. true) some all same
  agree_for_seen (word ∷ words) some all same = each_seen (word ∷ words) some all same

-- all pages are as many as they are
pub agree_all : (words : List (List ℕ)) (some all : List Page) → some ≡ all → AgreeFor words some all
agree_all [] some all e = λ f only. ap (sum_by f) e
agree_all (word ∷ words) some all e = each (word ∷ words)
  where
    each : (words : List (List ℕ)) → AgreeEach words some all
    each [] = tt
    each (word ∷ words) = ((λ f only. ap (sum_by f) e), each words)

-- for some words, of each
pub agree_some : (words : List (List ℕ)) (some all : List Page) (b : Bool) → b ≡ (length words == 0) → b ≡ false → AgreeEach words some all
    → AgreeFor words some all
agree_some [] some all b e off same = absurd (both_ways b off e)
agree_some (word ∷ words) some all b e off same = same

module _ (n : ℕ) (some all : List Page) where
  abbrev few : List ℕ → ℕ
  few word = rarity_in n some word

  abbrev many : List ℕ → ℕ
  many word = rarity_in n all word

  rarity_is : (word : List ℕ) → Agree (has_word word) some all → few word ≡ many word
  rarity_is word same =
      ap (λ k. n / k)
      (length-filter (λ (page : Page). is_some (map.get page.1 word)) some
      ∙ same (λ page. cond (is_some (map.get page.1 word)) 1 0) (λ page no. ap (λ b. cond b 1 0) no)
      ∙ sym (length-filter (λ (page : Page). is_some (map.get page.1 word)) all))

  weights_are : (counts : TextMap ℕ) (words : List (List ℕ)) → AgreeEach words some all
      → sum_by (weight_by few counts) words ≡ sum_by (weight_by many counts) words
  weights_are counts [] same = refl
  weights_are counts (word ∷ words) same =
      sum_by-cons (weight_by few counts) word words
      ∙ ap₂ (λ q m. capped (unwrap_or (map.get counts word) 0 * q) + m) (rarity_is word same.0) (weights_are counts words same.1)
      ∙ sym (sum_by-cons (weight_by many counts) word words)

  abbrev scored : (TextMap ℕ → ℕ) → Page → Hit
  scored score page = record { path = page.0; score = score page.1 }

  term : (words : List (List ℕ)) → (TextMap ℕ → ℕ) → (Hit → ℕ) → Page → ℕ
  term words score f page = cond (holds_all map.get words page.1) (f (scored score page)) 0

  mapped_sum : {X Y : Type 0} (f : Y → ℕ) (g : X → Y) (xs : List X) → sum_by f (mapped g xs) ≡ sum_by (λ x. f (g x)) xs
  mapped_sum f g [] = refl
  mapped_sum f g (x ∷ xs) =
      sum_by-cons f (g x) (mapped g xs) ∙ ap (λ k. f (g x) + k) (mapped_sum f g xs) ∙ sym (sum_by-cons (λ y. f (g y)) x xs)

  sum_of : (words : List (List ℕ)) (score : TextMap ℕ → ℕ) (f : Hit → ℕ) (pages : List Page)
      → sum_by f (mapped (scored score) (filter (λ page. holds_all map.get words page.1) pages)) ≡ sum_by (term words score f) pages
  unfolding term
  sum_of words score f pages =
      mapped_sum f (scored score) (filter (λ page. holds_all map.get words page.1) pages)
      ∙ filtered (λ page. f (scored score page)) (λ page. holds_all map.get words page.1) pages

  score_is : (words : List (List ℕ)) → AgreeFor words some all → score_by few words ≡ score_by many words
  score_is [] same = refl
  score_is (word ∷ words) same = λ i counts. capped (weights_are counts (word ∷ words) same i)

  terms_agree : (words : List (List ℕ)) → AgreeFor words some all → (score : TextMap ℕ → ℕ) (f : Hit → ℕ)
      → sum_by (term words score f) some ≡ sum_by (term words score f) all
  unfolding term
  terms_agree [] same score f = same (term [] score f) (λ page no. absurd (both_ways true no refl))
  terms_agree (word ∷ words) same score f =
      same.0 (term (word ∷ words) score f) (λ page no. ap (λ b. cond (b && holds_all map.get words page.1) (f (scored score page)) 0) no)

  hits_agree : (words : List (List ℕ)) → AgreeFor words some all → HasSame (hits_by few words some) (hits_by many words all)
  hits_agree words same = record {
    sums = λ f.
        sum_of words (score_by few words) f some
        ∙ ap (λ score. sum_by (term words score f) some) (score_is words same)
        ∙ terms_agree words same (score_by many words) f
        ∙ sym (sum_of words (score_by many words) f all);
  }

  -- a search among these is one among all
  pub same_search : (words : List (List ℕ)) → n ≡ length all → AgreeFor words some all → search_by n some words ≡ search all words
  same_search words count same =
      ap (take 100) (same_ranked (hits_by few words some) (hits_by many words all) (hits_agree words same))
      ∙ ap (λ k. search_by k all words) count
