-- A search over slots is one over their pages.
use Rattle.std.proofs.Common.{◌≡◌, ℕ, suc, ◌+◌, ◌*◌, ◌/◌, List, [], ◌∷◌, ◌++◌, Bool, true, false, cond, ◌&&◌, if◌then◌else◌, length, take, arith, ◌<◌, get_or, subst₂}
use Rattle.std.proofs.Common.{refl, ap, ap₂, sym, ◌∙◌, count_by, is_some, sum_by, unwrap_or, zero-add}
use Rattle.std.specs.Prelude.{IfOk, Result, Ok, Err, Option, Some, None, map as mapped}
use Rattle.std.specs.FinMap as map
use Rattle.std.specs.List.{filter, flat_map, list_all}
use Rattle.std.proofs.lemmas.List.{take_more}
use Rattle.std.proofs.lemmas.List.Sums.{sum_by-cons}
use Rattle.doc_index.specs.declared.held.Held.{Held}
use Rattle.doc_index.specs.Held.{count_in, slot_at}
use Rattle.doc_page_parts.specs.Sights.{leads_to_itself, seen}
use Rattle.doc_words_search.specs.Searches.{holders, holds_all, ranked}
use Rattle.doc_words_search.specs.SearchSteps.{AreWeighed, IsWeighed, count_at, hit_at, hit_in, hits_by, onto_page, pages_at, rarity_in, score_at, score_by, search_by, sees_at, weight_at, weight_by}
use Rattle.doc_words_search.specs.Words.{capped}
use Rattle.doc_words_search.specs.declared.hit.Hit.{Hit}
use Rattle.doc_words_search.specs.declared.weighing.Weighed.{Weighed}

module _ {T : Type 0} (slots : List (Option (Held T))) where
  module _ (goals : List ℕ → Option (List ℕ)) where
    abbrev chosen : List ℕ → List ℕ
    chosen ns = filter (λ n. sees_at goals (slot_at slots n)) ns

    -- the pages of the slots that are chosen
    pub seen_pages : (ns : List ℕ) → pages_at slots (chosen ns) ≡ seen goals (pages_at slots ns)
    seen_pages [] = refl
    seen_pages (n ∷ ns) = by (seen_pages ns) (slot_at slots n) refl
      where
        by : pages_at slots (chosen ns) ≡ seen goals (pages_at slots ns) → (o : Option (Held T)) → slot_at slots n ≡ o
            → pages_at slots (cond (sees_at goals o) (n ∷ chosen ns) (chosen ns)) ≡ seen goals (onto_page o (pages_at slots ns))
        by ih None e = ih
        by ih (Some page) e = which (leads_to_itself (goals page.path) page.path)
          where
            which : (b : Bool) → pages_at slots (cond b (n ∷ chosen ns) (chosen ns))
                ≡ cond b ((page.path, page.counts) ∷ seen goals (pages_at slots ns)) (seen goals (pages_at slots ns))
            which true = ap (λ o. onto_page o (pages_at slots (chosen ns))) e ∙ ap (λ ps. (page.path, page.counts) ∷ ps) ih
            which false = ih

    -- each of them has one
    pub seen_full : (ns : List ℕ) → length (pages_at slots (chosen ns)) ≡ length (chosen ns)
    seen_full [] = refl
    seen_full (n ∷ ns) = by (seen_full ns) (slot_at slots n) refl
      where
        by : length (pages_at slots (chosen ns)) ≡ length (chosen ns) → (o : Option (Held T)) → slot_at slots n ≡ o
            → length (pages_at slots (cond (sees_at goals o) (n ∷ chosen ns) (chosen ns)))
            ≡ length (cond (sees_at goals o) (n ∷ chosen ns) (chosen ns))
        by ih None e = ih
        by ih (Some page) e = which (leads_to_itself (goals page.path) page.path)
          where
            which : (b : Bool) → length (pages_at slots (cond b (n ∷ chosen ns) (chosen ns))) ≡ length (cond b (n ∷ chosen ns) (chosen ns))
            which true = ap (λ o. length (onto_page o (pages_at slots (chosen ns)))) e ∙ ap suc ih
            which false = ih

  one_more : (n : ℕ) → 1 + n ≡ suc n
  one_more n = omega arith

  -- the slots with a count are those whose pages hold the word
  holders_are : (word : List ℕ) (counts : ℕ → Option ℕ) → ((n : ℕ) → counts n ≡ count_in (slot_at slots n) word) → (ns : List ℕ)
      → count_by (λ n. is_some (counts n)) ns ≡ length (holders map.get (pages_at slots ns) word)
  holders_are word counts is [] = refl
  holders_are word counts is (n ∷ ns) =
      sum_by-cons (λ m. cond (is_some (counts m)) 1 0) n ns
      ∙ ap₂ (λ o m. cond (is_some o) 1 0 + m) (is n) (holders_are word counts is ns)
      ∙ by (slot_at slots n)
    where
      by : (o : Option (Held T)) → cond (is_some (count_in o word)) 1 0 + length (holders map.get (pages_at slots ns) word)
          ≡ length (holders map.get (onto_page o (pages_at slots ns)) word)
      by None = zero-add (length (holders map.get (pages_at slots ns) word))
      by (Some page) = which (is_some (map.get page.counts word))
        where
          which : (b : Bool) → cond b 1 0 + length (holders map.get (pages_at slots ns) word)
              ≡ length (cond b ((page.path, page.counts) ∷ holders map.get (pages_at slots ns) word)
              (holders map.get (pages_at slots ns) word))
          which true = one_more (length (holders map.get (pages_at slots ns) word))
          which false = zero-add (length (holders map.get (pages_at slots ns) word))

  pub weighs : (word : List ℕ) (weighed : Weighed) (all : ℕ) (ns : List ℕ)
      → ((n : ℕ) → count_at weighed.postings n ≡ count_in (slot_at slots n) word)
      → weighed.quotient ≡ all / count_by (λ n. is_some (count_at weighed.postings n)) ns
      → IsWeighed slots (rarity_in all (pages_at slots ns)) word weighed
  weighs word weighed all ns counts divided = record {
    counts = counts;
    quotient_is = divided ∙ ap (λ b. all / b) (holders_are word (count_at weighed.postings) counts ns);
  }

  module _ (rarity : List ℕ → ℕ) where
    pub weighed_more : (words : List (List ℕ)) (all : List Weighed) → AreWeighed slots rarity words all
        → (word : List ℕ) (weighed : Weighed)
        → IsWeighed slots rarity word weighed → AreWeighed slots rarity (words ++ word ∷ []) (all ++ weighed ∷ [])
    weighed_more [] [] are word weighed is = (is, tt)
    weighed_more [] (x ∷ all) are word weighed is = absurd are
    weighed_more (w ∷ words) [] are word weighed is = absurd are
    weighed_more (w ∷ words) (x ∷ all) are word weighed is = (are.0, weighed_more words all are.1 word weighed is)

    pub weighed_next : (words : List (List ℕ)) (all new : List Weighed) (i : ℕ) (word : List ℕ) (weighed : Weighed)
        → i < length words → word ≡ get_or words i word → AreWeighed slots rarity (take i words) all
        → IsWeighed slots rarity word weighed → new ≡ all ++ weighed ∷ [] → AreWeighed slots rarity (take (i + 1) words) new
    weighed_next words all new i word weighed low at are is next =
        subst₂ (λ ws xs. AreWeighed slots rarity ws xs)
        (ap (λ w. take i words ++ w ∷ []) at ∙ sym (take_more words i word low)) (sym next)
        (weighed_more (take i words) all are word weighed is)

    all_have : (n : ℕ) (page : Held T) → slot_at slots n ≡ Some page → (words : List (List ℕ)) (all : List Weighed)
        → AreWeighed slots rarity words all → list_all (λ w. is_some (count_at w.postings n)) all ≡ holds_all map.get words page.counts
    all_have n page e [] [] are = refl
    all_have n page e [] (x ∷ all) are = absurd are
    all_have n page e (w ∷ words) [] are = absurd are
    all_have n page e (w ∷ words) (x ∷ all) are =
        ap₂ (λ o b. is_some o && b) (are.0.counts n ∙ ap (λ o. count_in o w) e) (all_have n page e words all are.1)

    weights_are : (n : ℕ) (page : Held T) → slot_at slots n ≡ Some page → (words : List (List ℕ)) (all : List Weighed)
        → AreWeighed slots rarity words all → sum_by (weight_at n) all ≡ sum_by (weight_by rarity page.counts) words
    weights_are n page e [] [] are = refl
    weights_are n page e [] (x ∷ all) are = absurd are
    weights_are n page e (w ∷ words) [] are = absurd are
    weights_are n page e (w ∷ words) (x ∷ all) are =
        sum_by-cons (weight_at n) x all
        ∙ ap₂ (λ a b. a + b)
        (ap₂ (λ o q. capped (unwrap_or o 0 * q)) (are.0.counts n ∙ ap (λ o. count_in o w) e) are.0.quotient_is)
        (weights_are n page e words all are.1)
        ∙ sym (sum_by-cons (weight_by rarity page.counts) w words)

    hits_are : (words : List (List ℕ)) (all : List Weighed) → AreWeighed slots rarity words all → (ns : List ℕ)
        → flat_map (hit_at slots all) ns ≡ hits_by rarity words (pages_at slots ns)
    hits_are words all are [] = refl
    hits_are words all are (n ∷ ns) = by (hits_are words all are ns) (slot_at slots n) refl
      where
        by : flat_map (hit_at slots all) ns ≡ hits_by rarity words (pages_at slots ns) → (o : Option (Held T)) → slot_at slots n ≡ o
            → hit_in o (score_at all n) ++ flat_map (hit_at slots all) ns ≡ hits_by rarity words (onto_page o (pages_at slots ns))
        by ih None e = ih
        by ih (Some page) e =
            ap₂ (λ b s. hit_in (Some page) (if b then Some (capped s) else None) ++ flat_map (hit_at slots all) ns)
            (all_have n page e words all are) (weights_are n page e words all are)
            ∙ which (holds_all map.get words page.counts)
          where
            which : (b : Bool)
                → hit_in (Some page) (if b then Some (score_by rarity words page.counts) else None) ++ flat_map (hit_at slots all) ns
                ≡ mapped (λ p. record { path = p.0; score = score_by rarity words p.1 })
                (cond b ((page.path, page.counts) ∷ filter (λ p. holds_all map.get words p.1) (pages_at slots ns))
                (filter (λ p. holds_all map.get words p.1) (pages_at slots ns)))
            which true = ap (λ hs. record { path = page.path; score = score_by rarity words page.counts } ∷ hs) ih
            which false = ih

  -- the best of the hits that were found
  pub search_is : (words : List (List ℕ)) (all : List Weighed) (count : ℕ) (ns : List ℕ) (found : List Hit)
      → AreWeighed slots (rarity_in count (pages_at slots ns)) words all → found ≡ flat_map (hit_at slots all) ns
      → take 100 (ranked found) ≡ search_by count (pages_at slots ns) words
  search_is words all count ns found are e =
      ap (λ hs. take 100 (ranked hs)) (e ∙ hits_are (rarity_in count (pages_at slots ns)) words all are ns)

pub told : {X E : Type 0} {P Q : X → Type 0} (r : Result X E) → ((x : X) → P x → Q x) → IfOk r P → IfOk r Q
told (Ok x) f h = f x h
told (Err e) f h = tt
