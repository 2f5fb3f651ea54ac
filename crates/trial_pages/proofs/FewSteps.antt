-- A search for no words finds each page, where there are fewer than 100.
use Rattle.std.proofs.Common.{◌≡◌, ℕ, suc, List, [], ◌∷◌, Bool, true, false, length, if◌then◌else◌, refl, ap, arith, ◌∙◌}
use Rattle.std.specs.Prelude.{◌<◌, min}
use Rattle.std.specs.FinMap as map
use Rattle.std.specs.List.{filter}
use Rattle.std.specs.Ordering.{is_lt}
use Rattle.std.proofs.lemmas.List.{length-map, length-take}
use Rattle.doc_index_tables.specs.Maps.{TextMap}
use Rattle.doc_words_search.specs.Searches.{hits, holds_all, placed, rank_cmp, ranked, search}
use Rattle.doc_words_search.specs.declared.hit.Hit.{Hit}

length_placed : (hit : Hit) (found : List Hit) → length (placed hit found) ≡ suc (length found)
length_placed hit [] = refl
length_placed hit (other ∷ found) = by (is_lt (rank_cmp other hit)) (length_placed hit found)
  where
    by : (b : Bool) → length (placed hit found) ≡ suc (length found)
        → length (if b then other ∷ placed hit found else hit ∷ other ∷ found) ≡ suc (suc (length found))
    by true rest = ap suc rest
    by false rest = refl

length_ranked : (found : List Hit) → length (ranked found) ≡ length found
length_ranked [] = refl
length_ranked (hit ∷ found) = length_placed hit (ranked found) ∙ ap suc (length_ranked found)

each_page : {X : Type 0} (pages : List X) → length (filter (λ _. true) pages) ≡ length pages
each_page [] = refl
each_page (page ∷ pages) = ap suc (each_page pages)

few : (n all : ℕ) → n ≡ min 100 all → n < 100 → n ≡ all
few n all is less = omega arith

pub each_is_found : (n : ℕ) (pages : List (List ℕ × TextMap ℕ)) → n ≡ length (search pages []) → n < 100 → n ≡ length pages
each_is_found n pages is less =
    few n (length pages)
    (is ∙ length-take 100 (ranked (hits map.get pages [])) ∙ ap (min 100) (length_ranked (hits map.get pages [])
    ∙ length-map (filter (λ page. holds_all map.get [] page.1) pages) _ ∙ each_page pages)) less
