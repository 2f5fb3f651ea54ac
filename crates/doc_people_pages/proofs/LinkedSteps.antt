-- The pages that link to a page, of which one more is asked for than is listed.
use Rattle.std.proofs.Common.{◌≡◌, ◌≢◌, ℕ, ◌+◌, List, [], ◌∷◌, ◌++◌, false, not, length, min, take, codes, cond, sym, ap, ◌∙◌, refl, arith, length-take}
use Rattle.std.specs.Prelude.{nat_lt}
use Rattle.std.specs.List.{flat_map}
use Rattle.std.proofs.lemmas.Bool.Decides.{nat_tests}
use Rattle.std.proofs.lemmas.List.{take-take}
use Rattle.doc_store_readers.specs.Sites.{View}
use Rattle.doc_people.specs.Lines.{link, listed}
use Rattle.doc_people.specs.Lists.{from_on, sources_from}
use Rattle.doc_people.specs.Navigation.{is_before}
use Rattle.doc_people.specs.Pages.{all_sources_line, backlinks_href, linked_from, source_item}
use Rattle.doc_people.specs.Sources.{sources_of}
use Rattle.doc_people.specs.Views.{Renders}

-- ---- from the start on

nothing_before : (text : List ℕ) → is_before text [] ≡ false
nothing_before [] = refl
nothing_before (b ∷ text) = refl

from_start : {X : Type 0} (text : X → List ℕ) (xs : List X) → from_on text [] xs ≡ xs
from_start text [] = refl
from_start text (x ∷ xs) =
    ap (λ b. cond (not b) (x ∷ from_on text [] xs) (from_on text [] xs)) (nothing_before (text x)) ∙ ap (λ ys. x ∷ ys) (from_start text xs)

-- ---- one more than is listed

more_than : (n k m : ℕ) → k ≡ min (n + 1) m → nat_lt n k ≡ nat_lt n m
more_than n k m same = grind (arith, nat_tests, same)

module _ (render : Renders) (view : View) (path : List ℕ) where
  -- what is shown of those is what is shown of all
  shown_of_more : (sources : List (List ℕ × ℕ)) → linked_from render view path (take 21 sources) ≡ linked_from render view path sources
  shown_of_more [] = refl
  shown_of_more (source ∷ rest) =
      let all : List (List ℕ × ℕ) = source ∷ rest in
      ap (λ shown. codes "<h2>Linked from</h2>\n" ++ listed (flat_map (source_item render view) shown) ++ all_sources_line path (take 21 all))
      (take-take 20 21 all (omega arith))
      ∙ ap (λ b. codes "<h2>Linked from</h2>\n" ++ listed (flat_map (source_item render view) (take 20 all))
      ++ cond b (codes "<p>" ++ link (backlinks_href path) (codes "All that link here") ++ codes "</p>\n") [])
      (more_than 20 (length (take 21 all)) (length all) (length-take 21 all))

  -- those that are asked for, one more than is listed
  pub asked_for : (sources : List (List ℕ × ℕ)) → sources ≡ take 21 (sources_from render view path [])
      → linked_from render view path (sources_of render view path) ≡ linked_from render view path sources
  asked_for sources same =
      sym (ap (linked_from render view path) same
      ∙ ap (λ xs. linked_from render view path (take 21 xs)) (from_start (λ (source : List ℕ × ℕ). source.0) (sources_of render view path))
      ∙ shown_of_more (sources_of render view path))

  pub some_linked : (sources : List (List ℕ × ℕ)) → length sources ≢ 0
      → linked_from render view path sources
      ≡ (codes "<h2>Linked from</h2>\n" ++ listed (flat_map (source_item render view) (take 20 sources))) ++ all_sources_line path sources
  some_linked [] some = absurd (some refl)
  some_linked (source ∷ rest) some = refl
