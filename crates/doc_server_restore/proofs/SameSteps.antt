-- Names of pages, and whether two sites have them so.
use Rattle.std.proofs.Common.{◌≡◌, ℕ, true, false, ◌&&◌, ◌||◌, List, [], ◌∷◌, ◌++◌, length, take, drop, cond, is_some, refl, ap, sym}
use Rattle.std.proofs.Common.{◌∙◌, arith, bytes_eq}
use Rattle.std.specs.Prelude.{◌≤◌, Option, Some, None, map as mapped}
use Rattle.std.specs.Borrow.{Bor}
use Rattle.std.specs.Cmp.Lexicographic.{pointwise}
use Rattle.std.specs.FinMap as map
use Rattle.std.proofs.lemmas.List.{map-append}
use Rattle.doc_store_readers.specs.Groups.{texts_of}
use Rattle.doc_store.specs.Names.{aliases_of, names_of}
use Rattle.doc_store_readers.proofs.KeySteps.{same_itself, bytes_eq_is}
use Rattle.doc_store_readers.specs.Pages.{Page}
use Rattle.doc_store_readers.specs.Sites.{Site}
use Rattle.doc_page_parts.proofs.Bools.{clash}
use Rattle.doc_server_script.specs.Compactions.{same_at, same_pages, same_texts}

-- ---- the names of a page that stands

names_are : (site : Site) (path : List ℕ) → map.contains_key site.pages path ≡ true
    → names_of site path ≡ path ∷ aliases_of site.aliases path
names_are site path stands = ap (λ b. cond b (path ∷ aliases_of site.aliases path) []) stands

not_empty : {X Y : Type 0} (f : X → Y) (xs : List X) (y : Y) (ys : List Y) → mapped f xs ≡ y ∷ ys → 1 ≤ length xs
not_empty f [] y ys e = cc
not_empty f (x ∷ xs) y ys e = omega arith

pub has_a_name : (site : Site) (path : List ℕ) (names : List (Bor (List ℕ))) → map.contains_key site.pages path ≡ true
    → texts_of names ≡ names_of site path → 1 ≤ length names
has_a_name site path names stands is =
    not_empty (λ text. text.now) names path (aliases_of site.aliases path) (is ∙ names_are site path stands)

abbrev first_of : {X : Type 0} → X → List X → X
first_of other [] = other
first_of other (x ∷ xs) = x

turned : (names : List (Bor (List ℕ))) (first : List ℕ) (others : List (List ℕ)) → texts_of names ≡ first ∷ others
    → texts_of (drop 1 names ++ take 1 names) ≡ others ++ first ∷ []
turned [] first others e = cc
turned (name ∷ names) first others e =
    map-append (λ text. text.now) names (name ∷ [])
    ∙ (ap (λ texts. texts ++ name.now ∷ []) (ap (drop 1) e) ∙ ap (λ text. others ++ text ∷ []) (ap (first_of first) e))

pub path_is_last : (site : Site) (path : List ℕ) (names : List (Bor (List ℕ))) → map.contains_key site.pages path ≡ true
    → texts_of names ≡ names_of site path
    → texts_of (drop 1 names ++ take 1 names) ≡ aliases_of site.aliases path ++ path ∷ []
path_is_last site path names stands is =
    turned names path (aliases_of site.aliases path) (is ∙ names_are site path stands)

-- ---- what stands in both

pub none_here : (config site : Site) (path : List ℕ) → map.get config.pages path ≡ None
    → (map.contains_key config.pages path || map.contains_key site.pages path) ≡ true → same_at config site path ≡ false
none_here config site path none stands =
    by (map.get site.pages path) refl
  where
    by : (other : Option Page) → map.get site.pages path ≡ other → same_at config site path ≡ false
    by None is = absurd (clash (is_some (map.get config.pages path) || is_some (map.get site.pages path)) stands
        (ap (λ a. is_some a || is_some (map.get site.pages path)) none ∙ ap is_some is))
    by (Some other) is =
        ap (λ a. same_pages a (map.get site.pages path)
        && same_texts (aliases_of config.aliases path) (aliases_of site.aliases path)) none
        ∙ ap (λ b. same_pages None b && same_texts (aliases_of config.aliases path) (aliases_of site.aliases path)) is

both_stand : (config site : Site) (path : List ℕ) (page : Page) (other : Option Page) → Some page ≡ map.get config.pages path
    → other ≡ map.get site.pages path
    → same_at config site path
    ≡ same_pages (Some page) other && same_texts (aliases_of config.aliases path) (aliases_of site.aliases path)
both_stand config site path page other here there =
    ap (λ a. same_pages a (map.get site.pages path)
    && same_texts (aliases_of config.aliases path) (aliases_of site.aliases path)) (sym here)
    ∙ ap (λ b. same_pages (Some page) b && same_texts (aliases_of config.aliases path) (aliases_of site.aliases path)) (sym there)

pub none_there : (config site : Site) (path : List ℕ) (page : Page) → Some page ≡ map.get config.pages path
    → None ≡ map.get site.pages path → same_at config site path ≡ false
none_there config site path page here there = both_stand config site path page None here there

pub other_page : (config site : Site) (path : List ℕ) (page other : Page) → Some page ≡ map.get config.pages path
    → Some other ≡ map.get site.pages path → same_pages (Some page) (Some other) ≡ false → same_at config site path ≡ false
other_page config site path page other here there differs =
    both_stand config site path page (Some other) here there
    ∙ ap (λ b. b && same_texts (aliases_of config.aliases path) (aliases_of site.aliases path)) differs

pub names_tell : (config site : Site) (path : List ℕ) (page other : Page) (names others : List (Bor (List ℕ)))
    → Some page ≡ map.get config.pages path → Some other ≡ map.get site.pages path → same_pages (Some page) (Some other) ≡ true
    → texts_of names ≡ names_of config path → texts_of others ≡ names_of site path
    → same_texts (texts_of names) (texts_of others) ≡ same_at config site path
names_tell config site path page other names others here there same are were =
    ap (λ n. same_texts n (texts_of others)) (are ∙ names_are config path (sym (ap is_some here)))
    ∙ (ap (same_texts (path ∷ aliases_of config.aliases path)) (were ∙ names_are site path (sym (ap is_some there)))
    ∙ (ap (λ b. b && same_texts (aliases_of config.aliases path) (aliases_of site.aliases path)) (bytes_eq_is path path ∙ same_itself path)
    ∙ sym (both_stand config site path page (Some other) here there
    ∙ ap (λ b. b && same_texts (aliases_of config.aliases path) (aliases_of site.aliases path)) same)))

-- ---- lists of names

pub texts_alike : (names others : List (Bor (List ℕ)))
    → pointwise (λ name other. bytes_eq name.now other.now) names others ≡ same_texts (texts_of names) (texts_of others)
texts_alike [] [] = refl
texts_alike [] (other ∷ others) = refl
texts_alike (name ∷ names) [] = refl
texts_alike (name ∷ names) (other ∷ others) = ap (λ rest. bytes_eq name.now other.now && rest) (texts_alike names others)
