-- What loops over pages that are seen have put together.
use Rattle.std.proofs.Common.{◌≡◌, ℕ, ◌<◌, ◌≤◌, ◌+◌, ◌++◌, ◌∷◌, [], List, get_or, length, take, ap, sym, ◌∙◌}
use Rattle.std.specs.Prelude.{Option}
use Rattle.std.specs.List.{flat_map}
use Rattle.std.proofs.lemmas.List.{take_all, take_more}
use Rattle.std.proofs.lemmas.List.Concat.{flat_map-append}
use Rattle.std.proofs.lemmas.List.Folds.{flat_map-map}
use Rattle.doc_links_pages.specs.Links.{broken, broken_from, broken_with}
use Rattle.doc_index.specs.Held.{slot_at}
use Rattle.doc_index.specs.declared.held.Held.{Held}
use Rattle.doc_links_pages.specs.declared.page_links.PageLinks.{PageLinks}
use Rattle.doc_links_seen.specs.Numbered.{broken_of}
use Rattle.doc_links_seen.specs.SeenPages.{seen_page, seen_pages}
use Rattle.doc_links_seen.specs.SeenSteps.{page_in, pages_at}
use Rattle.doc_links_seen.proofs.FlagSteps.{one_slot}
use Rattle.doc_links_pages.specs.declared.answers.Broken.{Broken}
use Rattle.doc_links_seen.specs.declared.seen.SeenPage.{SeenPage}

module _ (goals : List ℕ → Option (List ℕ)) (pages : List SeenPage) (i : ℕ) (within : length pages ≤ i) where
  abbrev broken_in : SeenPage → List Broken
  broken_in page = broken_from goals (seen_pages pages) page.path.now 1 page.known.now.links

  pub all_broken : (all : List Broken) → all ≡ flat_map broken_in (take i pages) → all ≡ broken goals (seen_pages pages)
  unfolding broken
  all_broken all is =
      is ∙ ap (flat_map broken_in) (take_all i pages within)
      ∙ sym (flat_map-map (λ page. broken_from goals (seen_pages pages) page.0 1 page.1.links) seen_page pages)

-- slots in place of pages, and behind the links of each what else is told of it
module _ (behind : List ℕ → List Broken) (goals : List ℕ → Option (List ℕ)) (slots : List (Option (Held PageLinks))) (numbers : List ℕ)
    (pages : List (List ℕ × PageLinks)) where
  pub told_so_far : (all more : List Broken) (i slot : ℕ) → i < length numbers → slot ≡ get_or numbers i slot
      → more ≡ all ++ broken_of behind goals pages (page_in (slot_at slots slot))
      → all ≡ broken_of behind goals pages (pages_at slots (take i numbers))
      → more ≡ broken_of behind goals pages (pages_at slots (take (i + 1) numbers))
  told_so_far all more i slot within is made before =
      made
      ∙ ap (λ xs. xs ++ broken_of behind goals pages (page_in (slot_at slots slot))) before
      ∙ sym (flat_map-append (λ page. broken_from goals pages page.0 1 page.1.links ++ behind page.0) (pages_at slots (take i numbers))
      (page_in (slot_at slots slot)))
      ∙ ap (broken_of behind goals pages) (sym (one_slot slots (take i numbers) slot)
      ∙ ap (pages_at slots) (ap (λ n. take i numbers ++ n ∷ []) is ∙ sym (take_more numbers i slot within)))

  pub all_told : (all : List Broken) (i : ℕ) → length numbers ≤ i → pages ≡ pages_at slots numbers
      → all ≡ broken_of behind goals pages (pages_at slots (take i numbers)) → all ≡ broken_with behind goals (pages_at slots numbers)
  unfolding broken_with
  all_told all i past same is =
      is
      ∙ ap (λ ns. broken_of behind goals pages (pages_at slots ns)) (take_all i numbers past)
      ∙ ap (λ ps. broken_of behind goals ps (pages_at slots numbers)) same
