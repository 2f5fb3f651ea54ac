-- The pages that link to a page, by the numbers of the slots of those that are seen.
use Rattle.std.proofs.Common.{◌≡◌, ℕ, List, [], ◌∷◌, ◌++◌, Bool, true, false, ◌||◌, is_some, sum_by, refl, ap, ap₂, sym, ◌∙◌}
use Rattle.std.specs.Prelude.{Option, Some, None, IsTrue, bytes_eq, count_by, unwrap_or}
use Rattle.std.specs.List.{list_any}
use Rattle.doc_index.specs.declared.held.Held.{Held}
use Rattle.doc_index.specs.Held.{AreApart, count_in, known, slot_at}
use Rattle.doc_page_parts.specs.Sights.{leads_to_itself, seen}
use Rattle.doc_links.specs.IndexSteps.{goes_to, source_of, sources_of, without_counts, written_at}
use Rattle.doc_links.specs.WrittenSteps.{count_of, source_in, sources_at}
use Rattle.doc_links_pages.specs.KnownSteps.{HasKeys}
use Rattle.doc_links_pages.specs.Links.{backlinks, page_at}
use Rattle.doc_links_pages.specs.Names.{AreNames, is_written, writes}
use Rattle.doc_links_pages.specs.PageLinks.{pages_of}
use Rattle.doc_links_pages.specs.declared.page_links.PageLinks.{PageLinks}
use Rattle.doc_links_seen.specs.SeenSteps.{AreKeyed, page_in, pages_at}
use Rattle.doc_index.proofs.HeldSteps.{held_one}
use Rattle.doc_links.proofs.NamedSteps.{counted_names}
use Rattle.doc_links.proofs.SourceSteps.{with_target}

abbrev Slots : Type 0
Slots = List (Option (Held PageLinks))

or_later : (a b : Bool) → b ≡ true → (a || b) ≡ true
or_later true b e = refl
or_later false b e = e

or_first : (a b : Bool) → a ≡ true → (a || b) ≡ true
or_first a b e = ap (λ c. c || b) e

module _ (goals : List ℕ → Option (List ℕ)) (target : List ℕ) (slots : Slots) (names : List (List ℕ)) (counts : List ℕ)
    (apart : AreApart slots) (keyed : AreKeyed slots)
    (summed : (slot : ℕ) (page : Held PageLinks) → slot_at slots slot ≡ Some page
    → count_of counts slot ≡ sum_by (λ name. written_at slots name slot) names) where
  -- among the names are those that links of some pages write
  abbrev HasNamesOf : List (List ℕ × PageLinks) → Type 0
  HasNamesOf pages =
      (path : List ℕ) → is_written pages path ≡ true → leads_to_itself (goals path) target ≡ true
      → list_any (bytes_eq path) names ≡ true

  module _ (pages : List (List ℕ × PageLinks)) (are : AreNames names goals pages target) where
    counted : (slot : ℕ) (page : Held PageLinks) → slot_at slots slot ≡ Some page
        → ((path : List ℕ) → list_any (writes path) page.value.links ≡ true → leads_to_itself (goals path) target ≡ true
        → list_any (bytes_eq path) names ≡ true)
        → count_of counts slot ≡ count_by (goes_to goals target) page.value.links
    counted slot page at all =
        summed slot page at
        ∙ (λ j. sum_by (λ name. unwrap_or (count_in (at j) name) 0) names)
        ∙ (λ j. sum_by (λ name. keys.0 name j) names)
        ∙ counted_names goals target names are.once are.lead page.value.links all
      where
        keys : HasKeys page.value.links page.counts
        keys = keyed (page.path, page.stamp) (known page) (held_one slots apart slot page at)

    told : (some : List ℕ) → HasNamesOf (pages_at slots some)
        → sources_at slots counts some ≡ sources_of goals target (pages_at slots some)
    told [] all = refl
    told (slot ∷ some) all = by (slot_at slots slot) refl all (told some)
      where
        by : (here : Option (Held PageLinks)) → slot_at slots slot ≡ here → HasNamesOf (page_in here ++ pages_at slots some)
            → (HasNamesOf (pages_at slots some) → sources_at slots counts some ≡ sources_of goals target (pages_at slots some))
            → source_in here (count_of counts slot) ++ sources_at slots counts some
            ≡ sources_of goals target (page_in here ++ pages_at slots some)
        by None at has rest = rest has
        by (Some page) at has rest =
            ap₂ (λ n others. source_of page.path n ++ others)
            (counted slot page at (λ path h. has path (or_first (list_any (writes path) page.value.links) _ h)))
            (rest (λ path h. has path (or_later (list_any (writes path) page.value.links) _ h)))

  pub answered_flagged : (some : List ℕ) → pages_at slots some ≡ seen goals (pages_of (without_counts slots))
      → AreNames names goals (seen goals (pages_of (without_counts slots))) target
      → IsTrue (is_some (page_at (seen goals (pages_of (without_counts slots))) target))
      → sources_at slots counts some ≡ backlinks goals (seen goals (pages_of (without_counts slots))) target
  answered_flagged some same are there =
      told (seen goals (pages_of (without_counts slots))) are some
      (λ path h. are.all path (ap (λ ps. is_written ps path) (sym same) ∙ h))
      ∙ ap (sources_of goals target) same
      ∙ with_target goals (seen goals (pages_of (without_counts slots))) target there
