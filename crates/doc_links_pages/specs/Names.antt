-- The names of a page: paths that links write and that lead to it.
use Rattle.std.specs.Prelude.{◌≡◌, ℕ, List, Bool, true, false, bytes_eq, Option}
use Rattle.std.specs.List.{IsDistinct, list_any}
use Rattle.doc_page_parts.specs.Sights.{leads_to_itself}
use Rattle.doc_resolve.specs.declared.link_kind.LinkKind.{LinkKind}
use Rattle.doc_resolve.specs.declared.link_kind.LinkKind.TheVariants.{External, Page, Nowhere}
use Rattle.doc_links_pages.specs.declared.page_links.PageLinks.{PageLinks}

-- a link writes this path
abbrev pub writes : List ℕ → LinkKind → Bool
writes path External = false
writes path (Page other anchor) = bytes_eq path other
writes path Nowhere = false

-- a link of one of these pages writes this path
abbrev pub is_written : List (List ℕ × PageLinks) → List ℕ → Bool
is_written pages path = list_any (λ page. list_any (writes path) page.1.links) pages

-- these paths are different, each leads to a target, and among them is each that leads to it and that a link of these pages writes
pub record AreNames (names : List (List ℕ)) (goals : List ℕ → Option (List ℕ)) (pages : List (List ℕ × PageLinks)) (target : List ℕ)
    : Type 0 where
  pub once : IsDistinct bytes_eq names
  pub lead : (path : List ℕ) → list_any (bytes_eq path) names ≡ true → leads_to_itself (goals path) target ≡ true
  pub all : (path : List ℕ) → is_written pages path ≡ true → leads_to_itself (goals path) target ≡ true
      → list_any (bytes_eq path) names ≡ true
