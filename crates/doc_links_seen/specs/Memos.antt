-- What is known of the pages that written paths lead to.
use Rattle.std.specs.Prelude.{◌≡◌, ℕ, List, Option, Some, option_map}
use Rattle.std.specs.BTreeMap.{get_by}
use Rattle.std.specs.Cmp.Lexicographic.{slice_cmp}
use Rattle.std.specs.Ordering.{nat_cmp}
use Rattle.doc_links_pages.specs.Links.{page_among}
use Rattle.doc_links_pages.specs.declared.page_links.PageLinks.{PageLinks}
use Rattle.doc_links_seen.specs.SeenPages.{seen_page}
use Rattle.doc_links_seen.specs.SeenSteps.{IsInOrder}
use Rattle.doc_links_seen.specs.declared.memo.Memo.{Memo}
use Rattle.doc_links_seen.specs.declared.seen.SeenPage.{SeenPage}

-- what is known of a path: the page that it leads to, or that it leads to none
abbrev pub known_of : Memo → List ℕ → Option (Option SeenPage)
known_of memo path = get_by (λ known. slice_cmp nat_cmp path known.now) memo.known

-- where the pages stand in order, what is known of each path is so
unfoldable pub IsMemo : (List ℕ → Option (List ℕ)) → List (List ℕ × PageLinks) → Memo → Type 0
IsMemo goals pages memo =
    IsInOrder pages → (path : List ℕ) (page : Option SeenPage) → known_of memo path ≡ Some page
    → option_map seen_page page ≡ page_among goals pages path
