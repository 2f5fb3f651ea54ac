-- Worked examples of pages that write a path, computed from the definitions.
use Rattle.std.proofs.Common.{◌≡◌, codes, refl, ap, ◌∙◌, ℕ, List, [], ◌∷◌}
use Rattle.std.specs.Prelude.{None, Some, bytes_eq, filter, if◌then◌else◌}
use Rattle.std.specs.Cmp.Lexicographic.{slice_cmp}
use Rattle.std.specs.FinMap as map
use Rattle.std.specs.List.{list_any}
use Rattle.std.specs.Ordering.{nat_cmp}
use Rattle.doc_links_pages.specs.Names.{writes}
use Rattle.doc_resolve.specs.declared.link_kind.LinkKind.TheVariants.{External, Nowhere, Page as To}
use Rattle.doc_rows_links.specs.LinkRows.{Linking, paths_writing, writing}
use Rattle.doc_rows_links.proofs.WritingLaws.{entries-writing}
use Rattle.doc_store_readers.specs.Pages.{Page}
use Rattle.doc_store_readers.specs.Sites.{View}

-- `a.md` links to `b.md`, and twice to `c.md`; `b.md` out of the site, to no page, and to itself; `c.md` to a page that isn't there
abbrev linking : Linking
linking path page =
    if bytes_eq path (codes "a.md")
    then To (codes "b.md") None ∷ To (codes "c.md") (Some (codes "top")) ∷ To (codes "c.md") None ∷ []
    else if bytes_eq path (codes "b.md")
    then External ∷ Nowhere ∷ To (codes "b.md") None ∷ []
    else To (codes "absent.md") None ∷ []

abbrev page : Page
page = record { groups = codes "ops" ∷ []; text = [] }

abbrev all : List (List ℕ × Page)
all = (codes "a.md", page) ∷ (codes "b.md", page) ∷ (codes "c.md", page) ∷ []

-- the pages of a site that write a path
abbrev pages_writing : List ℕ → List (List ℕ × Page)
pages_writing target = map.entries (writing linking (map.from_sorted {R = slice_cmp nat_cmp} all) target)

computed : (target : List ℕ) → pages_writing target ≡ filter (λ page. list_any (writes target) (linking page.0 page.1)) all
computed target =
    entries-writing linking (map.from_sorted all) target
    ∙ ap (filter (λ page. list_any (writes target) (linking page.0 page.1))) (map.entries-from_sorted (slice_cmp nat_cmp) all tt)

-- two, of which one links to itself
writing_b : pages_writing (codes "b.md") ≡ (codes "a.md", page) ∷ (codes "b.md", page) ∷ []
writing_b = computed (codes "b.md")

-- a page that writes it twice is one
writing_c : pages_writing (codes "c.md") ≡ (codes "a.md", page) ∷ []
writing_c = computed (codes "c.md")

-- a path without a page has those that write it, too
writing_absent : pages_writing (codes "absent.md") ≡ (codes "c.md", page) ∷ []
writing_absent = computed (codes "absent.md")

-- no link writes this
writing_a : pages_writing (codes "a.md") ≡ []
writing_a = computed (codes "a.md")

-- of a view without `a.md`
abbrev view : View
view = record { pages = (codes "b.md", page) ∷ (codes "c.md", page) ∷ []; aliases = [] }

seen_b : paths_writing linking view (codes "b.md") ≡ codes "b.md" ∷ []
seen_b = refl

seen_c : paths_writing linking view (codes "c.md") ≡ []
seen_c = refl

seen_absent : paths_writing linking view (codes "absent.md") ≡ codes "c.md" ∷ []
seen_absent = refl
