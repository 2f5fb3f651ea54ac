-- What is seen of a site.
use Rattle.std.specs.Prelude.{ℕ, List, Bool, false, bytes_eq, Option, Some, None}
use Rattle.std.specs.List.{filter}

-- whether a path leads to the page that stands under it
abbrev pub leads_to_itself : Option (List ℕ) → List ℕ → Bool
leads_to_itself None path = false
leads_to_itself (Some goal) path = bytes_eq goal path

-- of these pages, each with what is known of it, those that are seen
abbrev pub seen : {X : Type 0} → (List ℕ → Option (List ℕ)) → List (List ℕ × X) → List (List ℕ × X)
seen goals pages = filter (λ page. leads_to_itself (goals page.0) page.0) pages
