-- A page that takes the path of another, with a new stamp.
use Rattle.std.proofs.Common.{◌≡◌, ℕ, List, IsTrue, is_some, ap, sym, ◌∙◌}
use Rattle.std.specs.Prelude.{Option, Some, None}
use Rattle.std.specs.FinMap as map
use Rattle.doc_store_readers.specs.Maps.{TextMap}
use Rattle.doc_store_readers.specs.Pages.{StampedPage}
use Rattle.doc_store_pages.specs.MoveSteps.{restamped, with_stamped, with_stamped_at}

not_both : {A : Type 0} (o : Option A) → IsTrue (is_some o) → o ≡ None → ⊥
not_both None t e = cc
not_both (Some x) t e = cc

pub no_page : (pages : TextMap StampedPage) (from : List ℕ) → IsTrue (map.contains_key pages from) → None ≡ map.get pages from → ⊥
no_page pages from stands none = not_both (map.get pages from) stands (sym none)

pub stamped_is : (pages without new : TextMap StampedPage) (from to : List ℕ) (stamp : ℕ) (page stamped : StampedPage)
    → Some page ≡ map.get pages from → without ≡ map.remove pages from → stamped ≡ restamped stamp page
    → new ≡ map.insert without to stamped → new ≡ with_stamped pages from to stamp
stamped_is pages without new from to stamp page stamped found taken is set =
    set ∙ (λ i. map.insert (taken i) to (is i)) ∙ ap (with_stamped_at pages from to stamp) found
