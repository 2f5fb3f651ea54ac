-- A text among the paths of pages.
use Rattle.std.proofs.Common.{◌≡◌, ℕ, List, ◌∷◌, false, cond, bytes_eq, ap, sym, subst, ◌∙◌}
use Rattle.std.specs.Prelude.{Option, Some, None, IfNone}
use Rattle.doc_store_readers.specs.Pages.{Page, StampedPage, without_stamps}
use Rattle.doc_store_readers.specs.Sites.{page_at}

-- what stands under a text stands behind a page with another path
pub is_behind : (entries rest : List (List ℕ × StampedPage)) (path text : List ℕ) (page : StampedPage) (found : Option Page)
    → entries ≡ (path, page) ∷ rest → bytes_eq text path ≡ false → page_at (without_stamps entries) text ≡ found
    → page_at (without_stamps rest) text ≡ found
is_behind entries rest path text page found is other before =
    sym (ap (λ same. cond same (Some page.page) (page_at (without_stamps rest) text)) other)
    ∙ sym (ap (λ all. page_at (without_stamps all) text) is)
    ∙ before

-- what is said where there is no path
pub where_none : {X P : Type 0} (path : Option X) → path ≡ None → IfNone path P → P
where_none {P = P} path none said = subst (λ p. IfNone p P) none said
