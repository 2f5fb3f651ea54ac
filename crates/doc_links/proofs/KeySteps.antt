-- Pages that are held with the counts of the paths that their links write.
use Rattle.std.proofs.Common.{◌≡◌, ℕ, List, [], Bool, true, false, cond, ap, sym, subst, ◌∙◌}
use Rattle.std.specs.Prelude.{Option, Some, None, Result, Ok, Err, OnOk, OnErr}
use Rattle.std.specs.FinMap as map
use Rattle.std.specs.Ordering.{eq_by_cmp}
use Rattle.doc_index.specs.declared.held.Held.{Held}
use Rattle.doc_index.specs.Held.{Known, held}
use Rattle.doc_index_tables.specs.Maps.{pair_cmp}
use Rattle.std.proofs.lemmas.Option.{none-some as not_some, same_Some as some_is}
use Rattle.doc_index_tables.proofs.PairSteps.{pairs_total}
use Rattle.doc_links_seen.specs.SeenSteps.{AreKeyed}
use Rattle.doc_links_pages.specs.KnownSteps.{HasKeys}
use Rattle.doc_links_pages.specs.declared.page_links.PageLinks.{PageLinks}

pub keyed_none : AreKeyed []
keyed_none k page at = absurd (not_some page (sym (map.get-empty pair_cmp k) ∙ at))

module _ (old new : List (Option (Held PageLinks))) (k : List ℕ × ℕ) (are : AreKeyed old) where
  keyed_added : (page : Known PageLinks) → HasKeys page.value.links page.counts → held new ≡ map.insert (held old) k page → AreKeyed new
  keyed_added page has is q other at =
      by (eq_by_cmp pair_cmp q k) (sym (ap (λ m. map.get m q) is ∙ map.get-insert pairs_total (held old) k page q) ∙ at)
    where
      by : (b : Bool) → cond b (Some page) (map.get (held old) q) ≡ Some other → HasKeys other.value.links other.counts
      by true e = subst (λ (p : Known PageLinks). HasKeys p.value.links p.counts) (some_is page other e) has
      by false e = are q other e

  pub keyed_removed : held new ≡ map.remove (held old) k → AreKeyed new
  keyed_removed is q other at =
      by (eq_by_cmp pair_cmp q k) (sym (ap (λ m. map.get m q) is ∙ map.get-remove pairs_total (held old) k q) ∙ at)
    where
      by : (b : Bool) → cond b None (map.get (held old) q) ≡ Some other → HasKeys other.value.links other.counts
      by true e = absurd (not_some other e)
      by false e = are q other e

  keyed_same : held new ≡ held old → AreKeyed new
  keyed_same is q other at = are q other (ap (λ m. map.get m q) (sym is) ∙ at)

  pub keyed_after : {E : Type 0} (r : Result (Unit {0}) E) (page : Known PageLinks) → HasKeys page.value.links page.counts
      → OnOk r (held new ≡ map.insert (held old) k page) → OnErr r (held new ≡ held old) → AreKeyed new
  keyed_after (Ok x) page has ok err = keyed_added page has ok
  keyed_after (Err e) page has ok err = keyed_same err
