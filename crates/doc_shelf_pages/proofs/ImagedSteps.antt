-- Whether renderings that are held may have images.
use Rattle.std.proofs.Common.{◌≡◌, ℕ, suc, ◌==◌, List, [], ◌∷◌, length, Bool, true, false, ◌||◌, cond, not, refl, ap, sym, subst, ◌∙◌, arith}
use Rattle.std.specs.Prelude.{Option, Some, None, Result, Ok, Err, OnOk, OnErr}
use Rattle.std.specs.FinMap as map
use Rattle.std.proofs.lemmas.Bool.{eqb-true, true≢false}
use Rattle.doc_index.specs.declared.held.Held.{Held}
use Rattle.doc_index.specs.Held.{held, known_as}
use Rattle.doc_index.proofs.HeldSteps.{not_some, some_is}
use Rattle.doc_index_tables.specs.Maps.{PairMap, TextMap, pair_cmp}
use Rattle.doc_index_tables.proofs.PairSteps.{pairs_total, same_pair}
use Rattle.doc_page_parts.specs.declared.rendered.Rendered.{Rendered}
use Rattle.doc_shelf_pages.specs.RenderingSteps.{AreImaged, HasNoImages, lined, renderings_in}
use Rattle.doc_shelf_pages.specs.declared.lined.Lined.{Lined}
use Rattle.doc_shelf_pages.proofs.HeldSteps.{added, nothing, removed}

empty_of : {X : Type 0} (xs : List X) → (length xs == 0) ≡ true → xs ≡ []
empty_of [] e = refl
empty_of (x ∷ xs) e =
    let none : suc (length xs) ≡ 0 = eqb-true (length (x ∷ xs)) 0 e in
    absurd (omega (arith, none))

-- a test that found none
pub none_found : {X : Type 0} (some own : List X) (bare : Bool) → some ≡ own → bare ≡ (length some == 0) → bare ≡ true → own ≡ []
none_found some own bare are is e = sym are ∙ empty_of some (sym is ∙ e)

no_images : HasNoImages map.empty
no_images k page at = absurd (not_some page (sym (map.get-empty pair_cmp k) ∙ at))

pub imaged_none : AreImaged false []
imaged_none never = subst HasNoImages (sym nothing) no_images

-- what is left of them has none either
less_images : (pages : PairMap Rendered) (k : List ℕ × ℕ) → HasNoImages pages → HasNoImages (map.remove pages k)
less_images pages k bare q other at = by (same_pair q k) (sym (map.get-remove pairs_total pages k q) ∙ at)
  where
    by : (b : Bool) → cond b None (map.get pages q) ≡ Some other → other.images ≡ []
    by true e = absurd (not_some other e)
    by false e = bare q other e

-- and with one that has none
more_images : (pages : PairMap Rendered) (k : List ℕ × ℕ) (page : Rendered) → page.images ≡ [] → HasNoImages pages
    → HasNoImages (map.insert pages k page)
more_images pages k page none bare q other at = by (same_pair q k) (sym (map.get-insert pairs_total pages k page q) ∙ at)
  where
    by : (b : Bool) → cond b (Some page) (map.get pages q) ≡ Some other → other.images ≡ []
    by true e = ap (λ (p : Rendered). p.images) (sym (some_is page other e)) ∙ none
    by false e = bare q other e

or_false : (b : Bool) → (b || false) ≡ false → b ≡ false
or_false true e = e
or_false false e = e

module _ (old new : List (Option (Held Lined))) (k : List ℕ × ℕ) (imaged : Bool) (are : AreImaged imaged old) where
  pub imaged_removed : held new ≡ map.remove (held old) k → AreImaged imaged new
  imaged_removed is never = subst HasNoImages (sym (removed old new k is)) (less_images (renderings_in old) k (are never))

  pub imaged_after : {E : Type 0} (r : Result (Unit {0}) E) (value : Lined) (page : Rendered) (counts : TextMap ℕ) → value ≡ lined k.0 page
      → OnOk r (held new ≡ map.insert (held old) k (known_as value counts)) → OnErr r (new ≡ old)
      → (bare : Bool) → (bare ≡ true → page.images ≡ []) → AreImaged (imaged || not bare) new
  imaged_after r value page counts is ok err false none never = absurd (true≢false (or_true imaged never))
    where
      or_true : (b : Bool) → (b || true) ≡ false → true ≡ false
      or_true true e = e
      or_true false e = e
  imaged_after {E = E} (Ok x) value page counts is ok err true none never =
      subst HasNoImages
      (sym (added old {E = E} {other = page} {old = renderings_in old} value counts new k (Ok x) refl (ap (λ (it : Lined). it.page) is) ok))
      (more_images (renderings_in old) k page (none refl) (are (or_false imaged never)))
  imaged_after (Err e) value page counts is ok err true none never =
      subst HasNoImages (ap renderings_in (sym err)) (are (or_false imaged never))
