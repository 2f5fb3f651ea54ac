-- What is left once a page that was added is let go.
use Rattle.std.proofs.Common.{◌≡◌, ℕ, List, Bool, true, false, cond, refl, ap, sym, ◌∙◌}
use Rattle.std.specs.Prelude.{Some, None, Result, Ok, Err, OnOk, OnErr}
use Rattle.std.specs.FinMap as map
use Rattle.std.specs.Result.{is_err}
use Rattle.doc_index_tables.specs.Maps.{PairMap, TextMap}
use Rattle.doc_index_tables.proofs.PairSteps.{pair_is, pairs_exact, pairs_total, same_pair}
use Rattle.doc_page_parts.specs.declared.rendered.Rendered.{Rendered}
use Rattle.doc_links_pages.specs.declared.page_links.PageLinks.{PageLinks}
use Rattle.doc_shelf_pages.specs.KeptPages.{Kept, kept_of}

-- to let go what was just added under a free key leaves what was there
pub undone : {X : Type 0} (m : PairMap X) (k : List ℕ × ℕ) (v : X) → map.get m k ≡ None → map.remove (map.insert m k v) k ≡ m
undone {X} m k v none = map.same_map pairs_total pairs_exact _ _ (λ q.
    map.get-remove pairs_total (map.insert m k v) k q
    ∙ ap (cond (same_pair q k) None) (map.get-insert pairs_total m k v q)
    ∙ by q (same_pair q k) refl)
  where
    by : (q : List ℕ × ℕ) (b : Bool) → same_pair q k ≡ b → cond b None (cond b (Some v) (map.get m q)) ≡ map.get m q
    by q true same = sym none ∙ ap (map.get m) (sym (pair_is q k same))
    by q false other = refl

pub dropped : {X : Type 0} (m added left : PairMap X) (k : List ℕ × ℕ) (v : X) → map.get m k ≡ None → added ≡ map.insert m k v
    → left ≡ map.remove added k → left ≡ m
dropped m added left k v none was is = is ∙ ap (λ n. map.remove n k) was ∙ undone m k v none

pub on_err : {X E P : Type 0} (r : Result X E) → OnErr r P → is_err r ≡ true → P
on_err (Ok x) p h = absurd (cc)
on_err (Err e) p h = p

pub on_fine : {X E P : Type 0} (r : Result X E) → OnOk r P → is_err r ≡ false → P
on_fine (Ok x) p h = p
on_fine (Err e) p h = absurd (cc)

abbrev pub kept_in : Bool → PairMap PageLinks → PairMap (TextMap ℕ) → PairMap Rendered → Kept
kept_in with_texts links words renderings = record { with_texts = with_texts; links = links; words = words; renderings = renderings }

-- three maps that are the same
pub together : {with_texts : Bool} {a b : PairMap PageLinks} {c d : PairMap (TextMap ℕ)} {e f : PairMap Rendered} → a ≡ b → c ≡ d → e ≡ f
    → kept_in with_texts a c e ≡ kept_in with_texts b d f
together {with_texts = with_texts} p q r = λ i. record { with_texts = with_texts; links = p i; words = q i; renderings = r i }

-- a rendering as it is kept has the pieces of the page
pub pieces_of_kept : (with_texts : Bool) (page : Rendered) → (kept_of with_texts page).pieces ≡ page.pieces
pieces_of_kept true page = refl
pieces_of_kept false page = refl

-- and its headings
pub headings_of_kept : (with_texts : Bool) (page : Rendered) → (kept_of with_texts page).headings ≡ page.headings
headings_of_kept true page = refl
headings_of_kept false page = refl

-- and its images
pub images_of_kept : (with_texts : Bool) (page : Rendered) → (kept_of with_texts page).images ≡ page.images
images_of_kept true page = refl
images_of_kept false page = refl
