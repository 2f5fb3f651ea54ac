-- Which pages anchors lead to, as pages come and go.
use Rattle.std.proofs.Common.{◌≡◌, ◌≢◌, ◌+◌, ◌∷◌, ◌||◌, ℕ, Bool, true, false, List, arith, refl, sym, ◌∙◌, ap, subst}
use Rattle.std.specs.Prelude.{Option, slice_index_or, map as mapped}
use Rattle.std.specs.FinMap as map
use Rattle.std.specs.List.{list_any}
use Rattle.std.specs.Ordering.{eq_by_cmp, nat_cmp}
use Rattle.std.proofs.lemmas.Bool.{both_ways}
use Rattle.doc_page_parts.proofs.Orders.{is_eq_true}
use Rattle.doc_index_tables.specs.Maps.{NumberMap}
use Rattle.doc_links_names.specs.declared.page_numbers.PageNumbers.{PageNumbers}
use Rattle.doc_links_seen.specs.Numbered.{AreNamed}

-- lists that have the same at each place lead alike
pub as_they_were : (numbers : List (Option PageNumbers)) (old new : List ℕ) → ((n : ℕ) → slice_index_or new n 0 ≡ slice_index_or old n 0)
    → AreNamed numbers old → AreNamed numbers new
as_they_were numbers old new same are n slot e = are n slot (sym (same n) ∙ e)

-- where fewer anchors lead anywhere
pub fewer : (numbers : List (Option PageNumbers)) (old new : List ℕ)
    → ((n stand : ℕ) → slice_index_or new n 0 ≡ stand + 1 → slice_index_or old n 0 ≡ stand + 1)
    → AreNamed numbers old → AreNamed numbers new
fewer numbers old new less are n slot e = are n slot (omega (arith, less n slot (omega (arith, e))))

-- ---- a page goes

-- no anchor of the page leads to a slot but those that are left
abbrev pub IsGoneBut : NumberMap ℕ → List ℕ → ℕ → List (ℕ × ℕ) → Type 0
IsGoneBut row items slot left =
    (n : ℕ) → map.contains_key row n ≡ true → list_any (eq_by_cmp nat_cmp n) (mapped (λ e. e.0) left) ≡ false
    → slice_index_or items n 0 ≢ slot + 1

number_is : (n m : ℕ) → eq_by_cmp nat_cmp n m ≡ true → n ≡ m
number_is n m same = map.nat_cmp-IsAntisymmetric n m (is_eq_true (nat_cmp n m) same)

pub gone_first : (row : NumberMap ℕ) (items : List ℕ) (slot : ℕ) (es : List (ℕ × ℕ)) → es ≡ map.entries row → IsGoneBut row items slot es
gone_first row items slot es is n has none =
    absurd (both_ways (map.contains_key row n)
    (map.contains_key-keys row n ∙ ap (λ xs. list_any (eq_by_cmp nat_cmp n) (mapped (λ e. e.0) xs)) (sym is) ∙ none) has)

pub gone_next : (row : NumberMap ℕ) (items new : List ℕ) (slot : ℕ) (es more : List (ℕ × ℕ)) (e : ℕ × ℕ) → es ≡ e ∷ more
    → ((n stand : ℕ) → slice_index_or new n 0 ≡ stand + 1 → slice_index_or items n 0 ≡ stand + 1) → slice_index_or new e.0 0 ≢ slot + 1
    → IsGoneBut row items slot es → IsGoneBut row new slot more
gone_next row items new slot es more e is less here gone n has none = by (eq_by_cmp nat_cmp n e.0) refl
  where
    by : (b : Bool) → eq_by_cmp nat_cmp n e.0 ≡ b → slice_index_or new n 0 ≢ slot + 1
    by true same = subst (λ k. slice_index_or new k 0 ≢ slot + 1) (sym (number_is n e.0 same)) here
    by false other = λ leads.
        gone n has
        (ap (λ xs. list_any (eq_by_cmp nat_cmp n) (mapped (λ x. x.0) xs)) is
        ∙ ap (λ b. b || list_any (eq_by_cmp nat_cmp n) (mapped (λ x. x.0) more)) other ∙ none)
        (less n slot leads)
