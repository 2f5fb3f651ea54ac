-- Keys of a folder by looks at paths: the first one from a text on, and the last one before it.
use Rattle.std.proofs.Common.{◌≡◌, ℕ, List, [], ◌∷◌, ◌++◌, Bool, true, false, not, ◌&&◌, ◌||◌, refl, ap, sym, ◌∙◌, eq-eqb}
use Rattle.std.specs.Prelude.{◌==◌, Option, Some, None, bytes_eq, filter, map as mapped, if◌then◌else◌}
use Rattle.std.specs.Cmp.Lexicographic.{slice_cmp}
use Rattle.std.specs.List.{dedup, dedup_from}
use Rattle.std.specs.List.Sorted.{IsStrictlySortedBy}
use Rattle.std.specs.Ordering.{nat_cmp}
use Rattle.std.proofs.lemmas.Bool.{cond_both, true≢false}
use Rattle.doc_page_parts.proofs.Bools.{clash}
use Rattle.doc_people.specs.Folders.{is_below, key, keys}
use Rattle.doc_people.specs.Navigation.{is_before}
use Rattle.doc_people.specs.Views.{paths}
use Rattle.doc_people.proofs.KeyLaws.{keys_rise}
use Rattle.doc_store_readers.proofs.KeySteps.{same_key, same_from, same_itself, bytes_eq_is}
use Rattle.doc_store_readers.specs.Sites.{View}
use Rattle.doc_rows.specs.Looks.{first_from, last_before}
use Rattle.doc_rows.proofs.LookLaws.{IsFirst, IsLast, at_most_trans, before_trans, both_and, either_true, first_is_first, is_from, is_one}
use Rattle.doc_rows.proofs.LookLaws.{is_short, last_is_last, not_after, one_first, one_last, or_left, or_right, split_and}
use Rattle.doc_rows_folders.specs.Starts.{end_of, ends_in_slash, first_start, is_whole, key_found, last_start, start_below}
use Rattle.doc_rows_folders.proofs.StartLaws.{before_end, below_alike, between, key_first, key_is_below, not_before_folder}
use Rattle.doc_rows_folders.proofs.StartLaws.{start_of_key, up_to_end}

false_by : (b : Bool) → (b ≡ true → ⊥) → b ≡ false
false_by true f = absurd (f refl)
false_by false f = refl

true_by : (b : Bool) → (b ≡ false → ⊥) → b ≡ true
true_by true f = refl
true_by false f = absurd (f refl)

-- ---- which keys there are

kept : (k : List ℕ) (xs : List (List ℕ)) (q : List ℕ) → is_one (dedup_from bytes_eq k xs) q ≡ is_one (k ∷ xs) q
kept k [] q = refl
kept k (x ∷ xs) q =
    cond_both (bytes_eq x k) (dedup_from bytes_eq k xs) (k ∷ dedup_from bytes_eq x xs) (λ them. is_one them q ≡ is_one (k ∷ x ∷ xs) q)
    (λ same. kept k xs q ∙ twice (same_key q k) (is_one xs q)
    ∙ ap (λ z. same_key q k || (same_key q z || is_one xs q)) (sym (same_from x k (sym (bytes_eq_is x k) ∙ same))))
    (λ _. ap (λ b. same_key q k || b) (kept x xs q))
  where
    twice : (a b : Bool) → (a || b) ≡ (a || (a || b))
    twice true b = refl
    twice false b = refl

kept_all : (ks : List (List ℕ)) (q : List ℕ) → is_one (dedup bytes_eq ks) q ≡ is_one ks q
kept_all [] q = refl
kept_all (k ∷ ks) q = kept k ks q

module _ (folder : List ℕ) where
  shown : (ps : List (List ℕ)) (p : List ℕ) → is_one ps p ≡ true → is_below folder p ≡ true
      → is_one (mapped (key folder) (filter (is_below folder) ps)) (key folder p) ≡ true
  shown [] p one below = absurd (true≢false (sym one))
  shown (x ∷ ps) p one below =
      cond_both (is_below folder x) (x ∷ filter (is_below folder) ps) (filter (is_below folder) ps)
      (λ them. is_one (mapped (key folder) them) (key folder p) ≡ true)
      (λ inside. either_true (same_key p x) (is_one ps p) _
      (λ same. or_left (same_key (key folder p) (key folder x)) _
      (ap (λ z. same_key (key folder p) (key folder z)) (sym (same_from p x same)) ∙ same_itself (key folder p)))
      (λ other. or_right (same_key (key folder p) (key folder x)) _ (shown ps p other below)) one)
      (λ other. either_true (same_key p x) (is_one ps p) _
      (λ same. absurd (clash (is_below folder x) (ap (is_below folder) (sym (same_from p x same)) ∙ below) other))
      (λ later. shown ps p later below) one)

  abbrev Source : List (List ℕ) → List ℕ → Type 0
  Source ps k = (p : List ℕ) × (is_one ps p ≡ true) × (is_below folder p ≡ true) × (k ≡ key folder p)

  more_sources : (x : List ℕ) (ps : List (List ℕ)) (k : List ℕ) → Source ps k → Source (x ∷ ps) k
  more_sources x ps k s = (s.0, or_right (same_key s.0 x) (is_one ps s.0) s.1, s.2, s.3)

  source : (ps : List (List ℕ)) (k : List ℕ) → is_one (mapped (key folder) (filter (is_below folder) ps)) k ≡ true → Source ps k
  source [] k = λ one. absurd (true≢false (sym one))
  source (x ∷ ps) k =
      cond_both (is_below folder x) (x ∷ filter (is_below folder) ps) (filter (is_below folder) ps)
      (λ them. is_one (mapped (key folder) them) k ≡ true → Source (x ∷ ps) k)
      (λ inside one. either_true (same_key k (key folder x)) (is_one (mapped (key folder) (filter (is_below folder) ps)) k)
      (Source (x ∷ ps) k)
      (λ same. (x, or_left (same_key x x) (is_one ps x) (same_itself x), inside, same_from k (key folder x) same))
      (λ other. more_sources x ps k (source ps k other)) one)
      (λ other one. more_sources x ps k (source ps k one))

  -- keys don't fall
  keys_mono : (p q : List ℕ) → is_below folder p ≡ true → is_below folder q ≡ true → is_before q p ≡ false
      → is_before (key folder q) (key folder p) ≡ false
  keys_mono p q in_p in_q most =
      below_alike folder (key folder p) q (key_is_below folder p in_p) in_q ∙ ap (is_before q) (start_of_key folder p in_p)
      ∙ at_most_trans (key folder p) p q (key_first folder p in_p) most

-- ---- by a text that tells the same of paths as another of their keys

module _ (view : View) (folder t start : List ℕ) (sorted : IsStrictlySortedBy (slice_cmp nat_cmp) (paths view))
    (alike : (q : List ℕ) → is_below folder q ≡ true → is_before (key folder q) t ≡ is_before q start) where
  is_key : (p : List ℕ) → is_one (paths view) p ≡ true → is_below folder p ≡ true → is_one (keys view folder) (key folder p) ≡ true
  unfolding keys
  is_key p one below =
      kept_all (mapped (key folder) (filter (is_below folder) (paths view))) (key folder p) ∙ shown folder (paths view) p one below

  key_of : (k : List ℕ) → is_one (keys view folder) k ≡ true → Source folder (paths view) k
  unfolding keys
  key_of k one = source folder (paths view) k (sym (kept_all (mapped (key folder) (filter (is_below folder) (paths view))) k) ∙ one)

  module _ (fits : (q p : List ℕ) → is_below folder q ≡ true → is_before q p ≡ false → is_before p start ≡ false
      → is_below folder p ≡ true) where
    abbrev FirstSource : List ℕ → Type 0
    FirstSource k = (p : List ℕ) × ((is_one (paths view) p && is_from start p) ≡ true) × (is_below folder p ≡ true) × (k ≡ key folder p)

    first_source : (k : List ℕ) → (is_one (keys view folder) k && is_from t k) ≡ true → FirstSource k
    first_source k e =
        let parts = split_and (is_one (keys view folder) k) (is_from t k) e in
        let s = key_of k parts.0 in (
          s.0,
          both_and (is_one (paths view) s.0) (is_from start s.0) s.1
              (ap not (sym (alike s.0 s.2)) ∙ ap (λ z. not (is_before z t)) (sym s.3) ∙ parts.1),
          s.2,
          s.3,
        )

    first_found : (o : Option (List ℕ)) → IsFirst (λ q. is_one (paths view) q && is_from start q) o
        → IsFirst (λ k. is_one (keys view folder) k && is_from t k) (key_found folder o)
    first_found None none = λ k. false_by (is_one (keys view folder) k && is_from t k) (λ e.
        let s = first_source k e in clash (is_one (paths view) s.0 && is_from start s.0) s.1 (none s.0))
    first_found (Some p) first =
        let parts = split_and (is_one (paths view) p) (is_from start p) first.0 in
        cond_both (is_below folder p) (Some (key folder p)) None (IsFirst (λ k. is_one (keys view folder) k && is_from t k))
        (λ inside. (
          both_and (is_one (keys view folder) (key folder p)) (is_from t (key folder p)) (is_key p parts.0 inside)
              (ap not (alike p inside) ∙ parts.1),
          λ k e. let s = first_source k e in
              ap (λ z. is_before z (key folder p)) s.3 ∙ keys_mono folder p s.0 inside s.2 (first.1 s.0 s.1),
        ))
        (λ other. λ k. false_by (is_one (keys view folder) k && is_from t k) (λ e.
        let s = first_source k e in
        clash (is_below folder p) (fits s.0 p s.2 (first.1 s.0 s.1) (not_true (is_before p start) parts.1)) other))
      where
        not_true : (b : Bool) → not b ≡ true → b ≡ false
        not_true true e = sym e
        not_true false e = refl

    look_first : first_from t (keys view folder) ≡ key_found folder (first_from start (paths view))
    look_first =
        one_first (λ k. is_one (keys view folder) k && is_from t k) _ _
        (first_is_first t (keys view folder) (keys_rise view folder sorted))
        (first_found (first_from start (paths view)) (first_is_first start (paths view) sorted))

  module _ (fits : (q p : List ℕ) → is_below folder q ≡ true → is_before p q ≡ false → is_before p start ≡ true
      → is_below folder p ≡ true) where
    abbrev LastSource : List ℕ → Type 0
    LastSource k = (p : List ℕ) × ((is_one (paths view) p && is_short start p) ≡ true) × (is_below folder p ≡ true) × (k ≡ key folder p)

    last_source : (k : List ℕ) → (is_one (keys view folder) k && is_short t k) ≡ true → LastSource k
    last_source k e =
        let parts = split_and (is_one (keys view folder) k) (is_short t k) e in
        let s = key_of k parts.0 in (
          s.0,
          both_and (is_one (paths view) s.0) (is_short start s.0) s.1
              (sym (alike s.0 s.2) ∙ ap (λ z. is_before z t) (sym s.3) ∙ parts.1),
          s.2,
          s.3,
        )

    last_found : (o : Option (List ℕ)) → IsLast (λ q. is_one (paths view) q && is_short start q) o
        → IsLast (λ k. is_one (keys view folder) k && is_short t k) (key_found folder o)
    last_found None none = λ k. false_by (is_one (keys view folder) k && is_short t k) (λ e.
        let s = last_source k e in clash (is_one (paths view) s.0 && is_short start s.0) s.1 (none s.0))
    last_found (Some p) last =
        let parts = split_and (is_one (paths view) p) (is_short start p) last.0 in
        cond_both (is_below folder p) (Some (key folder p)) None (IsLast (λ k. is_one (keys view folder) k && is_short t k))
        (λ inside. (
          both_and (is_one (keys view folder) (key folder p)) (is_short t (key folder p)) (is_key p parts.0 inside)
              (alike p inside ∙ parts.1),
          λ k e. let s = last_source k e in
              ap (is_before (key folder p)) s.3 ∙ keys_mono folder s.0 p s.2 inside (last.1 s.0 s.1),
        ))
        (λ other. λ k. false_by (is_one (keys view folder) k && is_short t k) (λ e.
        let s = last_source k e in clash (is_below folder p) (fits s.0 p s.2 (last.1 s.0 s.1) parts.1) other))

    look_last : last_before t (keys view folder) ≡ key_found folder (last_before start (paths view))
    look_last =
        one_last (λ k. is_one (keys view folder) k && is_short t k) _ _
        (last_is_last t (keys view folder) (keys_rise view folder sorted))
        (last_found (last_before start (paths view)) (last_is_last start (paths view) sorted))

-- ---- the texts that are looked from

pub below_more : (folder rest : List ℕ) → is_below folder (folder ++ rest) ≡ true
below_more [] rest = refl
below_more (f ∷ folder) rest = both_and (f == f) (is_below folder (folder ++ rest)) (eq-eqb f f refl) (below_more folder rest)

below_itself : (folder : List ℕ) → is_below folder folder ≡ true
below_itself [] = refl
below_itself (f ∷ folder) = both_and (f == f) (is_below folder folder) (eq-eqb f f refl) (below_itself folder)

module _ (folder t : List ℕ) where
  -- of a text before the folder
  none_before : is_before t folder ≡ true → (q : List ℕ) → is_below folder q ≡ true → is_before (key folder q) t ≡ is_before q folder
  none_before less q below =
      false_by (is_before (key folder q) t) (λ e. clash (is_before (key folder q) folder) (before_trans (key folder q) t folder e less)
      (not_before_folder folder (key folder q) (key_is_below folder q below)))
      ∙ sym (not_before_folder folder q below)

  -- and of one behind it
  all_before : is_below folder t ≡ false → is_before t folder ≡ false → (x : List ℕ) → is_below folder x ≡ true → is_before x t ≡ true
  all_before other more x below =
      true_by (is_before x t) (λ e. clash (is_below folder t) (between folder folder x t (below_itself folder) below more e) other)

module _ (view : View) (folder t : List ℕ) (sorted : IsStrictlySortedBy (slice_cmp nat_cmp) (paths view)) where
  -- the first key from a text on
  pub first_key_is : first_from t (keys view folder) ≡ key_found folder (first_from (first_start folder t) (paths view))
  first_key_is =
      cond_both (is_below folder t) (start_below folder t) (if is_before t folder then folder else t)
      (λ start. first_from t (keys view folder) ≡ key_found folder (first_from start (paths view)))
      (λ inside. look_first view folder t (start_below folder t) sorted (λ q. below_alike folder t q inside)
      (λ q p below high low. between folder (start_below folder t) q p (below_more folder _) below low high))
      (λ other. cond_both (is_before t folder) folder t
      (λ start. first_from t (keys view folder) ≡ key_found folder (first_from start (paths view)))
      (λ less. look_first view folder t folder sorted (none_before folder t less)
      (λ q p below high low. between folder folder q p (below_itself folder) below low high))
      (λ more. look_first view folder t t sorted
      (λ q below. all_before folder t other more (key folder q) (key_is_below folder q below)
      ∙ sym (all_before folder t other more q below))
      (λ q p below high low. absurd (clash (is_before q t) (all_before folder t other more q below) (at_most_trans t p q low high)))))

  -- the last key before a text, of the empty folder or of one that ends in a slash
  pub last_key_is : is_whole folder ≡ true
      → last_before t (keys view folder) ≡ key_found folder (last_before (last_start folder t) (paths view))
  last_key_is whole =
      cond_both (is_below folder t) (start_below folder t) (if is_before t folder then folder else end_of folder)
      (λ start. last_before t (keys view folder) ≡ key_found folder (last_before start (paths view)))
      (λ inside. look_last view folder t (start_below folder t) sorted (λ q. below_alike folder t q inside)
      (λ q p below low high. between folder q (start_below folder t) p below (below_more folder _) low
      (not_after p (start_below folder t) high)))
      (λ other. cond_both (is_before t folder) folder (end_of folder)
      (λ start. last_before t (keys view folder) ≡ key_found folder (last_before start (paths view)))
      (λ less. look_last view folder t folder sorted (none_before folder t less)
      (λ q p below low high. between folder q folder p below (below_itself folder) low (not_after p folder high)))
      (λ more. look_last view folder t (end_of folder) sorted
      (λ q below. all_before folder t other more (key folder q) (key_is_below folder q below)
      ∙ sym (before_end folder q (ends folder other whole) below))
      (λ q p below low high. up_to_end folder q p (ends folder other whole) below low high)))
    where
      ends : (folder : List ℕ) → is_below folder t ≡ false → is_whole folder ≡ true → ends_in_slash folder ≡ true
      ends [] other whole = absurd (true≢false other)
      ends (f ∷ folder) other whole = whole
