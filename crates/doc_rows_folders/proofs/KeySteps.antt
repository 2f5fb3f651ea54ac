-- Loops that find what stands in a folder, one look a turn.
use Rattle.std.proofs.Common.{◌≡◌, ℕ, ◌+◌, ◌<◌, ◌≤◌, List, [], ◌∷◌, ◌++◌, length, min, reverse, take, drop, cond, not, ◌-◌, ◌≢◌, refl, ap, sym, subst, ◌∙◌, arith}
use Rattle.std.specs.Prelude.{Option, Some, None}
use Rattle.std.proofs.lemmas.List.{length-take, take_all}
use Rattle.doc_people.specs.Folders.{keys}
use Rattle.doc_people.specs.Navigation.{last_ones}
use Rattle.doc_people.proofs.KeyLaws.{keys_rise, paths_rise}
use Rattle.doc_store_readers.specs.Sites.{Site, view_of}
use Rattle.doc_store_readers.specs.declared.reader.Reader.{Reader}
use Rattle.doc_rows.specs.Looks.{before_text, first_from, from_text, last_before}
use Rattle.doc_rows_folders.proofs.ListLaws.{IsFound, IsFoundBack, before_none, before_step, found_all, found_all_back, found_most}
use Rattle.doc_rows_folders.proofs.ListLaws.{found_most_back, from_none, from_step, next_text, none_found, nothing_before, none_found_back, one_found}
use Rattle.doc_rows_folders.proofs.ListLaws.{one_found_back}

module _ (site : Site) (reader : Reader) (folder : List ℕ) where
  abbrev all_keys : List (List ℕ)
  all_keys = keys (view_of site (Some reader)) folder

  from_start : (ks : List (List ℕ)) → from_text [] ks ≡ ks
  from_start [] = refl
  from_start (k ∷ ks) = ap (λ b. cond (not b) (k ∷ from_text [] ks) (from_text [] ks)) (nothing_before k)
      ∙ ap (λ xs. k ∷ xs) (from_start ks)

  -- all keys, and the last of those that come before a text
  pub last_of_all : (max most n : ℕ) (text : List ℕ) (all found tail : List (List ℕ)) → all ≡ take max (from_text [] all_keys)
      → length all ≢ max → found ≡ before_text text all → n ≡ length found - most → tail ≡ drop n found
      → tail ≡ last_ones most (before_text text all_keys)
  last_of_all max most n text all found tail every few kept at rest =
      rest ∙ ap (λ m. drop m found) at
      ∙ ap (last_ones most) (kept ∙ ap (before_text text)
      (every ∙ ap (take max) (from_start all_keys) ∙ take_all max all_keys (within every)))
    where
      within : all ≡ take max (from_text [] all_keys) → length all_keys ≤ max
      within every =
          let same : length all ≡ min max (length all_keys) =
          ap length (every ∙ ap (take max) (from_start all_keys)) ∙ length-take max all_keys in
          omega arith

  -- what a look found
  pub looked_first : (at shown : List ℕ) (found answer : Option (List ℕ)) → found ≡ answer → found ≡ first_from shown all_keys → shown ≡ at
      → answer ≡ first_from at all_keys
  looked_first at shown found answer is look same = sym is ∙ look ∙ ap (λ t. first_from t all_keys) same

  pub looked_last : (at shown : List ℕ) (found answer : Option (List ℕ)) → found ≡ answer → found ≡ last_before shown all_keys → shown ≡ at
      → answer ≡ last_before at all_keys
  looked_last at shown found answer is look same = sym is ∙ look ∙ ap (λ t. last_before t all_keys) same

  module _ (most : ℕ) (text : List ℕ) where
    abbrev IsSoFar : ℕ → List (List ℕ) → List ℕ → Type 0
    IsSoFar n found at = IsFound most n found (from_text at all_keys) (from_text text all_keys)

    pub nothing_yet : (found : List (List ℕ)) (at : List ℕ) → found ≡ [] → at ≡ text → IsSoFar 0 found at
    nothing_yet found at none same =
        subst (λ f. IsSoFar 0 f at) (sym none) (subst (λ t. IsSoFar 0 [] t) (sym same) (none_found most (from_text text all_keys)))

    pub one_more : (n : ℕ) (found more : List (List ℕ)) (at next key : List ℕ) → n < most → Some key ≡ first_from at all_keys
        → next ≡ next_text key → more ≡ found ++ key ∷ [] → IsSoFar n found at → IsSoFar (n + 1) more next
    one_more n found more at next key less look behind pushed so_far =
        subst (λ f. IsSoFar (n + 1) f next) (sym pushed) (subst (λ t. IsSoFar (n + 1) (found ++ key ∷ []) t) (sym behind)
        (one_found most n found (from_text at all_keys) (from_text (next_text key) all_keys) (from_text text all_keys) key less
        (from_step all_keys (keys_rise (view_of site (Some reader)) folder (paths_rise site (Some reader))) at key (sym look)) so_far))

    pub no_more : (n : ℕ) (found : List (List ℕ)) (at : List ℕ) → None ≡ first_from at all_keys → IsSoFar n found at
        → found ≡ take most (from_text text all_keys)
    no_more n found at look so_far =
        found_all most n found (from_text at all_keys) (from_text text all_keys) (from_none at all_keys (sym look)) so_far

    pub enough : (n : ℕ) (found : List (List ℕ)) (at : List ℕ) → most ≤ n → IsSoFar n found at
        → found ≡ take most (from_text text all_keys)
    enough n found at all so_far = found_most most n found (from_text at all_keys) (from_text text all_keys) all so_far

    abbrev IsSoFarBack : ℕ → List (List ℕ) → List ℕ → Type 0
    IsSoFarBack n found at = IsFoundBack most n found (before_text at all_keys) (before_text text all_keys)

    pub nothing_yet_back : (found : List (List ℕ)) (at : List ℕ) → found ≡ [] → at ≡ text → IsSoFarBack 0 found at
    nothing_yet_back found at none same =
        subst (λ f. IsSoFarBack 0 f at) (sym none)
        (subst (λ t. IsSoFarBack 0 [] t) (sym same) (none_found_back most (before_text text all_keys)))

    pub one_more_back : (n : ℕ) (found more : List (List ℕ)) (at next key : List ℕ) → n < most → Some key ≡ last_before at all_keys
        → next ≡ key → more ≡ found ++ key ∷ [] → IsSoFarBack n found at → IsSoFarBack (n + 1) more next
    one_more_back n found more at next key less look behind pushed so_far =
        subst (λ f. IsSoFarBack (n + 1) f next) (sym pushed) (subst (λ t. IsSoFarBack (n + 1) (found ++ key ∷ []) t) (sym behind)
        (one_found_back most n found (before_text at all_keys) (before_text key all_keys) (before_text text all_keys) key less
        (before_step all_keys (keys_rise (view_of site (Some reader)) folder (paths_rise site (Some reader))) at key (sym look)) so_far))

    pub no_more_back : (n : ℕ) (found : List (List ℕ)) (at : List ℕ) → None ≡ last_before at all_keys → IsSoFarBack n found at
        → reverse found ≡ last_ones most (before_text text all_keys)
    no_more_back n found at look so_far =
        found_all_back most n found (before_text at all_keys) (before_text text all_keys) (before_none at all_keys (sym look)) so_far

    pub enough_back : (n : ℕ) (found : List (List ℕ)) (at : List ℕ) → most ≤ n → IsSoFarBack n found at
        → reverse found ≡ last_ones most (before_text text all_keys)
    enough_back n found at all so_far = found_most_back most n found (before_text at all_keys) (before_text text all_keys) all so_far
