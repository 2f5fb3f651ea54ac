-- What is left of the entries of blocks, one entry further.
use Rattle.std.proofs.Common.{add-one, drop-cons, ◌≡◌, ℕ, suc, ◌+◌, ◌<◌, ◌≤◌, List, [], ◌∷◌, ◌++◌, length, drop, get_or, refl, ap, sym, subst, ◌∙◌, arith, length-append}
use Rattle.std.specs.FinMap as map
use Rattle.std.proofs.Math.ListN.{drop_of_length-le}
use Rattle.std.proofs.Math.Seq.{drop-append_seam}
use Rattle.std.proofs.lemmas.List.{append-nil, get_or_append_left}
use Rattle.doc_index_tables.specs.Blocks.{IsStart, joined}
use Rattle.doc_index_tables.specs.Maps.{NumberMap}

drop_none : {X : Type 0} (xs : List X) → drop 0 xs ≡ xs
drop_none [] = refl
drop_none (x ∷ xs) = refl

first_of : (xs ys : List (ℕ × ℕ)) (e : ℕ × ℕ) → 0 < length xs → e ≡ get_or xs 0 e → xs ++ ys ≡ e ∷ drop 1 (xs ++ ys)
first_of [] ys e some at = absurd (omega (arith, some))
first_of (x ∷ xs) ys e some at = ap (λ y. y ∷ xs ++ ys) (sym at) ∙ ap (λ es. e ∷ es) (sym (drop_none (xs ++ ys)))

module _ (blocks : List (NumberMap ℕ)) (i n : ℕ) (left : List (ℕ × ℕ)) (view : drop i (joined blocks) ≡ left) (b : NumberMap ℕ)
    (others : List (NumberMap ℕ)) (are : blocks ≡ b ∷ others) (size : n ≡ map.len b) where
  length_is : n ≡ length (map.entries b)
  length_is = size ∙ map.len-entries b

  -- within the block
  pub entry_next : (e : ℕ × ℕ) → i < n → e ≡ get_or (map.entries b) i e → left ≡ e ∷ drop (i + 1) (joined blocks)
  entry_next e less at =
      let short : i < length (map.entries b) = subst (λ j. i < j) length_is less in
      let whole : length (map.entries b ++ joined others) ≡ length (map.entries b) + length (joined others) =
      length-append (map.entries b) (joined others) in
      sym view ∙ ap (λ bs. drop i (joined bs)) are
      ∙ drop-cons (map.entries b ++ joined others) i e (omega (arith, short, whole))
      ∙ ap (λ x. x ∷ drop (suc i) (map.entries b ++ joined others))
      (get_or_append_left (map.entries b) (joined others) e i short ∙ sym at)
      ∙ ap (λ j. e ∷ drop j (map.entries b ++ joined others)) (sym (add-one i))
      ∙ ap (λ bs. e ∷ drop (i + 1) (joined bs)) (sym are)

  -- behind the last block
  pub entry_none : length others ≡ 0 → n ≤ i → left ≡ []
  entry_none none last = by others are none
    where
      by : (rest : List (NumberMap ℕ)) → blocks ≡ b ∷ rest → length rest ≡ 0 → left ≡ []
      by [] is none =
          sym view ∙ ap (λ bs. drop i (joined bs)) is ∙ ap (drop i) (append-nil (map.entries b))
          ∙ drop_of_length-le (map.entries b) (subst (λ j. j ≤ i) length_is last)
      by (c ∷ rest) is none = absurd (omega (arith, none))

  -- at the end of the block, and another stands behind it
  pub entry_turn : IsStart i blocks → n ≤ i → (c : NumberMap ℕ) (rest : List (NumberMap ℕ)) → others ≡ c ∷ rest → (e : ℕ × ℕ)
      → e ≡ get_or (map.entries c) 0 e → left ≡ e ∷ drop 1 (joined others)
  entry_turn start last c rest more e at =
      let from : IsStart i (b ∷ others) = subst (IsStart i) are start in
      let most : i ≤ map.len b = from.0 in
      let end : i ≡ length (map.entries b) = (let same = length_is in omega (arith, size, same, most, last)) in
      let some : 0 < map.len c = (subst (λ bs. IsStart i (b ∷ bs)) more from).1.0 in
      sym view ∙ ap (λ bs. drop i (joined bs)) are ∙ ap (λ j. drop j (map.entries b ++ joined others)) end
      ∙ drop-append_seam (map.entries b) (joined others) ∙ ap joined more
      ∙ first_of (map.entries c) (joined rest) e (subst (λ j. 0 < j) (map.len-entries c) some) at
      ∙ ap (λ bs. e ∷ drop 1 (joined bs)) (sym more)

pub fewer_left : (left new : List (ℕ × ℕ)) (e : ℕ × ℕ) → left ≡ e ∷ new → length new < length left
fewer_left left new e is = let size : length left ≡ suc (length new) = ap length is in omega (arith, size)
